-- States that are sound, as each step leaves them.
use Rattle.std.specs.Prelude.{◌≡◌, ◌≢◌, ℕ, ℤ, ◌<◌, ◌≤◌, List, true, false, All, AllPairs, is_some, Option, Some, IfSome}
use Rattle.std.specs.Option.{option_map}
use Rattle.egl_calls.specs.Ranges.{unsigned}
use Rattle.surface_store.specs.Windows.{WindowValue}
use Rattle.surface_store.specs.WindowTables.{window_of}
use Rattle.egl_model.specs.declared.records.Bound.{Bound}
use Rattle.egl_model.specs.State.{State, object_at, record_of}
use Rattle.egl_model.specs.Currents.{has_context, has_surface}
use Rattle.model_laws.specs.Laws.{HasNoLitter}
use Rattle.model_laws.specs.Kinds.{KindsFit}
use Rattle.egl_model.specs.Graph.{is_in}
use Rattle.egl_model.specs.Links.{IsLinked}
use Rattle.model_laws.specs.Shapes.{Shape, frozen_at, own_at, pixels_in, shapes, sides_at, window_id_at}
use Rattle.model_laws.specs.Slots.{Sides}
use Rattle.model_laws.specs.Full.{IsFull}
use Rattle.model_laws.specs.Wants.{PixelsFit}

-- a context may be current to at most one thread, and so may a surface, whether it is drawn to or read from (EGL 1.5, section 3.7.3)
pub record IsAlone (s : State) : Type 0 where
  pub contexts : (t u n : ℕ) → has_context n (record_of s t) ≡ true → has_context n (record_of s u) ≡ true → t ≡ u
  pub surfaces : (t u n : ℕ) → has_surface n (record_of s t) ≡ true → has_surface n (record_of s u) ≡ true → t ≡ u

-- a thread has a current context wherever it has a surface to draw to, and a surface to read from exactly there (section 3.7.3)
pub record HasBothOrNone (s : State) : Type 0 where
  pub draw : (t : ℕ) → is_some (record_of s t).draw ≡ true → is_some (record_of s t).context ≡ true
  pub read : (t : ℕ) → is_some (record_of s t).read ≡ is_some (record_of s t).draw

-- a number that a handle was given, or may have been: 3 or more, and below that of the next handle
abbrev pub IsGiven : State → ℕ → Type 0
IsGiven s number = (3 ≤ number) × (number < s.next_handle)

-- nothing is bound, or it was bound by a handle with such a number
abbrev pub IsBoundGiven : State → Option Bound → Type 0
IsBoundGiven s bound = IfSome bound (λ b. IsGiven s b.handle)

-- numbers of handles start at 3. Each valid handle has one below the next one, and no two have one (section 2.1); so has each handle by which a thread's context or surfaces are bound, even where it isn't valid any more
pub record NumbersAreGiven (s : State) : Type 0 where
  pub next : 3 ≤ s.next_handle
  pub handles : All (λ h. IsGiven s h.number) s.handles
  pub apart : AllPairs (λ g h. g.number ≢ h.number) s.handles
  pub context : (t : ℕ) → IsBoundGiven s (record_of s t).context
  pub draw : (t : ℕ) → IsBoundGiven s (record_of s t).draw
  pub read : (t : ℕ) → IsBoundGiven s (record_of s t).read

-- what refers to a surface's storage is that surface (section 3.5.2)
pub record StoragesAreOwn (sh : List (Option Shape)) (s : State) : Type 0 where
  pub each : (m n k : ℕ) → own_at sh m ≡ Some k → is_in k (pixels_in (object_at s n)) ≡ true → n ≡ m

-- and its pixels aren't frozen: nothing shares them
pub record OwnAreThawed (sh : List (Option Shape)) : Type 0 where
  pub each : (m n : ℕ) → own_at sh m ≡ Some n → frozen_at sh n ≡ false

-- the sides of what a window shows, and of the window of an id, where it is declared
abbrev pub front_sides : WindowValue → Sides
front_sides w = record { width = w.front.width; height = w.front.height }

abbrev pub window_sides : ℕ → List WindowValue → Option Sides
window_sides id ws = option_map front_sides (window_of id ws)

-- a surface has the sides of its storage; that of a window has those of the window, which is declared (sections 3.5.1 and 3.10.1)
pub record SidesAgree (sh : List (Option Shape)) (ws : List WindowValue) : Type 0 where
  pub storage : (m n : ℕ) → own_at sh m ≡ Some n → sides_at sh n ≡ sides_at sh m
  pub window : (m : ℕ) (id : ℤ) → window_id_at sh m ≡ Some id → sides_at sh m ≡ window_sides (unsigned id) ws

-- what each change of a state keeps, seen with the shapes of its objects
pub record IsWhole (sh : List (Option Shape)) (s : State) : Type 0 where
  pub kinds : KindsFit sh s
  pub storages : StoragesAreOwn sh s
  pub thawed : OwnAreThawed sh
  pub sides : SidesAgree sh s.windows
  pub alone : IsAlone s
  pub both : HasBothOrNone s
  pub numbers : NumbersAreGiven s

-- all of this holds; each object is reached, each reference leads to an object, no part of a context and no image is out, and all pixels fit
pub record IsSound (s : State) : Type 0 where
  pub litter : HasNoLitter s
  pub linked : IsLinked s
  pub whole : IsWhole (shapes s.objects) s
  pub full : IsFull s
  pub pixels : PixelsFit s
