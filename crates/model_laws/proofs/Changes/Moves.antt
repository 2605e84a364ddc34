-- A change of a state as a row of moves, and what each move asks.
use Rattle.std.specs.Prelude.{◌≡◌, ◌≢◌, ℕ, ℤ, ◌+◌, ◌≤◌, Bool, true, false, ◌||◌, ◌⊎◌, List, [], ◌∷◌, ◌++◌, filter, length, is_some, slice_index_or, Option, None, Some}
use Rattle.std.specs.Option.{option_and_then, option_map}
use Rattle.egl_calls.specs.declared.errors.EglError.{EglError}
use Rattle.driver_objects.specs.declared.kinds.ObjectKind.TheVariants.{Context, Surface, Sync as a_sync}
use Rattle.context_state.specs.Parts.{PartValue}
use Rattle.pixel_rows.specs.Images.{ImageValue}
use Rattle.egl_calls.specs.Ranges.{unsigned}
use Rattle.surface_store.specs.WindowTables.{swapped_windows}
use Rattle.surface_store.specs.Windows.{WindowValue}
use Rattle.driver_objects.specs.declared.objects.Object.{Object}
use Rattle.model_laws.specs.Slots.{Sides, is_frozen, own_of, sides_of, slot, window_id_of}
use Rattle.display_table.specs.declared.handles.Handle.{Handle}
use Rattle.display_table.specs.declared.handles.HandleKind.{HandleKind}
use Rattle.egl_model.specs.declared.records.Bound.{Bound}
use Rattle.egl_model.specs.declared.records.ThreadRecord.{ThreadRecord}
use Rattle.model_laws.specs.Full.{Full}
use Rattle.egl_model.specs.Graph.{is_in}
use Rattle.egl_model.specs.State.{State, initial, set_error}
use Rattle.model_laws.specs.Extents.{Extent, flagging, making, quiet, dropping}
use Rattle.egl_model.specs.Objects.{change, surface_in}
use Rattle.egl_model.specs.Parts.{is_place, set_image, set_part}
use Rattle.egl_model.specs.Currents.{has_context, has_surface, is_bound}
use Rattle.egl_model.specs.MakeCurrent.{bind}
use Rattle.model_laws.specs.Kinds.{named_kind}
use Rattle.model_laws.specs.Shapes.{Goes, HasKind, IsFree, Leads, Shape, frozen_at, pixels_in, shape_in, shapes, sides_at, slots_in}
use Rattle.egl_model.specs.Waits.{waiting}
use Rattle.model_laws.specs.Sound.{IsBoundGiven, IsWhole, window_sides}
use Rattle.egl_model.specs.Sweep.{bytes_in, live_bytes}

pub data Move : Type 0 where
  -- the flags of the displays
  Flags : Bool → Bool → Move
  -- an image swapped into the window of an id, where that has its sides
  Swap : ℕ → ImageValue → Move
  -- the thread's error, and its context, draw surface and read surface
  Note : EglError → Move
  Bind : Option Bound → Option Bound → Option Bound → Move
  -- what it waits for
  Wait : Option ℕ → Move
  -- an object changed in place, and new objects behind all others
  Change : ℕ → (Option Object → Option Object) → Move
  -- the same, to at most so many bytes more
  Resize : ℕ → (Option Object → Option Object) → ℕ → Move
  Add : List (Option Object) → Move
  -- a new handle of a display and a kind for an object; only the handles that pass stay
  Name : ℕ → HandleKind → ℕ → Move
  Keep : (Handle → Bool) → Move

abbrev pub apply : ℕ → Move → State → State
apply t (Flags a b) s = record s { first = a; second = b }
apply t (Swap id i) s = record s { windows = swapped_windows id i s.windows }
apply t (Note e) s = set_error s t e
apply t (Bind c d r) s = bind s t c d r
apply t (Wait x) s = waiting s t x
apply t (Change n f) s = record s { objects = change f n s.objects }
apply t (Resize n f b) s = record s { objects = change f n s.objects }
apply t (Add os) s = record s { objects = s.objects ++ os }
apply t (Name d k n) s = record s { handles = s.handles ++ record { number = s.next_handle; display = d; kind = k; object = n } ∷ []; next_handle = s.next_handle + 1 }
apply t (Keep p) s = record s { handles = filter p s.handles }

-- the moves of thread t, in order
abbrev pub play : ℕ → List Move → State → State
play t [] s = s
play t (m ∷ ms) s = play t ms (apply t m s)

-- ---- How far a change goes.
abbrev pub extent_of : Move → Extent
extent_of (Flags a b) = flagging
extent_of (Name d k n) = making
extent_of (Keep p) = dropping
extent_of m = quiet

abbrev pub joined : Extent → Extent → Extent
joined e f = record { flags = e.flags || f.flags; handles = e.handles + f.handles; drops = e.drops || f.drops }

abbrev pub extent : List Move → Extent
extent [] = quiet
extent (m ∷ ms) = joined (extent_of m) (extent ms)

-- ---- What is asked in every state: no change in place turns an object's kind, own storage or bytes.
pub record Body : Type 0 where
  pub shape : Option Shape
  pub bytes : ℕ

abbrev pub body_in : Option Object → Body
body_in o = record { shape = shape_in o; bytes = bytes_in o }

abbrev pub Holds : Move → Type 0
Holds (Change n f) = (o : Option Object) → body_in (f o) ≡ body_in o
Holds (Resize n f b) = ((o : Option Object) → shape_in (f o) ≡ shape_in o) × ((o : Option Object) → bytes_in (f o) ≤ bytes_in o + b)
Holds m = Unit {0}

abbrev pub AllHold : List Move → Type 0
AllHold [] = Unit {0}
AllHold (m ∷ ms) = Holds m × AllHold ms

-- and of a call's moves, that none takes a part or an image out, and that each image keeps its format and sides
pub record Setter (f : Option Object → Option Object) : Type 0 where
  pub body : (o : Option Object) → body_in (f o) ≡ body_in o
  pub full : (o : Option Object) → Full o → Full (f o)

abbrev pub AllFull : List (Option Object) → Type 0
AllFull [] = Unit {0}
AllFull (o ∷ os) = Full o × AllFull os

abbrev pub Sets : Move → Type 0
Sets (Change n f) = Setter f
Sets (Resize n f b) = Holds (Resize n f b) × ((o : Option Object) → Full o → Full (f o))
Sets (Add os) = AllFull os
Sets m = Unit {0}

abbrev pub AllSet : List Move → Type 0
AllSet [] = Unit {0}
AllSet (m ∷ ms) = Sets m × AllSet ms

-- the bytes of the new objects
abbrev pub bytes_made : List Move → ℕ
bytes_made [] = 0
bytes_made (Add os ∷ ms) = live_bytes os + bytes_made ms
bytes_made (Resize n f b ∷ ms) = b + bytes_made ms
bytes_made (m ∷ ms) = bytes_made ms

-- ---- What is asked in a whole state, of the shapes of its objects.
-- no record but that of this thread passes
abbrev pub NoneElse : (ThreadRecord → Bool) → List ThreadRecord → ℕ → Type 0
NoneElse p ts t = (u : ℕ) → u ≢ t → p (slice_index_or ts u initial) ≡ false

-- a setter, and what is put of a context's own part or of a storage's image, may come in either order
abbrev pub PastPart : (Option Object → Option Object) → Type 0
PastPart f = (x : Option PartValue) (o : Option Object) → set_part x (f o) ≡ f (set_part x o)

abbrev pub PastImage : (Option Object → Option Object) → Type 0
PastImage f = (y : Option ImageValue) (o : Option Object) → set_image y (f o) ≡ f (set_image y o)

-- both, for most setters
abbrev pub Past : (Option Object → Option Object) → Type 0
Past f = (x : Option PartValue) (y : Option ImageValue) (o : Option Object) → (set_part x (f o) ≡ f (set_part x o)) × (set_image y (f o) ≡ f (set_image y o))

-- whether a thread with this record draws to a storage, or reads from it
abbrev pub link : List (Option Object) → Option Bound → Option ℕ
link os b = option_map (λ x. x.storage) (option_and_then (λ x. surface_in os x.object) b)

abbrev pub draws : List (Option Object) → ℕ → ThreadRecord → Bool
draws os n r = is_place n (link os r.draw) || is_place n (link os r.read)

-- a changed object's slots lead to objects of their kinds, and it gets no storage of a surface; what changes a context's own part is made of no context that is current to another thread, and what changes an image of no storage that another thread draws to or reads from
pub record Suits (t : ℕ) (sh : List (Option Shape)) (s : State) (n : ℕ) (f : Option Object → Option Object) : Type 0 where
  pub leads : (o : Option Object) → Leads sh (slots_in o) → Leads sh (slots_in (f o))
  pub pixels : (o : Option Object) (k : ℕ) → is_in k (pixels_in (f o)) ≡ true → (is_in k (pixels_in o) ≡ true) ⊎ IsFree sh k
  pub part : PastPart f ⊎ NoneElse (has_context n) s.threads t
  pub image : PastImage f ⊎ NoneElse (draws s.objects n) s.threads t

-- what is bound is of its kind and bound to no other thread, both surfaces or none and these with a context, under numbers of handles that were given
pub record Binds (t : ℕ) (sh : List (Option Shape)) (s : State) (c d r : Option Bound) : Type 0 where
  pub leads : Leads sh (slot 0 Context (option_map (λ b. b.object) c) ∷ slot 1 Surface (option_map (λ b. b.object) d) ∷ slot 2 Surface (option_map (λ b. b.object) r) ∷ [])
  pub contexts : (n : ℕ) → is_bound n c ≡ true → NoneElse (has_context n) s.threads t
  pub draws : (n : ℕ) → is_bound n d ≡ true → NoneElse (has_surface n) s.threads t
  pub reads : (n : ℕ) → is_bound n r ≡ true → NoneElse (has_surface n) s.threads t
  pub draw : is_some d ≡ true → is_some c ≡ true
  pub read : is_some r ≡ is_some d
  pub context_below : IsBoundGiven s c
  pub draw_below : IsBoundGiven s d
  pub read_below : IsBoundGiven s r

abbrev pub own_in : Option Object → Option ℕ
own_in None = None
own_in (Some o) = own_of o

abbrev pub frozen_in : Option Object → Bool
frozen_in None = false
frozen_in (Some o) = is_frozen o

abbrev pub sides_in : Option Object → Option Sides
sides_in None = None
sides_in (Some o) = sides_of o

abbrev pub window_id_in : Option Object → Option ℤ
window_id_in None = None
window_id_in (Some o) = window_id_of o

-- a new object at a place has no storage of a surface, but that a surface's own storage stands right behind it, isn't frozen and has its sides; a window's surface has those of the window
pub record IsStored (sh : List (Option Shape)) (ws : List WindowValue) (place : ℕ) (o : Option Object) : Type 0 where
  pub own : (k : ℕ) → own_in o ≡ Some k → k ≡ place + 1
  pub thawed : (k : ℕ) → own_in o ≡ Some k → frozen_at sh k ≡ false
  pub pixels : (k : ℕ) → is_in k (pixels_in o) ≡ true → (k ≡ place + 1) ⊎ IsFree sh k
  pub sides : (k : ℕ) → own_in o ≡ Some k → sides_at sh k ≡ sides_in o
  pub window : (id : ℤ) → window_id_in o ≡ Some id → sides_in o ≡ window_sides (unsigned id) ws

-- new objects, the first of them at base + j
abbrev pub Stands : List (Option Shape) → List WindowValue → ℕ → ℕ → List (Option Object) → Type 0
Stands sh ws base j [] = Unit {0}
Stands sh ws base j (o ∷ os) = Leads sh (slots_in o) × IsStored sh ws (base + j) o × Stands sh ws base (j + 1) os

abbrev pub shapes_after : List (Option Shape) → Move → List (Option Shape)
shapes_after sh (Add os) = sh ++ shapes os
shapes_after sh m = sh

abbrev pub Fits : ℕ → List (Option Shape) → State → Move → Type 0
Fits t sh s (Bind c d r) = Binds t sh s c d r
Fits t sh s (Change n f) = Suits t sh s n f
Fits t sh s (Resize n f b) = Suits t sh s n f
Fits t sh s (Wait x) = Goes sh a_sync x
Fits t sh s (Add os) = Stands (sh ++ shapes os) s.windows (length s.objects) 0 os
Fits t sh s (Name d k n) = HasKind sh (named_kind k) n
Fits t sh s m = Unit {0}

-- each move fits the state that it comes to, which is whole
abbrev pub AllFit : ℕ → List (Option Shape) → State → List Move → Type 0
AllFit t sh s [] = Unit {0}
AllFit t sh s (m ∷ ms) = IsWhole sh s → Fits t sh s m × AllFit t (shapes_after sh m) (apply t m s) ms
