-- Handles, in the order of their making (EGL 1.5, section 2.1).
use Rattle.std.specs.Prelude.{◌≡◌, ℕ, ◌+◌, ◌≤◌, Bool, ◌&&◌, ◌||◌, ◌==◌, not, List, [], ◌∷◌, ◌++◌, Option, None, Some, IfNone, map}
use Rattle.std.specs.List.{filter, find, last_or}
use Rattle.std.specs.Option.{option_map, option_to_list}
use Rattle.display_table.specs.declared.handles.Handle.{Handle}
use Rattle.display_table.specs.declared.handles.HandleKind.{HandleKind}
use Rattle.display_table.specs.declared.handles.HandleKind.TheVariants.{Context, Surface, Image, Sync}

abbrev pub kind_place : HandleKind → ℕ
kind_place Context = 0
kind_place Surface = 1
kind_place Image = 2
kind_place Sync = 3

abbrev pub is_same_kind : HandleKind → HandleKind → Bool
is_same_kind k l = kind_place k == kind_place l

-- there are two displays
abbrev pub is_display : ℕ → Bool
is_display display = display == 1 || display == 2

-- a handle of this number and kind, on any display
abbrev pub is_named : ℕ → HandleKind → Handle → Bool
is_named number kind h = (h.number == number) && is_same_kind h.kind kind

abbrev pub is_on : ℕ → Handle → Bool
is_on display h = h.display == display

-- a handle of this number and kind, on this display
abbrev pub is_named_on : ℕ → ℕ → HandleKind → Handle → Bool
is_named_on display number kind h = is_named number kind h && is_on display h

-- the object that a number names as a handle of its display and kind
abbrev pub valid : ℕ → ℕ → HandleKind → List Handle → Option ℕ
valid display number kind handles = option_map (λ h. h.object) (find (is_named_on display number kind) handles)

-- the handles of a display
abbrev pub on_display : ℕ → List Handle → List Handle
on_display display handles = filter (is_on display) handles

-- the handles of all other displays
abbrev pub off_display : ℕ → List Handle → List Handle
off_display display handles = filter (λ h. not (is_on display h)) handles

-- the objects of a display's handles, in the order of making
abbrev pub objects_on : ℕ → List Handle → List ℕ
objects_on display handles = map (λ h. h.object) (on_display display handles)

-- the handle of a display that was made last
unfoldable pub newest : ℕ → List Handle → Option Handle
newest display handles = last_or None (on_display display handles)

-- without the handle of this number
abbrev pub without : ℕ → List Handle → List Handle
without number handles = filter (λ h. not (h.number == number)) handles

abbrev pub without_found : Option Handle → List Handle → List Handle
without_found None handles = handles
without_found (Some h) handles = without h.number handles

-- numbers rise in the order of making, from `low` at least, and are below `end`
abbrev pub RiseFrom : ℕ → List Handle → ℕ → Type 0
RiseFrom low [] end = low ≤ end
RiseFrom low (h ∷ more) end = (low ≤ h.number) × RiseFrom (h.number + 1) more end

-- the handle of a display that was made last is taken, and its object answered
pub record Takes (display : ℕ) (old new : List Handle) (taken : Option ℕ) : Type 0 where
  pub object : taken ≡ option_map (λ h. h.object) (newest display old)
  pub rest : new ≡ without_found (newest display old) old
  -- so the objects of the display are answered, each once for each handle, and then none
  pub objects : objects_on display old ≡ objects_on display new ++ option_to_list taken
  pub none : IfNone taken (on_display display old ≡ [])
  pub others : off_display display new ≡ off_display display old
