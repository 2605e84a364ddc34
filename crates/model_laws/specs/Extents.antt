-- How far a call goes: whether it may turn the displays' flags, how many handles it may make, and whether it may remove some.
use Rattle.std.specs.Prelude.{◌≡◌, ℕ, Bool, true, false, ◌||◌, Option, is_some}
use Rattle.std.specs.Option.{option_map_or}
use Rattle.display_table.specs.declared.handles.HandleKind.{HandleKind}
use Rattle.call_table.specs.Roles.{created, destroyed}
use Rattle.call_table.specs.Rows.{egl_role}
use Rattle.egl_calls.specs.declared.kinds.Kind.{Kind}
use Rattle.egl_calls.specs.declared.kinds.Kind.TheVariants.{Egl}
use Rattle.egl_calls.specs.declared.kinds.EglKind.{EglKind}
use Rattle.egl_calls.specs.declared.kinds.EglKind.TheVariants.{Initialize, Terminate}
use Rattle.egl_model.specs.State.{State}

pub record Extent : Type 0 where
  pub flags : Bool
  pub handles : ℕ
  pub drops : Bool

abbrev pub quiet : Extent
quiet = record { flags = false; handles = 0; drops = false }

abbrev pub making : Extent
making = record { flags = false; handles = 1; drops = false }

abbrev pub flagging : Extent
flagging = record { flags = true; handles = 0; drops = false }

abbrev pub dropping : Extent
dropping = record { flags = false; handles = 0; drops = true }

-- a display ends
abbrev pub ending : Extent
ending = record { flags = true; handles = 0; drops = true }

abbrev pub SameFlags : State → State → Type 0
SameFlags s a = (a.first ≡ s.first) × (a.second ≡ s.second)

-- the kind of the handle that a call makes
abbrev pub made_handle : EglKind → Option HandleKind
made_handle k = created (egl_role k)

-- the kind of the handle that a call destroys
abbrev pub destroyed_handle : EglKind → Option HandleKind
destroyed_handle k = destroyed (egl_role k)

-- whether a call turns a display's flag
abbrev pub turns_flag : EglKind → Bool
turns_flag Initialize = true
turns_flag Terminate = true
turns_flag k = false

-- whether a call takes the handles of a display
abbrev pub ends_display : EglKind → Bool
ends_display Terminate = true
ends_display k = false

abbrev pub egl_extent : EglKind → Extent
egl_extent k = record {
  flags = turns_flag k;
  handles = option_map_or (λ h. 1) (made_handle k) 0;
  drops = ends_display k || is_some (destroyed_handle k);
}

abbrev pub extent_of_kind : Kind → Extent
extent_of_kind (Egl k) = egl_extent k
extent_of_kind k = quiet
