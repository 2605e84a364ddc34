-- What names an object names one of the right kind.
use Rattle.std.specs.Prelude.{◌≡◌, ℕ, All, List, Option, Some}
use Rattle.std.specs.Option.{option_map}
use Rattle.driver_objects.specs.Objects.{kind_of}
use Rattle.driver_objects.specs.declared.kinds.ObjectKind.{ObjectKind}
use Rattle.driver_objects.specs.declared.kinds.ObjectKind.TheVariants.{Context, Surface, Image, Sync}
use Rattle.display_table.specs.declared.handles.Handle.{Handle}
use Rattle.display_table.specs.declared.handles.HandleKind.{HandleKind}
use Rattle.display_table.specs.declared.handles.HandleKind.TheVariants.{Context as a_context, Surface as a_surface, Image as an_image, Sync as a_sync}
use Rattle.egl_model.specs.State.{State, object_at, record_of}
use Rattle.model_laws.specs.Slots.{held_slots}
use Rattle.model_laws.specs.Shapes.{HasKind, Leads, Shape, slots_in}

-- the kind of objects that handles of a kind name
abbrev pub named_kind : HandleKind → ObjectKind
named_kind a_context = Context
named_kind a_surface = Surface
named_kind an_image = Image
named_kind a_sync = Sync

-- an object of this number exists, and is of this kind
abbrev pub IsA : ObjectKind → State → ℕ → Type 0
IsA k s n = option_map kind_of (object_at s n) ≡ Some k

abbrev pub NamesItsKind : List (Option Shape) → Handle → Type 0
NamesItsKind sh h = HasKind sh (named_kind h.kind) h.object

-- handles name objects of their kind, and each slot of a thread or of an object leads to one of its kind
pub record KindsFit (sh : List (Option Shape)) (s : State) : Type 0 where
  pub handles : All (NamesItsKind sh) s.handles
  pub threads : (t : ℕ) → Leads sh (held_slots (record_of s t))
  pub objects : (n : ℕ) → Leads sh (slots_in (object_at s n))
