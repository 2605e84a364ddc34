-- Pixels in a store.
use Rattle.std.specs.Prelude.{ℕ, List, Option, None, Some}
use Rattle.pixel_rows.specs.Images.{ImageValue}
use Rattle.egl_model.specs.Parts.{image_in}
use Rattle.ref_store.specs.Kept.{Kept, at}
use Rattle.object_table.specs.declared.stored.Stored.{Stored}
use Rattle.object_table.specs.Nodes.{object_in}

-- those of a node that isn't taken out
abbrev pub image_of : Option Stored → Option ImageValue
image_of None = None
image_of (Some x) = image_in (Some x.object)

-- those of a number that there may be
abbrev pub image_under : List (Option (Kept Stored)) → Option ℕ → Option ImageValue
image_under nodes (Some n) = image_in (object_in (at nodes n))
image_under nodes None = None
