-- The pixels of a table's objects are those of its nodes.
use Rattle.std.proofs.Common.{◌≡◌, ℕ, refl, ap, Option, None, Some}
use Rattle.egl_model.specs.Copies.{pixels_of}
use Rattle.egl_model.specs.Parts.{image_in}
use Rattle.object_table.specs.Copies.{image_under}
use Rattle.object_table.specs.Nodes.{objects_of}
use Rattle.object_table.proofs.StoreLaws.{Below, Cells, object_at}

pub same_pixels : (next : ℕ) (s : Cells) → Below s next → (o : Option ℕ) → pixels_of (objects_of next s) o ≡ image_under s o
same_pixels next s b (Some n) = ap image_in (object_at next s b n)
same_pixels next s b None = refl
