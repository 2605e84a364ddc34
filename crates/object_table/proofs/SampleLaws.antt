-- What is sampled of a table's objects is what is sampled of its nodes.
use Rattle.std.proofs.Common.{◌≡◌, ℕ, ap, ◌∙◌}
use Rattle.std.proofs.Math.Path.{fun_ext}
use Rattle.std.specs.Option.{option_and_then}
use Rattle.pixel_rows.specs.declared.rects.Rect.{Rect}
use Rattle.egl_model.specs.Draws.{sampler_in}
use Rattle.egl_model.specs.Objects.{as_storage, as_texture, storage_in, texture_in}
use Rattle.ref_store.specs.Kept.{at}
use Rattle.object_table.specs.Nodes.{object_in, objects_of}
use Rattle.object_table.specs.Samples.{sampler_from, stored_in}
use Rattle.object_table.proofs.StoreLaws.{Below, Cells, object_at}

pub same_look : (next : ℕ) (s : Cells) → Below s next → (λ m. storage_in (objects_of next s) m) ≡ stored_in s
same_look next s b = fun_ext (λ m. ap as_storage (object_at next s b m))

pub same_sampler : (next : ℕ) (s : Cells) → Below s next → (r : Rect) (n : ℕ) →
    option_and_then (sampler_in (objects_of next s) r) (texture_in (objects_of next s) n) ≡ sampler_from (stored_in s) r (as_texture (object_in (at s n)))
same_sampler next s b r n =
    ap (λ look. sampler_from look r (texture_in (objects_of next s) n)) (same_look next s b)
    ∙ ap (λ o. sampler_from (stored_in s) r (as_texture o)) (object_at next s b n)
