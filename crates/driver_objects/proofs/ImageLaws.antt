-- A cleared image is frozen exactly where it was.
use Rattle.std.proofs.Common.{◌≡◌, ℕ, ℤ, true, Option, sym, ap, ◌∙◌, rules, SFits, w64}
use Rattle.context_state.specs.Parts.{PartValue}
use Rattle.pixel_rows.specs.Images.{ImageValue}
use Rattle.pixel_rows.specs.Painting.{painted}
use Rattle.rect_pipeline.specs.Clearing.{coloured}
use Rattle.rect_pipeline.specs.Copying.{copied_into}
use Rattle.pixel_rows.specs.declared.rects.Rect.{Rect}
use Rattle.rect_pipeline.specs.Drawing.{drawn}
use Rattle.rect_pipeline.specs.Samplers.{SamplerValue, drawn_with}
use Rattle.rect_pipeline.specs.Signed.{IsDrawNumber}
use Rattle.egl_calls.specs.Calls.{CallValue}
use Rattle.pixel_rows.specs.Payloads.{loaded}
use Rattle.texture_objects.specs.Uploads.{rewritten}
use Rattle.driver_objects.specs.Storages.{cleared_image, drawn_image, recopied_image, rewritten_image}

pub kept_owned : (p : PartValue) (i new : ImageValue) → i.owned ≡ true → new ≡ coloured i p → new ≡ cleared_image p i
unfolding coloured painted
kept_owned p i new e h = h ∙ ap (λ o. record (coloured i p) { owned = o }) (sym e)

-- ---- The same of one that is drawn into.
pub drawn_owned : (p : PartValue) (from : Option SamplerValue) (r : Rect) (i new : ImageValue) → i.owned ≡ true → new ≡ drawn_with i p from r.x r.y r.w r.h → new ≡ drawn_image p from r i
unfolding drawn painted
drawn_owned p from r i new e h = h ∙ ap (λ o. record (drawn_with i p from r.x r.y r.w r.h) { owned = o }) (sym e)

-- the numbers of a draw have 64 bits
pub fits : (z : ℤ) → IsDrawNumber z → SFits w64 z
fits z n = let low = n.low in let high = n.high in search rules

-- ---- The same of one to which another is copied.
pub copied_owned : (x y : ℕ) (from : ImageValue) (r : Rect) (i new : ImageValue) → i.owned ≡ true → new ≡ copied_into i x y from r → new ≡ recopied_image x y from r i
unfolding copied_into painted
copied_owned x y from r i new e h = h ∙ ap (λ o. record (copied_into i x y from r) { owned = o }) (sym e)

-- ---- The same of one of which a part is written.
pub rewritten_owned : (c : CallValue) (align : ℕ) (i new : ImageValue) → i.owned ≡ true → new ≡ rewritten c align i → new ≡ rewritten_image c align i
unfolding loaded painted
rewritten_owned c align i new e h = h ∙ ap (λ o. record (rewritten c align i) { owned = o }) (sym e)
