-- What a draw of texels leaves.
use Rattle.std.proofs.Common.{◌≡◌, ℕ, ◌+◌, ◌-◌, ◌<◌, Bool, true, false, cond, List, get_or, take, refl, sym, ap, ◌∙◌, arith}
use Rattle.std.proofs.lemmas.List.{get_or-take}
use Rattle.pixel_formats.specs.Formats.{base_of}
use Rattle.pixel_formats.specs.Pixels.{quantize}
use Rattle.pixel_formats.specs.declared.formats.Base.{Base}
use Rattle.pixel_formats.specs.declared.formats.Format.{Format}
use Rattle.pixel_formats.specs.declared.pixels.Pixel.{Pixel}
use Rattle.pixel_rows.specs.Images.{ImageValue, IsImage, pixel_at}
use Rattle.pixel_rows.specs.Masks.{every, mask_in, masked}
use Rattle.pixel_rows.specs.Painting.{painted}
use Rattle.pixel_rows.specs.declared.masks.Mask.{Mask}
use Rattle.rect_pipeline.proofs.Covers.{region_is, span_is}
use Rattle.rect_pipeline.proofs.LawsHold.{replaced-kept, white-modulated}
use Rattle.rect_pipeline.proofs.Painted.{painted_like, painted_same}
use Rattle.rect_pipeline.specs.Drawing.{fragment_of}
use Rattle.rect_pipeline.specs.Fragments.{combined, modulated, replaced, white}
use Rattle.rect_pipeline.specs.Targets.{in_region, in_span}
use Rattle.rect_pipeline.specs.Texels.{texel_at}
use Rattle.rect_pipeline.specs.declared.axes.Axis.{Axis}
use Rattle.rect_pipeline.specs.declared.fragments.Environment.{Environment}
use Rattle.rect_pipeline.specs.declared.spans.Span.{Span}
use Rattle.rect_pipeline.specs.declared.targets.Region.{Region}

-- a list has the texels of a span
abbrev pub Shows : Axis → Span → List ℕ → Type 0
Shows a s list = (u : ℕ) → in_span s u ≡ true → get_or list (u - s.start) 0 ≡ texel_at a u

pub shows : (a : Axis) (s : Span) (list shown : List ℕ) → shown ≡ take (s.end - s.start) list →
    ((k : ℕ) → k < s.end - s.start → get_or list k 0 ≡ texel_at a (s.start + k)) → Shows a s shown
shows a s list shown cut each u t =
    let at = span_is s u t in
    let within : u - s.start < s.end - s.start = omega (arith, at.0, at.1) in
    let same : s.start + (u - s.start) ≡ u = omega (arith, at.0) in
    ap (λ l. get_or l (u - s.start) 0) cut ∙ get_or-take (s.end - s.start) list (u - s.start) 0 within ∙ each (u - s.start) within ∙ ap (texel_at a) same

pub region_combined : (v new image : ImageValue) (r : Region) (e : Environment) (mask : Mask) (list : List ℕ) (columns rows : Axis) → IsImage v → Shows columns r.columns list →
    new ≡ painted v (in_region r) (λ x y. fragment_of e (pixel_at image (get_or list (x - r.columns.start) 0) (texel_at rows y))) mask →
    new ≡ painted v (in_region r) (λ x y. fragment_of e (pixel_at image (texel_at columns x) (texel_at rows y))) mask
region_combined v new image r e mask list columns rows whole each is =
    is ∙ painted_same v (in_region r) (in_region r) _ _ mask whole (λ x y h l. refl)
    (λ x y h l t. ap (λ i. fragment_of e (pixel_at image i (texel_at rows y))) (each x (region_is r x y t).0))

-- the fragment by GL_REPLACE, and by the colour white, leaves of a pixel of the texture's format the texel
pub kept_replaced : (f : Format) (r : Bool) (b : Base) (c t : Pixel) → r ≡ true → b ≡ base_of f → quantize f (combined r b c t) ≡ quantize f t
kept_replaced f r b c t on base =
    ap (λ x. quantize f (cond x (replaced b c t) (modulated b c t))) on ∙ ap (λ x. quantize f (replaced x c t)) base ∙ replaced-kept f c t

pub kept_white : (f : Format) (r : Bool) (b : Base) (c t : Pixel) → r ≡ false → c ≡ white → b ≡ base_of f → quantize f (combined r b c t) ≡ quantize f t
kept_white f r b c t off is base =
    ap (λ x. quantize f (cond x (replaced b c t) (modulated b c t))) off
    ∙ ap (λ x. quantize f (modulated b x t)) is
    ∙ ap (quantize f) (white-modulated b t)
    ∙ ap (λ x. quantize f (replaced x white t)) base
    ∙ replaced-kept f white t

-- texels as they are, where a pixel of the texture's format keeps just them of the fragments
pub texels_drawn : (v new image : ImageValue) (r : Region) (e : Environment) (mask : Mask) (t : ℕ → ℕ → Pixel) → IsImage v → image.format ≡ v.format →
    ((f : Format) (p : Pixel) → e.base ≡ base_of f → quantize f (fragment_of e p) ≡ quantize f p) → e.base ≡ base_of image.format → mask ≡ every →
    new ≡ painted v (in_region r) t every → new ≡ painted v (in_region r) (λ x y. fragment_of e (t x y)) mask
texels_drawn v new image r e mask t whole same keeps base all is =
    is ∙ ap (painted v (in_region r) t) (sym all)
    ∙ painted_like v (in_region r) (in_region r) t (λ x y. fragment_of e (t x y)) mask whole (λ x y h l. refl)
    (λ x y o h l c. ap (masked (mask_in v.format mask) o) (sym (keeps v.format (t x y) (base ∙ ap (λ f. base_of f) same))))
