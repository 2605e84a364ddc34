-- The laws of uploads.
use Rattle.std.proofs.Common.{◌≡◌, ℕ, ℤ, pos, negsuc, ◌-◌, ◌*◌, ◌<◌, ◌≤◌, true, cond, List, [], Option, None, refl, sym, ap, ◌∙◌, arith}
use Rattle.std.proofs.Math.Path.{fun_ext}
use Rattle.std.proofs.lemmas.Bool.Decides.{nat_tests}
use Rattle.std.proofs.lemmas.Int.{ints}
use Rattle.std.proofs.lemmas.List.{length-replicate}
use Rattle.std.proofs.lemmas.Bool.{and_from}
use Rattle.egl_calls.specs.Calls.{CallValue}
use Rattle.egl_calls.specs.Ranges.{unsigned}
use Rattle.pixel_formats.specs.Formats.{base_of}
use Rattle.pixel_formats.specs.Pixels.{quantize, unpack}
use Rattle.pixel_formats.specs.declared.formats.Base.{Base}
use Rattle.pixel_formats.specs.declared.formats.Base.TheVariants.{Rgb, Rgba, Alpha, Luminance, LuminanceAlpha}
use Rattle.pixel_formats.specs.declared.formats.Format.{Format}
use Rattle.pixel_formats.specs.declared.formats.Format.TheVariants.{Rgb565, Rgb888, Rgba8888, Rgba4444, Rgba5551, A8, L8, La88}
use Rattle.pixel_formats.specs.declared.pixels.Pixel.{Pixel}
use Rattle.pixel_rows.proofs.LawsHold.{painted-zeros, pixel_at-painted}
use Rattle.pixel_rows.specs.Images.{ImageValue, IsImage, blank, no_pixel, pixel_at}
use Rattle.pixel_rows.specs.Masks.{every, written}
use Rattle.pixel_rows.specs.Painting.{painted, painted_pixels}
use Rattle.pixel_rows.specs.Payloads.{loaded, payload_pixel, row_long}
use Rattle.pixel_rows.specs.Rects.{is_in, is_in_span}
use Rattle.pixel_rows.specs.declared.rects.Rect.{Rect}
use Rattle.texture_objects.specs.Uploads.{IsImageCall, IsSide, data_form, given, part_rect, rewritten, signed, uploaded, whole_rect}

-- ---- What a write keeps of what was there: nothing.
written-every : (f : Format) (old p : Pixel) → written f every old p ≡ quantize f p
written-every Rgb565 old p = refl
written-every Rgb888 old p = refl
written-every Rgba8888 old p = refl
written-every Rgba4444 old p = refl
written-every Rgba5551 old p = refl
written-every A8 old p = refl
written-every L8 old p = refl
written-every La88 old p = refl

-- ---- Places.
in-span : (z : ℤ) (k : ℕ) → k < unsigned z → is_in_span (pos 0) z k ≡ true
in-span (pos n) k h = grind (arith, nat_tests, ints)
in-span (negsuc n) k h = absurd (omega arith)

in-whole : (c : CallValue) (x y : ℕ) → x < unsigned (signed c 3) → y < unsigned (signed c 4) → is_in (whole_rect c) x y ≡ true
in-whole c x y k l = and_from _ _ (in-span (signed c 3) x k) (in-span (signed c 4) y l)

side-within : (z : ℤ) → IsSide z → unsigned z ≤ 2048
side-within (pos n) s = let high = s.high in omega (arith, ints)
side-within (negsuc n) s = omega arith

side-pos : (z : ℤ) → IsSide z → pos (unsigned z) ≡ z
side-pos (pos n) s = refl
side-pos (negsuc n) s = let low = s.low in absurd (omega (arith, ints))

blank-image : (f : Format) (w h : ℕ) → w ≤ 2048 → h ≤ 2048 → IsImage (blank f w h)
blank-image f w h k l = record {
  wide = k;
  high = l;
  area = length-replicate (h * w) (quantize f no_pixel);
}

new-image : (c : CallValue) → IsImageCall c → IsImage (blank (data_form c) (unsigned (signed c 3)) (unsigned (signed c 4)))
new-image c i = blank-image (data_form c) (unsigned (signed c 3)) (unsigned (signed c 4)) (side-within (signed c 3) i.width) (side-within (signed c 4) i.height)

-- ---- A new image's pixels.
no-offset : (n : ℕ) → n - 0 ≡ n
no-offset n = omega arith

pub reads : (c : CallValue) (align x y : ℕ) → IsImageCall c → x < (uploaded c align).width → y < (uploaded c align).height →
    pixel_at (uploaded c align) x y ≡ quantize (data_form c) (payload_pixel (given c.bytes) (data_form c) (row_long (whole_rect c) (data_form c) align) x y)
unfolding loaded painted
reads c align x y i k l =
    let v : ImageValue = blank (data_form c) (unsigned (signed c 3)) (unsigned (signed c 4)) in
    let long : ℕ = row_long (whole_rect c) (data_form c) align in
    let paint : ℕ → ℕ → Pixel = λ a b. payload_pixel (given c.bytes) (data_form c) (row_long (whole_rect c) (data_form c) align) (a - 0) (b - 0) in
    pixel_at-painted (blank (data_form c) (unsigned (signed c 3)) (unsigned (signed c 4))) (is_in (whole_rect c)) paint every x y (new-image c i) k l
    ∙ ap (λ b. cond b (written (data_form c) every (pixel_at v x y) (paint x y)) (pixel_at v x y)) (in-whole c x y k l)
    ∙ written-every (data_form c) (pixel_at v x y) (paint x y)
    ∙ ap (λ a. quantize (data_form c) (payload_pixel (given c.bytes) (data_form c) long a (y - 0))) (no-offset x)
    ∙ ap (λ b. quantize (data_form c) (payload_pixel (given c.bytes) (data_form c) long x b)) (no-offset y)

-- ---- Zeros.
zero_of : Base → Pixel
zero_of Rgb = record { r = 0; g = 0; b = 0; a = 255 }
zero_of Rgba = record { r = 0; g = 0; b = 0; a = 0 }
zero_of Alpha = record { r = 0; g = 0; b = 0; a = 0 }
zero_of Luminance = record { r = 0; g = 0; b = 0; a = 255 }
zero_of LuminanceAlpha = record { r = 0; g = 0; b = 0; a = 0 }

-- data that there isn't reads as zeros
no-data : (f : Format) (long i j : ℕ) → payload_pixel [] f long i j ≡ zero_of (base_of f)
unfolding unpack zero_of
no-data Rgb565 long i j = refl
no-data Rgb888 long i j = refl
no-data Rgba8888 long i j = refl
no-data Rgba4444 long i j = refl
no-data Rgba5551 long i j = refl
no-data A8 long i j = refl
no-data L8 long i j = refl
no-data La88 long i j = refl

-- which are kept as zeros
kept-zeros : (f : Format) → quantize f (zero_of (base_of f)) ≡ quantize f no_pixel
unfolding quantize zero_of
kept-zeros Rgb565 = refl
kept-zeros Rgb888 = refl
kept-zeros Rgba8888 = refl
kept-zeros Rgba4444 = refl
kept-zeros Rgba5551 = refl
kept-zeros A8 = refl
kept-zeros L8 = refl
kept-zeros La88 = refl

zero-written : (f g : Format) (old : Pixel) (bytes : Option (List ℕ)) (long i j : ℕ) → base_of f ≡ base_of g → bytes ≡ None → written g every old (payload_pixel (given bytes) f long i j) ≡ quantize g no_pixel
zero-written f g old bytes long i j e n =
    written-every g old (payload_pixel (given bytes) f long i j)
    ∙ ap (λ b. quantize g (payload_pixel (given b) f long i j)) n
    ∙ ap (quantize g) (no-data f long i j)
    ∙ ap (λ b. quantize g (zero_of b)) e
    ∙ kept-zeros g

abbrev rect_of : ℤ → ℤ → Rect
rect_of w h = record { x = pos 0; y = pos 0; w = w; h = h }

pub zeros : (c : CallValue) (align : ℕ) → IsImageCall c → c.bytes ≡ None → uploaded c align ≡ blank (data_form c) (unsigned (signed c 3)) (unsigned (signed c 4))
unfolding loaded painted
zeros c align i n =
    let v : ImageValue = blank (data_form c) (unsigned (signed c 3)) (unsigned (signed c 4)) in
    ap (λ g. record v { pixels = painted_pixels v.width (is_in (whole_rect c)) g v.pixels; owned = true })
    (fun_ext (λ x. fun_ext (λ y. fun_ext (λ old. zero-written (data_form c) (data_form c) old c.bytes (row_long (whole_rect c) (data_form c) align) (x - 0) (y - 0) refl n ∙ sym (written-every (data_form c) old no_pixel)))))
    ∙ ap (λ w. painted v (is_in (rect_of w (signed c 4))) (λ _ _. no_pixel) every) (sym (side-pos (signed c 3) i.width))
    ∙ ap (λ h. painted v (is_in (rect_of (pos (unsigned (signed c 3))) h)) (λ _ _. no_pixel) every) (sym (side-pos (signed c 4) i.height))
    ∙ painted-zeros v (new-image c i)

pub part-zeros : (c : CallValue) (v : ImageValue) (align x y : ℕ) → IsImage v → base_of (data_form c) ≡ base_of v.format → c.bytes ≡ None →
    x < v.width → y < v.height → is_in (part_rect c) x y ≡ true → pixel_at (rewritten c align v) x y ≡ quantize v.format no_pixel
unfolding loaded
part-zeros c v align x y whole e n k l inside =
    let paint : ℕ → ℕ → Pixel = λ a b. payload_pixel (given c.bytes) (data_form c) (row_long (part_rect c) (data_form c) align) (a - unsigned (signed c 2)) (b - unsigned (signed c 3)) in
    pixel_at-painted v (is_in (part_rect c)) paint every x y whole k l
    ∙ ap (λ b. cond b (written v.format every (pixel_at v x y) (paint x y)) (pixel_at v x y)) inside
    ∙ zero-written (data_form c) v.format (pixel_at v x y) c.bytes _ _ _ e n
