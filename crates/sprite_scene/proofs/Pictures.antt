-- The pixels of textures and of the target.
use Rattle.std.proofs.Common.{◌≡◌, ℕ, zero, suc, ◌+◌, ◌-◌, ◌*◌, ◌<◌, ◌≤◌, ℤ, pos, negsuc, Bool, true, false, ◌&&◌, cond, List, [], ◌∷◌, ◌++◌, refl, sym, ap, ◌∙◌, arith, take, length, None, Some}
use Rattle.std.specs.Prelude.{◌-ℤ◌, ◌*ℤ◌, ◌+ℤ◌, ◌≤ℤ◌, int_le, int_lt, nat_lt, replicate, slice_index, slice_index_or}
use Rattle.std.specs.List.{flat_map, range_with_len}
use Rattle.std.proofs.lemmas.Bool.{and_parts, cond-true}
use Rattle.std.proofs.lemmas.Int.{ints}
use Rattle.std.proofs.lemmas.List.{append-nil, length-replicate}
use Rattle.std.proofs.lemmas.Float.{T_from_true}
use Rattle.std.specs.Int.Signed.{le_z_yes}
use Rattle.std.proofs.Math.IntN.{+ℤ_idl}
use Rattle.std.proofs.Math.Nat.{mul_assoc}
use Rattle.call_rules.proofs.TestLaws.{below, is_past}
use Rattle.egl_calls.specs.Ranges.{unsigned}
use Rattle.pixel_formats.specs.Bounds.{IsBytes}
use Rattle.pixel_formats.specs.Formats.{base_of}
use Rattle.pixel_formats.specs.Pixels.{pack, quantize, unpack}
use Rattle.pixel_formats.specs.declared.formats.Format.{Format}
use Rattle.pixel_formats.specs.declared.formats.Format.TheVariants.{Rgba8888}
use Rattle.pixel_formats.specs.declared.pixels.Pixel.{Pixel}
use Rattle.pixel_formats.proofs.Packed.{pack-unpack}
use Rattle.pixel_rows.specs.Images.{ImageValue, IsImage, no_pixel, pixel_at}
use Rattle.pixel_rows.specs.Masks.{every, written}
use Rattle.pixel_rows.specs.Painting.{painted}
use Rattle.pixel_rows.specs.Payloads.{bytes_from, loaded}
use Rattle.pixel_rows.specs.Rects.{is_in, is_in_span}
use Rattle.pixel_rows.specs.Transfers.{bytes_at, line, padding, pixel_bytes, place_in, row_bytes, stride, zeros}
use Rattle.pixel_rows.proofs.Covers.{length-painted_pixels}
use Rattle.pixel_rows.proofs.Holding.{written-every}
use Rattle.pixel_rows.proofs.LawsHold.{painted-shape, pixel_at-painted}
use Rattle.pixel_rows.proofs.Stored.{quantize-eight, quantize-unpack}
use Rattle.rect_pipeline.specs.Coverage.{is_covered}
use Rattle.rect_pipeline.specs.Drawing.{SourceValue, draws_at, drawn, fragment, texel_pixel}
use Rattle.rect_pipeline.specs.Fragments.{colour_at_8, combined}
use Rattle.rect_pipeline.specs.Samplers.{SamplerValue, columns_of, repeats, rows_of, source_of}
use Rattle.rect_pipeline.specs.Targets.{rect_of}
use Rattle.rect_pipeline.specs.Texels.{texel_at}
use Rattle.rect_pipeline.specs.declared.axes.Axis.{Axis}
use Rattle.texture_objects.specs.Textures.{crop_of}
use Rattle.texture_objects.specs.Uploads.{IsImageCall}
use Rattle.texture_objects.specs.declared.parameters.WrapMode.{WrapMode}
use Rattle.texture_objects.proofs.UploadLaws.{reads}
use Rattle.scene_reader.specs.declared.items.ScaledPart.{ScaledPart}
use Rattle.sprite_scene.specs.Calls.{tex_image}
use Rattle.sprite_scene.specs.Draws.{drawn_rect as placed_rect}
use Rattle.sprite_scene.specs.Painted.{picture, rgba}
use Rattle.sprite_scene.specs.Samples.{nearest}
use Rattle.sprite_scene.proofs.NearestLaws.{axis, covers_whole, nearest_below, shows_nearest}
use Rattle.sprite_scene.proofs.PixelCalls.{IsSampler, drawn_target, image_of, whole_target}
use Rattle.sprite_scene.proofs.Views.{IsPicture, View, settings}

-- ---- Ranges.
pub same_over : {A : Type 0} (f g : ℕ → List A) (a n : ℕ) → ((k : ℕ) → a ≤ k → k < a + n → f k ≡ g k) → flat_map f (range_with_len a n) ≡ flat_map g (range_with_len a n)
same_over f g a zero h = refl
same_over f g a (suc n) h =
    let first = h a (omega arith) (omega arith) in
    let rest = same_over f g (a + 1) n (λ k l m. h k (omega arith) (omega arith)) in
    cc

-- ---- Bytes.
abbrev made : ℕ → ℕ → ℕ → ℕ → Pixel
made r g b a = record { r = r; g = g; b = b; a = a }

same_pixel : (p q : Pixel) → p.r ≡ q.r → p.g ≡ q.g → p.b ≡ q.b → p.a ≡ q.a → p ≡ q
same_pixel p q r g b a = ap (λ x. made x p.g p.b p.a) r ∙ ap (λ x. made q.r x p.b p.a) g ∙ ap (λ x. made q.r q.g x p.a) b ∙ ap (λ x. made q.r q.g q.b x) a

pub pixel_of_bytes : (r g b a : ℕ) → r < 256 → g < 256 → b < 256 → a < 256 → unpack Rgba8888 (r ∷ g ∷ b ∷ a ∷ []) ≡ record { r = r; g = g; b = b; a = a }
unfolding unpack
pixel_of_bytes r g b a x y z w = same_pixel (unpack Rgba8888 (r ∷ g ∷ b ∷ a ∷ [])) (made r g b a) (omega (arith, x, y, z, w)) (omega (arith, x, y, z, w)) (omega (arith, x, y, z, w)) (omega (arith, x, y, z, w))

pub bytes_of_pixel : (p : Pixel) → IsBytes p → pixel_bytes Rgba8888 p ≡ rgba p
bytes_of_pixel p h =
    ap (λ q. take 4 (pack Rgba8888 q)) (sym (pixel_of_bytes p.r p.g p.b p.a h.r h.g h.b h.a))
    ∙ ap (take 4) (pack-unpack Rgba8888 p.r p.g p.b p.a h.r h.g h.b h.a)

-- ---- The picture of a texture that is given as bytes.
abbrev pub texels_of : List ℕ → ℕ → ℕ → ℕ → Pixel
texels_of bytes w u v = record {
  r = slice_index bytes (4 * (v * w + u));
  g = slice_index bytes (4 * (v * w + u) + 1);
  b = slice_index bytes (4 * (v * w + u) + 2);
  a = slice_index bytes (4 * (v * w + u) + 3);
}

texel_at_bytes : (bytes : List ℕ) (w u v : ℕ) → ((k : ℕ) → slice_index bytes k < 256) → unpack Rgba8888 (bytes_from bytes (v * stride (w * 4) 4 + u * 4) 4) ≡ texels_of bytes w u v
texel_at_bytes bytes w u v small =
    let p : ℕ = 4 * (v * w + u) in
    let long : stride (w * 4) 4 ≡ w * 4 = omega arith in
    let a = mul_assoc v w 4 in
    let at : v * (w * 4) + u * 4 ≡ 4 * (v * w + u) = omega (arith, a) in
    let none : 4 * (v * w + u) + 0 ≡ 4 * (v * w + u) = omega arith in
    ap (λ n. unpack Rgba8888 (bytes_from bytes (v * n + u * 4) 4)) long
    ∙ ap (λ n. unpack Rgba8888 (bytes_from bytes n 4)) at
    ∙ ap (λ n. unpack Rgba8888 (slice_index bytes n ∷ slice_index bytes (p + 1) ∷ slice_index bytes (p + 2) ∷ slice_index bytes (p + 3) ∷ [])) none
    ∙ pixel_of_bytes (slice_index bytes p) (slice_index bytes (p + 1)) (slice_index bytes (p + 2)) (slice_index bytes (p + 3)) (small p) (small (p + 1)) (small (p + 2)) (small (p + 3))

image_call : (w h : ℕ) (texels : List ℕ) → w ≤ 1024 → h ≤ 1024 → IsImageCall (tex_image w h texels)
image_call w h texels a b = record {
  kind = refl;
  form = refl;
  width = record { low = grind (arith, ints); high = grind (arith, ints, a) };
  height = record { low = grind (arith, ints); high = grind (arith, ints, b) };
}

image_area : (w h : ℕ) (texels : List ℕ) → w ≤ 1024 → h ≤ 1024 → IsImage (image_of w h texels)
unfolding loaded painted
image_area w h texels a b = record {
  wide = omega (arith, a);
  high = omega (arith, b);
  area = length-painted_pixels w _ _ (replicate (h * w) (quantize Rgba8888 no_pixel)) ∙ length-replicate (h * w) (quantize Rgba8888 no_pixel);
}

pub image_picture : (w h : ℕ) (texels : List ℕ) → w ≤ 1024 → h ≤ 1024 → ((k : ℕ) → slice_index texels k < 256) → IsPicture w h (texels_of texels w) (image_of w h texels)
unfolding loaded painted
image_picture w h texels a b small = record {
  whole = image_area w h texels a b;
  format = refl;
  width = refl;
  height = refl;
  each = λ x y l m. reads (tex_image w h texels) 4 x y (image_call w h texels a b) l m
      ∙ quantize-unpack Rgba8888 (bytes_from texels (y * stride (w * 4) 4 + x * 4) 4)
      ∙ texel_at_bytes texels w x y small;
}

-- ---- What a draw makes of the picture of the target.
-- a choice of which one side is known to be another where it is taken
chosen : {A : Type 0} (b : Bool) (p q r : A) → (b ≡ true → p ≡ q) → cond b p r ≡ cond b q r
chosen true p q r h = h refl
chosen false p q r h = refl

pub at_most : (a b : ℤ) → int_le a b ≡ true → a ≤ℤ b
at_most a b h = le_z_yes (T_from_true _ h)

whole_number : (z : ℤ) → pos 0 ≤ℤ z → z ≡ pos (unsigned z)
whole_number (pos n) h = refl
whole_number (negsuc n) h = absurd (omega (arith, ints))

-- how far a pixel of a draw is from its start
pub record IsOffset (start : ℤ) (n k : ℕ) : Type 0 where
  pub is : pos k -ℤ start ≡ pos (unsigned (pos k -ℤ start))
  pub below : unsigned (pos k -ℤ start) < n

pub offset_in : (start : ℤ) (n k : ℕ) → is_in_span start (pos n) k ≡ true → IsOffset start n k
offset_in start n k h =
    let p = and_parts (int_le start (pos k)) (int_lt (pos k) (start +ℤ pos n)) h in
    let l = at_most start (pos k) p.0 in
    let r = below (pos k) (start +ℤ pos n) p.1 in
    let e = whole_number (pos k -ℤ start) (omega (arith, ints)) in
    record { is = e; below = omega (arith, ints) }

abbrev axis_by : ℤ → ℕ → List ℤ → ℕ → ℕ → ℕ → WrapMode → ℕ → Axis
axis_by start drawn crop first side base wrap size = record {
  start = start *ℤ pos 65536;
  size = pos drawn *ℤ pos 65536;
  crop = slice_index_or crop first (pos 0);
  extent = slice_index_or crop size (pos 0);
  side = side;
  base = base;
  repeats = repeats wrap;
}

columns_are : (z : SamplerValue) (d : ScaledPart) (w h u t cw ch : ℕ) (pixel : ℕ → ℕ → Pixel) → IsSampler z w h pixel (crop_of (pos u) (pos t) (pos cw) (pos ch)) →
    columns_of z (d.x *ℤ pos 65536) (pos d.width *ℤ pos 65536) ≡ axis d.x d.width u cw w
columns_are z d w h u t cw ch pixel s =
    ap (λ c. axis_by d.x d.width c 0 z.image.width z.base_w z.texture.wrap_s 2) s.crop
    ∙ ap (λ n. axis_by d.x d.width (crop_of (pos u) (pos t) (pos cw) (pos ch)) 0 n z.base_w z.texture.wrap_s 2) s.picture.width
    ∙ ap (λ n. axis_by d.x d.width (crop_of (pos u) (pos t) (pos cw) (pos ch)) 0 w n z.texture.wrap_s 2) s.across
    ∙ ap (λ m. axis_by d.x d.width (crop_of (pos u) (pos t) (pos cw) (pos ch)) 0 w w m 2) s.columns

rows_are : (z : SamplerValue) (d : ScaledPart) (w h u t cw ch : ℕ) (pixel : ℕ → ℕ → Pixel) → IsSampler z w h pixel (crop_of (pos u) (pos t) (pos cw) (pos ch)) →
    rows_of z (d.y *ℤ pos 65536) (pos d.height *ℤ pos 65536) ≡ axis d.y d.height t ch h
rows_are z d w h u t cw ch pixel s =
    ap (λ c. axis_by d.y d.height c 1 z.image.height z.base_h z.texture.wrap_t 3) s.crop
    ∙ ap (λ n. axis_by d.y d.height (crop_of (pos u) (pos t) (pos cw) (pos ch)) 1 n z.base_h z.texture.wrap_t 3) s.picture.height
    ∙ ap (λ n. axis_by d.y d.height (crop_of (pos u) (pos t) (pos cw) (pos ch)) 1 h n z.texture.wrap_t 3) s.up
    ∙ ap (λ m. axis_by d.y d.height (crop_of (pos u) (pos t) (pos cw) (pos ch)) 1 h h m 3) s.rows

-- what a draw shows of a texture at a pixel of the target
abbrev pub stamp : (ℕ → ℕ → Pixel) → ℕ → ℕ → ℕ → ℕ → ScaledPart → ℕ → ℕ → Pixel
stamp pixel u t cw ch d x y = pixel (nearest u cw d.width (unsigned (pos x -ℤ d.x))) (nearest t ch d.height (unsigned (pos y -ℤ d.y)))

-- a part of a texture of which each pixel has bytes for components
pub record IsCutFrom (pixel : ℕ → ℕ → Pixel) (w h u t cw ch : ℕ) : Type 0 where
  pub some_columns : 1 ≤ cw
  pub some_rows : 1 ≤ ch
  pub columns : u + cw ≤ w
  pub rows : t + ch ≤ h
  pub bytes : (x y : ℕ) → x < w → y < h → IsBytes (pixel x y)

abbrev pub drawn_over : (ℕ → ℕ → Pixel) → List ℤ → (ℕ → ℕ → Pixel) → ScaledPart → ℕ → ℕ → Pixel
drawn_over old clip new d x y = cond (is_in (rect_of clip) x y && is_in (placed_rect d) x y) (new x y) (old x y)

abbrev source : SamplerValue → ScaledPart → SourceValue
source z d = source_of (d.x *ℤ pos 65536) (d.y *ℤ pos 65536) (pos d.width *ℤ pos 65536) (pos d.height *ℤ pos 65536) z

shown_texel : (v : View) (z : SamplerValue) (d : ScaledPart) (w h u t cw ch : ℕ) (pixel : ℕ → ℕ → Pixel) (f : Format) (old : Pixel) (x y : ℕ) → IsSampler z w h pixel (crop_of (pos u) (pos t) (pos cw) (pos ch)) → IsCutFrom pixel w h u t cw ch → f ≡ Rgba8888 →
    (is_in (rect_of v.clip) x y && is_in (placed_rect d) x y) ≡ true → written f every old (fragment (settings v) (Some (source z d)) x y) ≡ stamp pixel u t cw ch d x y
shown_texel v z d w h u t cw ch pixel f old x y s c e on =
    let p = and_parts (is_in (rect_of v.clip) x y) (is_in (placed_rect d) x y) on in
    let q = and_parts (is_in_span d.x (pos d.width) x) (is_in_span d.y (pos d.height) y) p.1 in
    let column = offset_in d.x d.width x q.0 in
    let row = offset_in d.y d.height y q.1 in
    let i : ℕ = unsigned (pos x -ℤ d.x) in
    let j : ℕ = unsigned (pos y -ℤ d.y) in
    let a = nearest_below u cw d.width i c.some_columns column.below in
    let b = nearest_below t ch d.height j c.some_rows row.below in
    let left : nearest u cw d.width i < w = let n = c.columns in omega (arith, a, n) in
    let low : nearest t ch d.height j < h = let n = c.rows in omega (arith, b, n) in
    let colour : Pixel = colour_at_8 (settings v).color in
    let t1 : Pixel = texel_pixel (source z d) x y in
    written-every f old (fragment (settings v) (Some (source z d)) x y)
    ∙ ap (λ g. quantize g (combined true (base_of z.image.format) colour t1)) e
    ∙ ap (λ g. quantize Rgba8888 (combined true (base_of g) colour t1)) s.picture.format
    ∙ ap (λ g. quantize Rgba8888 (pixel_at z.image (texel_at g x) (texel_at (source z d).rows y))) (columns_are z d w h u t cw ch pixel s)
    ∙ ap (λ g. quantize Rgba8888 (pixel_at z.image (texel_at (axis d.x d.width u cw w) x) (texel_at g y))) (rows_are z d w h u t cw ch pixel s)
    ∙ ap (λ n. quantize Rgba8888 (pixel_at z.image n (texel_at (axis d.y d.height t ch h) y))) (shows_nearest d.x d.width u cw w x i column.is (record { some = c.some_columns; inside = c.columns; pixel = column.below }))
    ∙ ap (λ n. quantize Rgba8888 (pixel_at z.image (nearest u cw d.width i) n)) (shows_nearest d.y d.height t ch h y j row.is (record { some = c.some_rows; inside = c.rows; pixel = row.below }))
    ∙ ap (quantize Rgba8888) (s.picture.each (nearest u cw d.width i) (nearest t ch d.height j) left low)
    ∙ quantize-eight (stamp pixel u t cw ch d x y) (c.bytes (nearest u cw d.width i) (nearest t ch d.height j) left low)

draws_test : (v : View) (d : ScaledPart) (x y : ℕ) → draws_at (settings v) (d.x *ℤ pos 65536) (d.y *ℤ pos 65536) (pos d.width *ℤ pos 65536) (pos d.height *ℤ pos 65536) x y ≡ (is_in (rect_of v.clip) x y && is_in (placed_rect d) x y)
draws_test v d x y =
    ap (λ b. is_in (rect_of v.clip) x y && (b && is_covered (d.y *ℤ pos 65536) (pos d.height *ℤ pos 65536) y)) (covers_whole d.x d.width x)
    ∙ ap (λ b. is_in (rect_of v.clip) x y && (is_in_span d.x (pos d.width) x && b)) (covers_whole d.y d.height y)

pub drawn_picture : (v : View) (z : SamplerValue) (d : ScaledPart) (w h u t cw ch : ℕ) (pixel old : ℕ → ℕ → Pixel) → IsPicture v.w v.h old v.target → IsSampler z w h pixel (crop_of (pos u) (pos t) (pos cw) (pos ch)) → IsCutFrom pixel w h u t cw ch →
    IsPicture v.w v.h (drawn_over old v.clip (stamp pixel u t cw ch d) d) (drawn_target v z d)
unfolding drawn
drawn_picture v z d w h u t cw ch pixel old p s c =
    let covers = draws_at (settings v) (d.x *ℤ pos 65536) (d.y *ℤ pos 65536) (pos d.width *ℤ pos 65536) (pos d.height *ℤ pos 65536) in
    let paint = fragment (settings v) (Some (source z d)) in
    let shape = painted-shape v.target covers paint every p.whole in
    record {
      whole = record { wide = shape.1.wide; high = shape.1.high; area = shape.1.area };
      format = shape.0.format ∙ p.format;
      width = shape.0.width ∙ p.width;
      height = shape.0.height ∙ p.height;
      each = λ x y l m.
          pixel_at-painted v.target covers paint every x y p.whole (let e = p.width in omega (arith, l, e)) (let e = p.height in omega (arith, m, e))
          ∙ ap (λ b. cond b (written v.target.format every (pixel_at v.target x y) (paint x y)) (pixel_at v.target x y)) (draws_test v d x y)
          ∙ chosen (is_in (rect_of v.clip) x y && is_in (placed_rect d) x y) _ _ (pixel_at v.target x y) (shown_texel v z d w h u t cw ch pixel v.target.format (pixel_at v.target x y) x y s c p.format)
          ∙ ap (λ q. cond (is_in (rect_of v.clip) x y && is_in (placed_rect d) x y) (stamp pixel u t cw ch d x y) q) (p.each x y l m);
    }

-- ---- The bytes of the whole target.
no_padding : (w h : ℕ) → padding (whole_target w h) Rgba8888 4 ≡ 0
no_padding w h = omega arith

place_is : (side k : ℕ) (z : ℤ) → z ≡ pos k → k < side → place_in side z ≡ Some k
place_is side k z e l = ap (place_in side) e ∙ cond-true (nat_lt k side) (Some k) None (is_past k side l)

pub whole_bytes : (i : ImageValue) (w h : ℕ) (pixel : ℕ → ℕ → Pixel) → IsPicture w h pixel i → ((x y : ℕ) → IsBytes (pixel x y)) → row_bytes i (whole_target w h) Rgba8888 4 ≡ picture pixel w h
unfolding row_bytes line picture
whole_bytes i w h pixel p bytes =
    same_over _ _ 0 h (λ j a b.
    ap (λ n. line i (whole_target w h) Rgba8888 j ++ zeros n) (no_padding w h)
    ∙ append-nil (line i (whole_target w h) Rgba8888 j)
    ∙ same_over _ _ 0 w (λ k c d.
    ap (λ o. bytes_at i Rgba8888 o (place_in i.height (pos 0 +ℤ pos j))) (place_is i.width k (pos 0 +ℤ pos k) (+ℤ_idl (pos k)) (let e = p.width in omega (arith, d, e)))
    ∙ ap (bytes_at i Rgba8888 (Some k)) (place_is i.height j (pos 0 +ℤ pos j) (+ℤ_idl (pos j)) (let e = p.height in omega (arith, b, e)))
    ∙ ap (pixel_bytes Rgba8888) (p.each k j (omega (arith, d)) (omega (arith, b)))
    ∙ bytes_of_pixel (pixel k j) (bytes k j)))
