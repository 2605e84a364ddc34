-- The trace of a scene.
use Rattle.std.proofs.Common.{◌≡◌, ℕ, zero, suc, ℤ, pos, ◌+◌, ◌*◌, ◌<◌, ◌≤◌, Bool, true, false, ◌&&◌, ◌==◌, nat_le, List, [], ◌∷◌, ◌++◌, length, map, refl, sym, subst, ap, ◌∙◌, arith, append_assoc, Option, None, Some, All}
use Rattle.std.proofs.lemmas.Bool.{and_parts, cond_both, eqb-true, leb-true}
use Rattle.std.proofs.lemmas.Int.{ints}
use Rattle.std.proofs.lemmas.List.{append-nil, length-append, map-append}
use Rattle.std.proofs.lemmas.List.Elements.{All-append, All-cons, All-head, All-nil, All-tail}
use Rattle.std.proofs.lemmas.List.Sums.{sum_by-cons}
use Rattle.std.proofs.Math.Nat.{mul-le-mul, mul-suc, mul-zero}
use Rattle.std.specs.Prelude.{◌+ℤ◌, if◌then◌else◌, int_lt, Ok, slice_index}
use Rattle.std.specs.List.{flat_map, range_with_len}
use Rattle.egl_calls.specs.Calls.{CallValue}
use Rattle.egl_calls.specs.Ranges.{IsNumber}
use Rattle.pixel_formats.specs.declared.pixels.Pixel.{Pixel}
use Rattle.egl_names.specs.declared.codes.TheConstants.{GL_SCISSOR_TEST, GL_TEXTURE_2D, GL_TEXTURE_MAG_FILTER, GL_TEXTURE_MIN_FILTER}
use Rattle.trace_reader.specs.Grammar.{trace}
use Rattle.trace_reader.specs.Payloads.{payload_bytes}
use Rattle.trace_reader.specs.Pixels.{pixel_bytes}
use Rattle.journal_text.specs.Written.{IsByte}
use Rattle.scene_reader.specs.Items.{atlas_with, bytes_of, draws as item_count, draws_of, is_item, is_new_atlas, is_place, least_power, texel_bytes, texture_bytes}
use Rattle.scene_reader.specs.Scenes.{AreItems, IsScene, SceneValue}
use Rattle.scene_reader.specs.declared.items.Atlas.{Atlas}
use Rattle.scene_reader.specs.declared.items.Item.{Item}
use Rattle.scene_reader.specs.declared.items.Item.TheVariants.{Atlas as AtlasItem, Sprite, Smooth, Tile, Clip, NoClip}
use Rattle.scene_reader.specs.declared.items.Part.{Part}
use Rattle.scene_reader.specs.declared.items.ScaledPart.{ScaledPart}
use Rattle.scene_reader.specs.declared.items.TiledPart.{TiledPart}
use Rattle.sprite_scene.proofs.Finishing.{is_new}
use Rattle.sprite_scene.proofs.ItemFacts.{atlas_sides, clip_x, clip_y, some_is, sprite_item, tile_fits}
use Rattle.sprite_scene.proofs.ItemLaws.{IsIn}
use Rattle.sprite_scene.proofs.ItemStages.{tile_part}
use Rattle.sprite_scene.proofs.Products.{area_small}
use Rattle.sprite_scene.proofs.SideLaws.{power_side, side_range}
use Rattle.sprite_scene.proofs.SmoothLaws.{small_picture, smooth_texel_bytes}
use Rattle.sprite_scene.specs.Calls.{bind_texture, calls_from, calls_of, crop_part, draw_tex, item_calls, new_texture, opening_calls, read_all, scissor, smooth_calls, smooth_name, smooth_texel, smooth_texels, tex_image}
use Rattle.sprite_scene.specs.Draws.{tile_at, tile_row, tiles}
use Rattle.sprite_scene.specs.Painted.{painted_row, picture, rgba}
use Rattle.sprite_scene.specs.Parts.{HasBytes, IsPlaced, IsTiled}
use Rattle.scene_trace.specs.Lines.{scene_text, trace_of}
use Rattle.scene_trace.proofs.CallsRead.{Reads, bind_reads, create_context_reads, create_pbuffer_reads, crop_reads, draw_reads, enable_reads, get_display_reads, image_reads, initialize_reads, make_current_reads, nearest_reads, read_reads, replace_reads, scissor_reads}
use Rattle.scene_trace.proofs.LinesRead.{AreRead, calls_trace, total}
use Rattle.scene_trace.proofs.NumbersRead.{code}

-- calls that are read back, at most so many, whose payloads have at most so many bytes, and which ask for at most so many bytes of pixels
pub record Written (cs : List CallValue) (few payloads pixels : ℕ) : Type 0 where
  pub reads : AreRead cs
  pub few_calls : length cs ≤ few
  pub few_payloads : total payload_bytes cs ≤ payloads
  pub few_pixels : total (pixel_bytes []) cs ≤ pixels

none : Written [] 0 0 0
none = record { reads = tt; few_calls = omega arith; few_payloads = omega arith; few_pixels = omega arith }

one_more : (c : CallValue) (cs : List CallValue) (few payloads pixels payload pixel : ℕ) → Reads c → payload_bytes c ≤ payload → pixel_bytes [] c ≤ pixel → Written cs few payloads pixels → Written (c ∷ cs) (1 + few) (payload + payloads) (pixel + pixels)
one_more c cs few payloads pixels payload pixel r k l w = record {
  reads = (r, w.reads);
  few_calls = let h = w.few_calls in omega (arith, h);
  few_payloads = let h = w.few_payloads in omega (arith, h, k);
  few_pixels = let h = w.few_pixels in omega (arith, h, l);
}

at_most : (cs : List CallValue) (few payloads pixels few' payloads' pixels' : ℕ) → few ≤ few' → payloads ≤ payloads' → pixels ≤ pixels' → Written cs few payloads pixels → Written cs few' payloads' pixels'
at_most cs few payloads pixels few' payloads' pixels' h k l w = record {
  reads = w.reads;
  few_calls = let a = w.few_calls in omega (arith, a, h);
  few_payloads = let a = w.few_payloads in omega (arith, a, k);
  few_pixels = let a = w.few_pixels in omega (arith, a, l);
}

-- a call without a payload, which asks for no pixels
plainly : (c : CallValue) (cs : List CallValue) (few payloads pixels : ℕ) → Reads c → payload_bytes c ≡ 0 → pixel_bytes [] c ≡ 0 → Written cs few payloads pixels → Written (c ∷ cs) (1 + few) payloads pixels
plainly c cs few payloads pixels r k l w = at_most (c ∷ cs) (1 + few) (0 + payloads) (0 + pixels) (1 + few) payloads pixels (omega arith) (omega arith) (omega arith) (one_more c cs few payloads pixels 0 0 r (omega (arith, k)) (omega (arith, l)) w)

total_append : (f : CallValue → ℕ) (cs ds : List CallValue) → total f (cs ++ ds) ≡ total f cs + total f ds
total_append f [] ds = omega arith
total_append f (c ∷ cs) ds = let h = total_append f cs ds in omega (arith, h)

read_append : (cs ds : List CallValue) → AreRead cs → AreRead ds → AreRead (cs ++ ds)
read_append [] ds a b = b
read_append (c ∷ cs) ds a b = (a.0, read_append cs ds a.1 b)

both : (cs ds : List CallValue) (few payloads pixels few' payloads' pixels' : ℕ) → Written cs few payloads pixels → Written ds few' payloads' pixels' → Written (cs ++ ds) (few + few') (payloads + payloads') (pixels + pixels')
both cs ds few payloads pixels few' payloads' pixels' v w = record {
  reads = read_append cs ds v.reads w.reads;
  few_calls = let a = length-append cs ds in let h = v.few_calls in let k = w.few_calls in omega (arith, a, h, k);
  few_payloads = let a = total_append payload_bytes cs ds in let h = v.few_payloads in let k = w.few_payloads in omega (arith, a, h, k);
  few_pixels = let a = total_append (pixel_bytes []) cs ds in let h = v.few_pixels in let k = w.few_pixels in omega (arith, a, h, k);
}

-- ---- The calls before all items.
opening_written : (w h : ℕ) → w ≤ 2048 → h ≤ 2048 → Written (opening_calls w h) 8 0 0
unfolding pixel_bytes
opening_written w h k l =
    plainly _ _ 7 0 0 get_display_reads refl refl
    (plainly _ _ 6 0 0 initialize_reads refl refl
    (plainly _ _ 5 0 0 (create_pbuffer_reads w h k l) refl refl
    (plainly _ _ 4 0 0 create_context_reads refl refl
    (plainly _ _ 3 0 0 make_current_reads refl refl
    (plainly _ _ 2 0 0 replace_reads refl refl
    (plainly _ _ 1 0 0 (enable_reads GL_TEXTURE_2D (leb-true GL_TEXTURE_2D 4294967295 refl)) refl refl
    (plainly _ _ 0 0 0 (enable_reads GL_SCISSOR_TEST (leb-true GL_SCISSOR_TEST 4294967295 refl)) refl refl none)))))))

-- ---- A texture.
texture_written : (name w h : ℕ) (texels : List ℕ) (more : List CallValue) (few : ℕ) → name ≤ 65535 → w ≤ 65535 → h ≤ 65535 → All IsByte texels → length texels ≤ 8388608 → Written more few 0 0 → Written (new_texture name w h texels ++ more) (4 + few) (length texels) 0
unfolding pixel_bytes
texture_written name w h texels more few j k l bytes size m =
    at_most _ (1 + (1 + (1 + (1 + few)))) (length texels + 0) 0 (4 + few) (length texels) 0 (omega arith) (omega arith) (omega arith)
    (plainly _ _ (1 + (1 + (1 + few))) (length texels + 0) 0 (bind_reads name j) refl refl
    (plainly _ _ (1 + (1 + few)) (length texels + 0) 0 (nearest_reads GL_TEXTURE_MIN_FILTER (leb-true GL_TEXTURE_MIN_FILTER 4294967295 refl)) refl refl
    (plainly _ _ (1 + few) (length texels + 0) 0 (nearest_reads GL_TEXTURE_MAG_FILTER (leb-true GL_TEXTURE_MAG_FILTER 4294967295 refl)) refl refl
    (one_more (tex_image w h texels) more few 0 0 (length texels) 0 (image_reads w h texels k l bytes size) (omega arith) (omega arith) m))))

-- ---- The texels of a smooth part.
row_long : (pixel : ℕ → ℕ → Pixel) (y a n : ℕ) → length (flat_map (λ x. rgba (pixel x y)) (range_with_len a n)) ≡ 4 * n
row_long pixel y a zero = refl
row_long pixel y a (suc n) = let e = row_long pixel y (a + 1) n in omega (arith, e)

rows_long : (pixel : ℕ → ℕ → Pixel) (w a n : ℕ) → length (flat_map (λ y. painted_row pixel w y) (range_with_len a n)) ≡ 4 * w * n
rows_long pixel w a zero = sym (mul-zero (4 * w))
rows_long pixel w a (suc n) =
    let first = row_long pixel a 0 w in
    let more = rows_long pixel w (a + 1) n in
    let all = length-append (painted_row pixel w a) (flat_map (λ y. painted_row pixel w y) (range_with_len (a + 1) n)) in
    let times = mul-suc (4 * w) n in
    omega (arith, first, more, all, times)

smooth_long : (a : Atlas) (s : ScaledPart) → length (smooth_texels (Some a) s) ≡ 4 * least_power s.width * least_power s.height
unfolding smooth_texels picture
smooth_long a s = rows_long (smooth_texel (Some a) s) (least_power s.width) 0 (least_power s.height)

each_byte : (xs : List ℕ) → ((k : ℕ) → slice_index xs k < 256) → All IsByte xs
each_byte [] h = All-nil IsByte
each_byte (x ∷ xs) h = All-cons IsByte x xs (h 0) (each_byte xs (λ k. h (suc k)))

smooth_list : (a : Atlas) (s : ScaledPart) → ((k : ℕ) → slice_index a.texels k < 256) → 1 ≤ s.width → 1 ≤ s.height → All IsByte (smooth_texels (Some a) s)
unfolding smooth_texels
smooth_list a s small p q = each_byte (picture (smooth_texel (Some a) s) (least_power s.width) (least_power s.height)) (small_picture (smooth_texel (Some a) s) (least_power s.width) (least_power s.height) (λ i j. smooth_texel_bytes a s i j small p q))

-- ---- Atlases.
known_by : (b : Bool) (x a : Atlas) (id : ℕ) (o : Option Atlas) → x.id ≤ 64 → (x.id == id) ≡ b → (o ≡ Some a → id ≤ 64) → (if b then Some x else o) ≡ Some a → id ≤ 64
known_by true x a id o high q more h = let same = eqb-true x.id id q in omega (arith, same, high)
known_by false x a id o high q more h = more h

known_id : (seen before : List Item) (id : ℕ) (a : Atlas) → AreItems seen before → atlas_with before id ≡ Some a → id ≤ 64
known_id seen [] id a are h = absurd (let e : None ≡ Some a = h in cc)
known_id seen (AtlasItem x ∷ more) id a are h = known_by (x.id == id) x a id (atlas_with more id) (is_new seen x are.0).high refl (known_id (seen ++ AtlasItem x ∷ []) more id a are.1) h
known_id seen (Sprite s ∷ more) id a are h = known_id (seen ++ Sprite s ∷ []) more id a are.1 h
known_id seen (Smooth s ∷ more) id a are h = known_id (seen ++ Smooth s ∷ []) more id a are.1 h
known_id seen (Tile t ∷ more) id a are h = known_id (seen ++ Tile t ∷ []) more id a are.1 h
known_id seen (Clip c ∷ more) id a are h = known_id (seen ++ Clip c ∷ []) more id a are.1 h
known_id seen (NoClip ∷ more) id a are h = known_id (seen ++ NoClip ∷ []) more id a are.1 h

abbrev AreSmall : Atlas → Type 0
AreSmall a = (k : ℕ) → slice_index a.texels k < 256

small_by : (b : Bool) (x a : Atlas) (o : Option Atlas) → AreSmall x → (o ≡ Some a → AreSmall a) → (if b then Some x else o) ≡ Some a → AreSmall a
small_by true x a o s more h = subst AreSmall (some_is x a h) s
small_by false x a o s more h = more h

atlas_bytes : (before : List Item) (id : ℕ) (a : Atlas) → All HasBytes before → atlas_with before id ≡ Some a → AreSmall a
atlas_bytes [] id a all h = absurd (let e : None ≡ Some a = h in cc)
atlas_bytes (AtlasItem x ∷ more) id a all h = small_by (x.id == id) x a (atlas_with more id) (All-head HasBytes (AtlasItem x) more all) (atlas_bytes more id a (All-tail HasBytes (AtlasItem x) more all)) h
atlas_bytes (Sprite s ∷ more) id a all h = atlas_bytes more id a (All-tail HasBytes (Sprite s) more all) h
atlas_bytes (Smooth s ∷ more) id a all h = atlas_bytes more id a (All-tail HasBytes (Smooth s) more all) h
atlas_bytes (Tile t ∷ more) id a all h = atlas_bytes more id a (All-tail HasBytes (Tile t) more all) h
atlas_bytes (Clip c ∷ more) id a all h = atlas_bytes more id a (All-tail HasBytes (Clip c) more all) h
atlas_bytes (NoClip ∷ more) id a all h = atlas_bytes more id a (All-tail HasBytes NoClip more all) h

-- ---- Parts.
-- numbers that a part may have
pub record IsFew (p : Part) : Type 0 where
  pub atlas : p.atlas ≤ 65535
  pub u : p.u ≤ 65535
  pub v : p.v ≤ 65535
  pub width : p.width ≤ 65535
  pub height : p.height ≤ 65535

few_part : (before : List Item) (p : Part) → AreItems [] before → IsIn (atlas_with before p.atlas) p → IsFew p
few_part before p are i =
    let sides = atlas_sides [] before p.atlas i.atlas are i.is in
    let id = known_id [] before p.atlas i.atlas are i.is in
    let c = i.columns in
    let r = i.rows in
    let w = sides.wide in
    let h = sides.high in
    record { atlas = omega (arith, id); u = omega (arith, c, w); v = omega (arith, r, h); width = omega (arith, c, w); height = omega (arith, r, h) }

part_written : (p : Part) (more : List CallValue) (few : ℕ) → IsFew p → Written more few 0 0 → Written (bind_texture p.atlas ∷ crop_part p ∷ more) (1 + (1 + few)) 0 0
unfolding pixel_bytes
part_written p more few f m = plainly _ _ (1 + few) 0 0 (bind_reads p.atlas f.atlas) refl refl (plainly _ _ few 0 0 (crop_reads p.u p.v p.width p.height f.u f.v f.width f.height) refl refl m)

draw_written : (s : ScaledPart) (more : List CallValue) (few : ℕ) → IsNumber s.x → IsNumber s.y → s.width ≤ 65535 → s.height ≤ 65535 → Written more few 0 0 → Written (draw_tex s ∷ more) (1 + few) 0 0
unfolding pixel_bytes
draw_written s more few x y k l m = plainly _ _ few 0 0 (draw_reads s x y k l) refl refl m

-- ---- Tiles.
tile_number : (x : ℤ) (by : ℕ) → IsPlaced x → by ≤ 1048576 → IsNumber (x +ℤ pos by)
tile_number x by p l = let a = p.low in let b = p.high in record { low = omega (arith, ints, a, l); high = omega (arith, ints, b, l) }

row_written : (t : TiledPart) (row a n : ℕ) → IsTiled t → row < t.rows → a + n ≤ t.columns → Written (map draw_tex (map (λ column. tile_at t column row) (range_with_len a n))) n 0 0
row_written t row a zero i k l = none
row_written t row a (suc n) i k l =
    let columns = i.columns in
    let rows = i.rows in
    let wide = i.wide in
    let high = i.high in
    at_most _ (1 + n) 0 0 (suc n) 0 0 (omega arith) (omega arith) (omega arith)
    (draw_written (tile_at t a row) _ n
    (tile_number t.x (a * t.part.width) i.across (area_small a t.part.width (omega (arith, l, columns)) wide))
    (tile_number t.y (row * t.part.height) i.up (area_small row t.part.height (omega (arith, k, rows)) high))
    (omega (arith, wide)) (omega (arith, high)) (row_written t row (a + 1) n i k (omega (arith, l))))

rows_written : (t : TiledPart) (a n : ℕ) → IsTiled t → a + n ≤ t.rows → Written (map draw_tex (flat_map (tile_row t) (range_with_len a n))) (t.columns * n) 0 0
rows_written t a zero i l = at_most [] 0 0 0 (t.columns * 0) 0 0 (let e = mul-zero t.columns in omega (arith, e)) (omega arith) (omega arith) none
rows_written t a (suc n) i l =
    let rest = flat_map (tile_row t) (range_with_len (a + 1) n) in
    let times = mul-suc t.columns n in
    subst (λ cs. Written cs (t.columns * suc n) 0 0) (sym (map-append draw_tex (tile_row t a) rest))
    (at_most _ (t.columns + t.columns * n) 0 0 (t.columns * suc n) 0 0 (omega (arith, times)) (omega arith) (omega arith)
    (both (map draw_tex (tile_row t a)) (map draw_tex rest) t.columns 0 0 (t.columns * n) 0 0 (row_written t a 0 t.columns i (omega (arith, l)) (omega arith)) (rows_written t (a + 1) n i (omega (arith, l)))))

tiles_written : (t : TiledPart) → IsTiled t → Written (map draw_tex (tiles t)) (t.columns * t.rows) 0 0
unfolding tiles
tiles_written t i = rows_written t 0 t.rows i (omega arith)

-- ---- Items.
smooth_written : (name : ℕ) (a : Atlas) (s : ScaledPart) → name ≤ 65535 → AreSmall a → IsNumber s.x → IsNumber s.y → 1 ≤ s.width → 1 ≤ s.height → s.width ≤ 1024 → s.height ≤ 1024 → 4 * least_power s.width * least_power s.height ≤ 8388608 →
    Written (smooth_calls name (Some a) s) 7 (4 * least_power s.width * least_power s.height) 0
unfolding pixel_bytes
smooth_written name a s k small x y p q wide high size =
    let pw = least_power s.width in
    let ph = least_power s.height in
    let long = smooth_long a s in
    let w = (side_range pw (power_side s.width)).high in
    let h = (side_range ph (power_side s.height)).high in
    at_most _ (4 + 2) (length (smooth_texels (Some a) s)) 0 7 (4 * pw * ph) 0 (omega arith) (omega (arith, long)) (omega arith)
    (texture_written name pw ph (smooth_texels (Some a) s) _ 2 k (omega (arith, w)) (omega (arith, h)) (smooth_list a s small p q) (omega (arith, long, size))
    (plainly _ _ 1 0 0 (crop_reads 0 0 s.width s.height (omega arith) (omega arith) (omega (arith, wide)) (omega (arith, high))) refl refl
    (draw_written s [] 0 x y (omega (arith, wide)) (omega (arith, high)) none)))

clip_written : (x y : ℤ) (w h : ℕ) → IsNumber x → IsNumber y → w ≤ 65535 → h ≤ 65535 → Written (scissor x y w h ∷ []) 6 0 0
unfolding pixel_bytes
clip_written x y w h p q k l = at_most _ 1 0 0 6 0 0 (omega arith) (omega arith) (omega arith) (plainly _ _ 0 0 0 (scissor_reads x y w h p q k l) refl refl none)

item_written : (w h : ℕ) (before : List Item) (i : Item) → w ≤ 2048 → h ≤ 2048 → AreItems [] before → All HasBytes before → length before ≤ 4000 → is_item before i ≡ true → HasBytes i → texture_bytes i ≤ 8388608 → Written (item_calls w h before i) (6 + item_count i) (texture_bytes i) 0
item_written w h before (AtlasItem a) k l are all few is small size =
    let n = is_new before a is in
    let parts = and_parts (is_new_atlas before a.id a.width a.height) (length a.texels == texel_bytes a.width a.height) is in
    let long = eqb-true (length a.texels) (texel_bytes a.width a.height) parts.1 in
    let id = n.high in
    let wide = (side_range a.width n.wide).high in
    let high = (side_range a.height n.tall).high in
    at_most _ (4 + 0) (length a.texels) 0 6 (texture_bytes (AtlasItem a)) 0 (omega arith) (omega (arith, long)) (omega arith)
    (texture_written a.id a.width a.height a.texels [] 0 (omega (arith, id)) (omega (arith, wide)) (omega (arith, high)) (each_byte a.texels small) (omega (arith, long, size)) none)
item_written w h before (Sprite s) k l are all few is small size =
    let i = sprite_item before s is in
    let wide = i.wide in
    let high = i.high in
    at_most _ (1 + (1 + (1 + 0))) 0 0 7 0 0 (omega arith) (omega arith) (omega arith)
    (part_written s.part _ 1 (few_part before s.part are i.part) (draw_written s [] 0 i.x i.y (omega (arith, wide)) (omega (arith, high)) none))
item_written w h before (Smooth s) k l are all few is small size =
    let i = sprite_item before s is in
    subst (λ o. Written (smooth_calls (smooth_name before) o s) 7 (texture_bytes (Smooth s)) 0) (sym i.part.is)
    (smooth_written (smooth_name before) i.part.atlas s (omega (arith, few)) (atlas_bytes before s.part.atlas i.part.atlas all i.part.is) i.x i.y i.some_wide i.some_high i.wide i.high size)
item_written w h before (Tile t) k l are all few is small size =
    at_most _ (1 + (1 + t.columns * t.rows)) 0 0 (6 + t.columns * t.rows) 0 0 (omega arith) (omega arith) (omega arith)
    (part_written t.part _ (t.columns * t.rows) (few_part before t.part are (tile_part before t is)) (tiles_written t (tile_fits before t are is)))
item_written w h before (Clip c) k l are all few is small size =
    let p = and_parts (is_place c.x && is_place c.y && nat_le c.width 65535) (nat_le c.height 65535) is in
    let q = and_parts (is_place c.x && is_place c.y) (nat_le c.width 65535) p.0 in
    clip_written c.x c.y c.width c.height (clip_x before c is) (clip_y before c is) (leb-true c.width 65535 q.1) (leb-true c.height 65535 p.1)
item_written w h before NoClip k l are all few is small size = clip_written (pos 0) (pos 0) w h (code 0 refl) (code 0 refl) (omega (arith, k)) (omega (arith, l))

-- ---- All items.
one_more_item : (seen xs : List Item) (i : Item) → AreItems seen xs → is_item (seen ++ xs) i ≡ true → AreItems seen (xs ++ i ∷ [])
one_more_item seen [] i a h = (ap (λ ys. is_item ys i) (sym (append-nil seen)) ∙ h, tt)
one_more_item seen (x ∷ xs) i a h = (a.0, one_more_item (seen ++ x ∷ []) xs i a.1 (ap (λ ys. is_item ys i) (append_assoc seen (x ∷ []) xs) ∙ h))

items_written : (w h : ℕ) (before more : List Item) → w ≤ 2048 → h ≤ 2048 → AreItems [] before → All HasBytes before → AreItems before more → All HasBytes more → length before + length more ≤ 4000 → bytes_of more ≤ 8388608 →
    Written (calls_from w h before more) (6 * length more + draws_of more) (bytes_of more) 0
items_written w h before [] k l are all next small few size = none
items_written w h before (i ∷ more) k l are all next small few size =
    let first = sum_by-cons texture_bytes i more in
    let drawn = sum_by-cons item_count i more in
    let longer = length-append before (i ∷ []) in
    at_most _ ((6 + item_count i) + (6 * length more + draws_of more)) (texture_bytes i + bytes_of more) (0 + 0) (6 * length (i ∷ more) + draws_of (i ∷ more)) (bytes_of (i ∷ more)) 0 (omega (arith, drawn)) (omega (arith, first)) (omega arith)
    (both (item_calls w h before i) (calls_from w h (before ++ i ∷ []) more) (6 + item_count i) (texture_bytes i) 0 (6 * length more + draws_of more) (bytes_of more) 0
    (item_written w h before i k l are all (omega (arith, few)) next.0 (All-head HasBytes i more small) (omega (arith, first, size)))
    (items_written w h (before ++ i ∷ []) more k l (one_more_item [] before i are next.0) (All-append HasBytes before (i ∷ []) all (All-cons HasBytes i [] (All-head HasBytes i more small) (All-nil HasBytes))) next.1 (All-tail HasBytes i more small) (omega (arith, few, longer)) (omega (arith, first, size))))

-- ---- The whole target.
read_pixels : (w h : ℕ) → w ≤ 2048 → h ≤ 2048 → pixel_bytes [] (read_all w h) ≤ 16793600
unfolding pixel_bytes
read_pixels w h k l =
    let most = mul-le-mul {n₁ = 4 * w + 8} {m₁ = h} {n₂ = 8200} {m₂ = 2048} (omega (arith, k)) l in
    cond_both (int_lt (pos 0) (pos w) && int_lt (pos 0) (pos h)) ((4 * w + 8) * h) 0 (λ n. n ≤ 16793600) (λ _. omega (arith, most)) (λ _. omega arith)

read_written : (w h : ℕ) → w ≤ 2048 → h ≤ 2048 → Written (read_all w h ∷ []) (1 + 0) (0 + 0) (16793600 + 0)
read_written w h k l = one_more (read_all w h) [] 0 0 0 0 16793600 (read_reads w h k l) (omega arith) (read_pixels w h k l) none

pub scene_reads : (s : SceneValue) → IsScene s → All HasBytes s.items → trace (scene_text s) ≡ Ok (trace_of (calls_of s))
unfolding scene_text
scene_reads s is small =
    let w = s.width in
    let h = s.height in
    let k = is.width.high in
    let l = is.height.high in
    let few = is.few in
    let few_draws = is.few_draws in
    let few_bytes = is.few_bytes in
    let items = items_written w h [] s.items k l tt (All-nil HasBytes) is.items small (omega (arith, few)) (omega (arith, few_bytes)) in
    let back = both (calls_from w h [] s.items) (read_all w h ∷ []) (6 * length s.items + draws_of s.items) (bytes_of s.items) 0 (1 + 0) (0 + 0) (16793600 + 0) items (read_written w h k l) in
    let all = both (opening_calls w h) (calls_from w h [] s.items ++ read_all w h ∷ []) 8 0 0 _ _ _ (opening_written w h k l) back in
    let calls = all.few_calls in
    let payloads = all.few_payloads in
    let pixels = all.few_pixels in
    calls_trace (calls_of s) all.reads (omega (arith, calls, few, few_draws)) (omega (arith, pixels)) (omega (arith, payloads, few_bytes))
