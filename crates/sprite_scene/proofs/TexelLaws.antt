-- Lists that grow by the pieces of a range, and by items.
use Rattle.std.proofs.Common.{◌≡◌, ℕ, zero, suc, ◌+◌, ◌<◌, List, [], ◌∷◌, ◌++◌, length, map, take, drop, get_or, refl, sym, subst, ap, ◌∙◌, arith, append_assoc, Option}
use Rattle.std.specs.Prelude.{All}
use Rattle.std.specs.List.{flat_map, range_with_len}
use Rattle.std.proofs.lemmas.List.{append-nil, map-append, take_more}
use Rattle.std.proofs.lemmas.List.Elements.{All-append, All-cons, All-nil}
use Rattle.std.proofs.lemmas.List.FromFn.{map-range_with_len_more}
use Rattle.std.proofs.Math.ListN.{drop_of_length-le}
use Rattle.std.proofs.Math.Seq.{drop-cons, take-length, take-suc}
use Rattle.egl_calls.specs.Calls.{CallValue}
use Rattle.scene_reader.specs.Items.{least_power}
use Rattle.scene_reader.specs.declared.items.Atlas.{Atlas}
use Rattle.scene_reader.specs.declared.items.Item.{Item}
use Rattle.scene_reader.specs.declared.items.ScaledPart.{ScaledPart}
use Rattle.scene_reader.specs.declared.items.TiledPart.{TiledPart}
use Rattle.sprite_scene.specs.Calls.{calls_from, draw_tex, item_calls, smooth_texel, smooth_texels}
use Rattle.sprite_scene.specs.Draws.{tile_at, tile_row, tiles}
use Rattle.sprite_scene.specs.Painted.{painted_row, picture}
use Rattle.sprite_scene.specs.Parts.{HasBytes}

flat_from : {A : Type 0} (f : ℕ → List A) (a n j : ℕ) → a + n ≡ j → flat_map f (range_with_len a (n + 1)) ≡ flat_map f (range_with_len a n) ++ f j
flat_from f a zero j e = append-nil (f a) ∙ ap f (omega (arith, e))
flat_from f a (suc n) j e =
    let next : suc n + 1 ≡ suc (n + 1) = omega arith in
    ap (λ m. flat_map f (range_with_len a m)) next
    ∙ ap (λ xs. f a ++ xs) (flat_from f (a + 1) n j (omega (arith, e)))
    ∙ sym (append_assoc (f a) (flat_map f (range_with_len (a + 1) n)) (f j))

-- one more piece
pub piece_more : {A : Type 0} (f : ℕ → List A) (n : ℕ) (old mid new piece : List A) → mid ≡ old ++ flat_map f (range_with_len 0 n) → new ≡ mid ++ piece → piece ≡ f n → new ≡ old ++ flat_map f (range_with_len 0 (n + 1))
piece_more f n old mid new piece a b c =
    b ∙ ap (λ xs. xs ++ piece) a ∙ append_assoc old (flat_map f (range_with_len 0 n)) piece
    ∙ ap (λ p. old ++ (flat_map f (range_with_len 0 n) ++ p)) c ∙ ap (λ xs. old ++ xs) (sym (flat_from f 0 n n (omega arith)))

pub no_piece : {A : Type 0} (f : ℕ → List A) (old : List A) → old ≡ old ++ flat_map f (range_with_len 0 0)
no_piece f old = sym (append-nil old)

-- ---- Rows of pixels.
-- one more row of a picture that grows from nothing
pub rows_more : {A : Type 0} (f : ℕ → List A) (n : ℕ) (mid new piece : List A) → mid ≡ flat_map f (range_with_len 0 n) → new ≡ mid ++ piece → piece ≡ f n → new ≡ flat_map f (range_with_len 0 (n + 1))
rows_more f n mid new piece a b c = piece_more f n [] mid new piece a b c

pub rows_are : (o : Option Atlas) (s : ScaledPart) (w h : ℕ) → w ≡ least_power s.width → h ≡ least_power s.height → flat_map (painted_row (smooth_texel o s) w) (range_with_len 0 h) ≡ smooth_texels o s
unfolding smooth_texels picture
rows_are o s w h a b = ap (λ n. flat_map (painted_row (smooth_texel o s) n) (range_with_len 0 h)) a ∙ ap (λ n. flat_map (painted_row (smooth_texel o s) (least_power s.width)) (range_with_len 0 n)) b

-- ---- Calls of tiles.
pub call_more : (t : TiledPart) (row n : ℕ) (old mid new : List CallValue) (p : ScaledPart) → mid ≡ old ++ map draw_tex (map (λ column. tile_at t column row) (range_with_len 0 n)) → new ≡ mid ++ draw_tex p ∷ [] → p ≡ tile_at t n row →
    new ≡ old ++ map draw_tex (map (λ column. tile_at t column row) (range_with_len 0 (n + 1)))
call_more t row n old mid new p a b c =
    let f = λ (column : ℕ). tile_at t column row in
    b ∙ ap (λ xs. xs ++ draw_tex p ∷ []) a ∙ append_assoc old (map draw_tex (map (λ column. tile_at t column row) (range_with_len 0 n))) (draw_tex p ∷ [])
    ∙ ap (λ q. old ++ (map draw_tex (map (λ column. tile_at t column row) (range_with_len 0 n)) ++ draw_tex q ∷ [])) c
    ∙ ap (λ xs. old ++ xs) (sym (map-append draw_tex (map (λ column. tile_at t column row) (range_with_len 0 n)) (tile_at t n row ∷ [])))
    ∙ ap (λ xs. old ++ map draw_tex xs) (sym (map-range_with_len_more (λ column. tile_at t column row) 0 n n (omega arith)))

pub no_call : (t : TiledPart) (row : ℕ) (old : List CallValue) → old ≡ old ++ map draw_tex (map (λ column. tile_at t column row) (range_with_len 0 0))
no_call t row old = sym (append-nil old)

pub row_more : (t : TiledPart) (n : ℕ) (old mid new : List CallValue) → mid ≡ old ++ map draw_tex (flat_map (tile_row t) (range_with_len 0 n)) → new ≡ mid ++ map draw_tex (tile_row t n) → new ≡ old ++ map draw_tex (flat_map (tile_row t) (range_with_len 0 (n + 1)))
row_more t n old mid new a b =
    b ∙ ap (λ xs. xs ++ map draw_tex (tile_row t n)) a ∙ append_assoc old (map draw_tex (flat_map (tile_row t) (range_with_len 0 n))) (map draw_tex (tile_row t n))
    ∙ ap (λ xs. old ++ xs) (sym (map-append draw_tex (flat_map (tile_row t) (range_with_len 0 n)) (tile_row t n)))
    ∙ ap (λ xs. old ++ map draw_tex xs) (sym (flat_from (tile_row t) 0 n n (omega arith)))

pub no_row : (t : TiledPart) (old : List CallValue) → old ≡ old ++ map draw_tex (flat_map (tile_row t) (range_with_len 0 0))
no_row t old = sym (append-nil old)

pub tiles_are : (t : TiledPart) → flat_map (tile_row t) (range_with_len 0 t.rows) ≡ tiles t
unfolding tiles
tiles_are t = refl

-- ---- Items.
-- the calls of an item, and then those of the items behind it
pub item_more : (w h k : ℕ) (items : List Item) (i : Item) (mid new all : List CallValue) → k < length items → i ≡ get_or items k i → mid ++ calls_from w h (take k items) (drop k items) ≡ all → new ≡ mid ++ item_calls w h (take k items) i →
    new ++ calls_from w h (take (k + 1) items) (drop (k + 1) items) ≡ all
item_more w h k items i mid new all l e a b =
    let next : k + 1 ≡ suc k = omega arith in
    let rest : drop k items ≡ i ∷ drop (suc k) items = drop-cons items k i l ∙ ap (λ x. x ∷ drop (suc k) items) (sym e) in
    let more : take (suc k) items ≡ take k items ++ i ∷ [] = take-suc items k i l ∙ ap (λ x. take k items ++ x ∷ []) (sym e) in
    ap (λ n. new ++ calls_from w h (take n items) (drop n items)) next
    ∙ ap (λ xs. new ++ calls_from w h xs (drop (suc k) items)) more
    ∙ ap (λ xs. xs ++ calls_from w h (take k items ++ i ∷ []) (drop (suc k) items)) b
    ∙ append_assoc mid (item_calls w h (take k items) i) (calls_from w h (take k items ++ i ∷ []) (drop (suc k) items))
    ∙ ap (λ xs. mid ++ calls_from w h (take k items) xs) (sym rest)
    ∙ a

pub all_items : (w h k : ℕ) (items : List Item) (calls all : List CallValue) → k ≡ length items → calls ++ calls_from w h (take k items) (drop k items) ≡ all → calls ≡ all
all_items w h k items calls all e a =
    let none : drop k items ≡ [] = drop_of_length-le items {i = k} (omega (arith, e)) in
    sym (append-nil calls) ∙ ap (λ xs. calls ++ calls_from w h (take k items) xs) (sym none) ∙ a

-- ---- What holds of each item.
pub none_yet : (items : List Item) → All HasBytes (take 0 items)
none_yet items = All-nil HasBytes

pub all_more : (items : List Item) (n : ℕ) (i : Item) → n < length items → i ≡ get_or items n i → HasBytes i → All HasBytes (take n items) → All HasBytes (take (n + 1) items)
all_more items n i l e h a =
    subst (All HasBytes) (sym (take_more items n i l)) (All-append HasBytes (take n items) (get_or items n i ∷ []) a (subst (λ x. All HasBytes (x ∷ [])) e (All-cons HasBytes i [] h (All-nil HasBytes))))

pub all_taken : (items : List Item) (n : ℕ) → n ≡ length items → All HasBytes (take n items) → All HasBytes items
all_taken items n e a = subst (All HasBytes) (ap (λ m. take m items) e ∙ take-length items) a
