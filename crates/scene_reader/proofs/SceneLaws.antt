-- What lines spell is a scene.
use Rattle.std.proofs.Common.{◌≡◌, ℕ, zero, suc, ◌+◌, ◌-◌, ◌*◌, ◌≤◌, Bool, true, false, List, [], ◌∷◌, ◌++◌, length, refl, arith, Option, None, Some, Result, Ok, Err, IfOk, IfSome}
use Rattle.std.proofs.lemmas.Bool.{and_from, and_parts, leb-true}
use Rattle.std.specs.Prelude.{◌&&◌, ◌==◌, if◌then◌else◌, codes, nat_le, not}
use Rattle.std.specs.Str.Lines.{lines}
use Rattle.trace_reader.specs.declared.traces.Defect.{Defect}
use Rattle.trace_reader.specs.declared.traces.Reason.{Reason}
use Rattle.trace_reader.specs.declared.traces.Reason.TheVariants.{Argument, Header, Limit}
use Rattle.trace_reader.specs.Reasons.{◌>>=◌, provided}
use Rattle.trace_reader.specs.Numerals.{has_leading_zero, is_digit, number_after, numeral}
use Rattle.trace_reader.specs.Payloads.{payload}
use Rattle.trace_reader.specs.Words.{is_skipped, is_word, word_at, words}
use Rattle.scene_reader.specs.declared.headers.Sides.{Sides}
use Rattle.scene_reader.specs.declared.items.Item.{Item}
use Rattle.scene_reader.specs.Items.{bytes_of, draws, draws_of, is_atlas, is_clip, is_item, is_scaled, is_tiled, texel_bytes, texture_bytes}
use Rattle.scene_reader.specs.Scenes.{IsRead, IsScene, IsSide, has_room}
use Rattle.scene_reader.specs.Headers.{header_of, is_header, side_of, some_side}
use Rattle.scene_reader.specs.Lines.{atlas_of, begins, clip_of, drawn_of, frame_of, integer_of, is_new, item_of, line_behind, natural_of, part_of, scaled_of, sized, tested, texels_of, tiled_of, with_item}
use Rattle.scene_reader.specs.Grammar.{behind_header, line_then, read_items, scene, scene_of_lines, with_sides}
use Rattle.scene_reader.proofs.ItemLaws.{read_more}

if_bind : {A B : Type 0} (r : Result A Reason) (f : A → Result B Reason) (P : B → Type 0) → ((x : A) → IfOk (f x) P) → IfOk (r >>= f) P
if_bind (Ok x) f P h = h x
if_bind (Err e) f P h = tt

if_behind : {A B : Type 0} (r : Result A Reason) (f : A → Result B Reason) (Q : A → Type 0) (P : B → Type 0) → IfOk r Q → ((x : A) → Q x → IfOk (f x) P) → IfOk (r >>= f) P
if_behind (Ok x) f Q P q h = h x q
if_behind (Err e) f Q P q h = tt

if_provided : {A : Type 0} (b : Bool) (e : Reason) (more : Result A Reason) (P : A → Type 0) → (b ≡ true → IfOk more P) → IfOk (provided b e more) P
if_provided true e more P h = h refl
if_provided false e more P h = tt

either : {A : Type 0} (b : Bool) (x y : Result A Reason) (P : A → Type 0) → IfOk x P → IfOk y P → IfOk (if b then x else y) P
either true x y P p q = p
either false x y P p q = q

tested_ok : {A : Type 0} (test : A → Bool) (x : A) → IfOk (tested test x) (λ y. test y ≡ true)
tested_ok test x = if_provided (test x) Argument (Ok x) (λ y. test y ≡ true) (λ h. h)

scaled_ok : (before : List Item) (ws : List (List ℕ)) → IfOk (scaled_of before ws) (λ s. is_scaled before s ≡ true)
unfolding scaled_of
scaled_ok before ws =
    if_provided (length ws == 10) Argument _ _ (λ h.
    if_bind (part_of ws) _ _ (λ part.
    if_bind (integer_of (word_at ws 6)) _ _ (λ x.
    if_bind (integer_of (word_at ws 7)) _ _ (λ y.
    if_bind (natural_of (word_at ws 8)) _ _ (λ width.
    if_bind (natural_of (word_at ws 9)) _ _ (λ height.
    tested_ok (is_scaled before) (record { part = part; x = x; y = y; width = width; height = height })))))))

tiled_ok : (before : List Item) (ws : List (List ℕ)) → IfOk (tiled_of before ws) (λ t. is_tiled before t ≡ true)
unfolding tiled_of
tiled_ok before ws =
    if_provided (length ws == 10) Argument _ _ (λ h.
    if_bind (part_of ws) _ _ (λ part.
    if_bind (integer_of (word_at ws 6)) _ _ (λ x.
    if_bind (integer_of (word_at ws 7)) _ _ (λ y.
    if_bind (natural_of (word_at ws 8)) _ _ (λ columns.
    if_bind (natural_of (word_at ws 9)) _ _ (λ rows.
    tested_ok (is_tiled before) (record { part = part; x = x; y = y; columns = columns; rows = rows })))))))

clip_ok : (ws : List (List ℕ)) → IfOk (clip_of ws) (λ c. is_clip c ≡ true)
unfolding clip_of
clip_ok ws =
    if_provided (length ws == 5) Argument _ _ (λ h.
    if_bind (integer_of (word_at ws 1)) _ _ (λ x.
    if_bind (integer_of (word_at ws 2)) _ _ (λ y.
    if_bind (natural_of (word_at ws 3)) _ _ (λ width.
    if_bind (natural_of (word_at ws 4)) _ _ (λ height.
    tested_ok is_clip (record { x = x; y = y; width = width; height = height }))))))

frame_ok : (before : List Item) (ws : List (List ℕ)) → IfOk (frame_of before ws) (λ f. is_new before f ≡ true)
unfolding frame_of
frame_ok before ws =
    if_provided (length ws == 5) Argument _ _ (λ h.
    if_bind (natural_of (word_at ws 1)) _ _ (λ id.
    if_bind (natural_of (word_at ws 2)) _ _ (λ width.
    if_bind (natural_of (word_at ws 3)) _ _ (λ height.
    tested_ok (is_new before) (record { id = id; width = width; height = height })))))

sized_ok : (size : ℕ) (said : Option (Option (List ℕ))) → IfOk (sized size said) (λ bs. (length bs == size) ≡ true)
sized_ok size None = tt
sized_ok size (Some None) = tt
sized_ok size (Some (Some bs)) = if_provided (length bs == size) Argument (Ok bs) (λ xs. (length xs == size) ≡ true) (λ h. h)

texels_ok : (size : ℕ) (w : List ℕ) → IfOk (texels_of size w) (λ bs. (length bs == size) ≡ true)
unfolding texels_of
texels_ok size w = sized_ok size (payload w)

atlas_ok : (before : List Item) (ws : List (List ℕ)) → IfOk (atlas_of before ws) (λ a. is_atlas before a ≡ true)
unfolding atlas_of
atlas_ok before ws =
    if_behind (frame_of before ws) _ _ _ (frame_ok before ws) (λ f n.
    if_behind (texels_of (texel_bytes f.width f.height) (word_at ws 4)) _ _ _ (texels_ok (texel_bytes f.width f.height) (word_at ws 4)) (λ bs l.
    and_from _ _ n l))

drawn_ok : (before : List Item) (ws : List (List ℕ)) → IfOk (drawn_of before ws) (λ i. is_item before i ≡ true)
unfolding drawn_of
drawn_ok before ws =
    either (begins ws (codes "sprite")) _ _ _ (if_behind (scaled_of before ws) _ _ _ (scaled_ok before ws) (λ s h. h))
    (either (begins ws (codes "smooth")) _ _ _ (if_behind (scaled_of before ws) _ _ _ (scaled_ok before ws) (λ s h. h))
    (either (begins ws (codes "tile")) _ _ _ (if_behind (tiled_of before ws) _ _ _ (tiled_ok before ws) (λ t h. h))
    (either (begins ws (codes "clip")) _ _ _ (if_behind (clip_of ws) _ _ _ (clip_ok ws) (λ c h. h))
    (either (begins ws (codes "noclip")) _ _ _ (if_provided (length ws == 1) Argument _ _ (λ h. refl)) tt))))

item_ok : (before : List Item) (ws : List (List ℕ)) → IfOk (item_of before ws) (λ i. is_item before i ≡ true)
unfolding item_of
item_ok before ws =
    either (begins ws (codes "atlas")) _ _ _ (if_behind (atlas_of before ws) _ _ _ (atlas_ok before ws) (λ a h. h)) (drawn_ok before ws)

-- items that may be read
abbrev AreRead : List Item → Type 0
AreRead items = IsRead items (draws_of items) (bytes_of items)

more_read : (before : List Item) (i : Item) → AreRead before → is_item before i ≡ true → has_room before i ≡ true → AreRead (before ++ i ∷ [])
more_read before i r h room =
    let more : IsRead (before ++ i ∷ []) (draws_of before + draws i) (bytes_of before + texture_bytes i) = read_more before (before ++ i ∷ []) i _ _ _ _ r h room refl refl refl in
    record {
      items = more.items;
      draws_are = refl;
      bytes_are = refl;
      few = more.few;
      few_draws = more.few_draws;
      few_bytes = more.few_bytes;
    }

line_ok : (before : List Item) (line : List ℕ) → AreRead before → IfOk (line_behind before line) AreRead
unfolding line_behind
line_ok before line r =
    either (is_skipped line) (Ok before) _ AreRead r
    (if_behind (item_of before (words line)) (with_item before) (λ i. is_item before i ≡ true) AreRead (item_ok before (words line)) (λ i h.
    if_provided (has_room before i) Limit (Ok (before ++ i ∷ [])) AreRead (λ room. more_read before i r h room)))

then_ok : (n : ℕ) (said : Result (List Item) Reason) (more : List Item → Result (List Item) Defect) → IfOk said AreRead → ((items : List Item) → AreRead items → IfOk (more items) AreRead) → IfOk (line_then n said more) AreRead
then_ok n (Ok items) more r h = h items r
then_ok n (Err e) more r h = tt

items_ok : (before : List Item) (n : ℕ) (ls : List (List ℕ)) → AreRead before → IfOk (read_items before n ls) AreRead
items_ok before n [] r = r
items_ok before n (line ∷ rest) r = then_ok n (line_behind before line) (λ items. read_items items (n + 1) rest) (line_ok before line r) (λ items more. items_ok items (n + 1) rest more)

nothing_read : AreRead []
nothing_read = record {
  items = tt;
  draws_are = refl;
  bytes_are = refl;
  few = omega arith;
  few_draws = omega arith;
  few_bytes = omega arith;
}

sides_ok : (sides : Sides) (said : Result (List Item) Defect) → IsSide sides.width → IsSide sides.height → IfOk said AreRead → IfOk (with_sides sides said) IsScene
sides_ok sides (Ok items) w h r = record { width = w; height = h; items = r.items; few = r.few; few_draws = r.few_draws; few_bytes = r.few_bytes }
sides_ok sides (Err d) w h r = tt

if_some_when : (b : Bool) (x : Option ℕ) (P : ℕ → Type 0) → (b ≡ true → IfSome x P) → IfSome (if b then x else None) P
if_some_when true x P h = h refl
if_some_when false x P h = tt

after_small : (limit n : ℕ) (ds : List ℕ) → n ≤ limit → IfSome (number_after limit n ds) (λ m. m ≤ limit)
after_small limit n [] h = h
after_small limit n (b ∷ bs) h =
    if_some_when (is_digit b && nat_le (10 * n + (b - 48)) limit) (number_after limit (10 * n + (b - 48)) bs) (λ m. m ≤ limit) (λ t.
    after_small limit (10 * n + (b - 48)) bs (leb-true _ _ (and_parts (is_digit b) (nat_le (10 * n + (b - 48)) limit) t).1))

numeral_small : (limit : ℕ) (w : List ℕ) → IfSome (numeral limit w) (λ m. m ≤ limit)
unfolding numeral
numeral_small limit w = if_some_when (is_word w && not (has_leading_zero w)) (number_after limit 0 w) (λ m. m ≤ limit) (λ t. after_small limit 0 w (omega arith))

some_ok : (said : Option ℕ) → IfSome said (λ m. m ≤ 2048) → IfOk (some_side said) IsSide
some_ok None h = tt
some_ok (Some zero) h = tt
some_ok (Some (suc n)) h = record { low = omega arith; high = h }

side_ok : (w : List ℕ) → IfOk (side_of w) IsSide
unfolding side_of
side_ok w = some_ok (numeral 2048 w) (numeral_small 2048 w)

abbrev HasSides : Sides → Type 0
HasSides s = IsSide s.width × IsSide s.height

header_ok : (ws : List (List ℕ)) → IfOk (header_of ws) HasSides
unfolding header_of
header_ok ws =
    if_provided (is_header ws) Header _ HasSides (λ h.
    if_behind (side_of (word_at ws 2)) _ IsSide HasSides (side_ok (word_at ws 2)) (λ width w.
    if_behind (side_of (word_at ws 3)) _ IsSide HasSides (side_ok (word_at ws 3)) (λ height g.
    (w, g))))

behind_ok : (said : Result Sides Reason) (rest : List (List ℕ)) → IfOk said HasSides → IfOk (behind_header said rest) IsScene
behind_ok (Ok sides) rest h = sides_ok sides (read_items [] 2 rest) h.0 h.1 (items_ok [] 2 rest nothing_read)
behind_ok (Err r) rest h = tt

scene_of_lines_ok : (ls : List (List ℕ)) → IfOk (scene_of_lines ls) IsScene
scene_of_lines_ok [] = tt
scene_of_lines_ok (first ∷ rest) = behind_ok (header_of (words first)) rest (header_ok (words first))

pub scene_ok : (b : List ℕ) → IfOk (scene b) IsScene
unfolding scene
scene_ok b = scene_of_lines_ok (lines b)
