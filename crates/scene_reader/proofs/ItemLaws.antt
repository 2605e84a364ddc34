-- One more item behind others.
use Rattle.std.proofs.Common.{◌≡◌, ℕ, ◌+◌, ◌<◌, ◌≤◌, true, List, [], ◌∷◌, ◌++◌, length, sym, ap, subst, ◌∙◌, arith, length-append, append_assoc, append-nil}
use Rattle.std.proofs.lemmas.Bool.{and_parts, leb-true, ltb-true}
use Rattle.std.proofs.lemmas.List.Sums.{sum_by-append}
use Rattle.std.specs.Prelude.{◌&&◌, nat_le, nat_lt, sum_by}
use Rattle.scene_reader.specs.declared.items.Item.{Item}
use Rattle.scene_reader.specs.Items.{bytes_of, draws, draws_of, is_item, texture_bytes}
use Rattle.scene_reader.specs.Scenes.{AreItems, IsRead, has_room, most_bytes, most_draws, most_items}

items_more : (before items : List Item) (i : Item) → AreItems before items → is_item (before ++ items) i ≡ true → AreItems before (items ++ i ∷ [])
items_more before [] i a h =
    let P : List Item → Type 0 = λ all. is_item all i ≡ true in
    (subst P (append-nil before) h, tt)
items_more before (x ∷ items) i a h =
    let P : List Item → Type 0 = λ all. is_item all i ≡ true in
    (a.0, items_more (before ++ x ∷ []) items i a.1 (subst P (sym (append_assoc before (x ∷ []) items)) h))

sum_more : (f : Item → ℕ) (items : List Item) (i : Item) → sum_by f (items ++ i ∷ []) ≡ sum_by f items + f i
sum_more f items i =
    let one : sum_by f (i ∷ []) ≡ f i = omega arith in
    sum_by-append f items (i ∷ []) ∙ ap (λ (n : ℕ). sum_by f items + n) one

-- what was read, with an item for which there is room
pub read_more : (items more : List Item) (i : Item) (count bytes new_draws new_bytes : ℕ) → IsRead items count bytes → is_item items i ≡ true → has_room items i ≡ true
    → more ≡ items ++ i ∷ [] → new_draws ≡ draws i → new_bytes ≡ texture_bytes i → IsRead more (count + new_draws) (bytes + new_bytes)
read_more items more i count bytes new_draws new_bytes r h room e d b =
    let parts = and_parts (nat_lt (length items) most_items && nat_le (draws_of items + draws i) most_draws) (nat_le (bytes_of items + texture_bytes i) most_bytes) room in
    let first = and_parts (nat_lt (length items) most_items) (nat_le (draws_of items + draws i) most_draws) parts.0 in
    let few : length items < most_items = ltb-true _ _ first.0 in
    let few_draws : draws_of items + draws i ≤ most_draws = leb-true _ _ first.1 in
    let few_bytes : bytes_of items + texture_bytes i ≤ most_bytes = leb-true _ _ parts.1 in
    let P : List Item → Type 0 = λ all. IsRead all (count + new_draws) (bytes + new_bytes) in
    let new_length : length (items ++ i ∷ []) ≡ length items + 1 = length-append items (i ∷ []) in
    let draws_more : draws_of (items ++ i ∷ []) ≡ draws_of items + draws i = sum_more draws items i in
    let bytes_more : bytes_of (items ++ i ∷ []) ≡ bytes_of items + texture_bytes i = sum_more texture_bytes items i in
    subst P (sym e) (record {
      items = items_more [] items i r.items h;
      draws_are = omega (arith, r.draws_are, d, draws_more);
      bytes_are = omega (arith, r.bytes_are, b, bytes_more);
      few = omega (arith, few, new_length);
      few_draws = omega (arith, few_draws, draws_more);
      few_bytes = omega (arith, few_bytes, bytes_more);
    })
