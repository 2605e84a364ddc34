-- No list and no object has a float.
use Rattle.std.proofs.Common.{◌≡◌, ℕ, ℤ, pos, negsuc, false, List, [], ◌∷◌, ◌++◌, map, Ordering, Less, Equal, Greater, nat_cmp, BTreeMap, String, Vec, Global, refl, ap, ◌∙◌}
use Rattle.std.specs.Ordering.{match_ordering}
use Rattle.std.specs.Cmp.Lexicographic.{slice_cmp}
use Rattle.std.proofs.lemmas.Bool.{or_from}
use Rattle.egl_calls.proofs.Truths.{neither_first, neither_second}
use Rattle.serde_json.proofs.Views.{view-Array, view-Object}
use Rattle.serde_json.specs.Data.{Data, number, object, string, unsigned, Members, no_members, member, put}
use Rattle.serde_json.specs.Find.{of_integer}
use Rattle.serde_json.specs.View.{items_of, members_view, view}
use Rattle.serde_json.specs.Written.{has_float, items_have_float, members_have_float}
use Rattle.serde_json.specs.declared.value.Value.{Value, Array, Object}
use Rattle.json_lines.specs.Lines.{list_data, number_data}

-- ---- Either of two.
-- ---- Members.
of_three : (o : Ordering) (a b c : Members) → members_have_float a ≡ false → members_have_float b ≡ false → members_have_float c ≡ false → members_have_float (match_ordering o a b c) ≡ false
of_three Less a b c p q r = p
of_three Equal a b c p q r = q
of_three Greater a b c p q r = r

put_bare : (k : List ℕ) (d : Data) (ms : Members) → has_float d ≡ false → members_have_float ms ≡ false → members_have_float (put k d ms) ≡ false
put_bare k d no_members p q = or_from (has_float d) false p refl
put_bare k d (member l e ms) p q =
    let rest : members_have_float ms ≡ false = neither_second (has_float e) (members_have_float ms) q in
    let own : has_float e ≡ false = neither_first (has_float e) (members_have_float ms) q in
    of_three
    (slice_cmp nat_cmp k l)
    (member k d (member l e ms))
    (member l d ms)
    (member l e (put k d ms))
    (or_from (has_float d) (members_have_float (member l e ms)) p q)
    (or_from (has_float d) (members_have_float ms) p rest)
    (or_from (has_float e) (members_have_float (put k d ms)) own (put_bare k d ms p rest))

pub member_put : (k : List ℕ) (d : Data) (before after : Members) → after ≡ put k d before → has_float d ≡ false → members_have_float before ≡ false → members_have_float after ≡ false
member_put k d before after e p q = ap members_have_float e ∙ put_bare k d before p q

-- ---- Items.
push_bare : (xs : List Data) (d : Data) → items_have_float (items_of xs) ≡ false → has_float d ≡ false → items_have_float (items_of (xs ++ d ∷ [])) ≡ false
push_bare [] d p q = or_from (has_float d) false q refl
push_bare (x ∷ xs) d p q =
    or_from
    (has_float x)
    (items_have_float (items_of (xs ++ d ∷ [])))
    (neither_first (has_float x) (items_have_float (items_of xs)) p)
    (push_bare xs d (neither_second (has_float x) (items_have_float (items_of xs)) p) q)

map_more : (xs : List Value) (v : Value) → map view (xs ++ v ∷ []) ≡ map view xs ++ view v ∷ []
map_more [] v = refl
map_more (x ∷ xs) v = ap (λ l. view x ∷ l) (map_more xs v)

pub map_push : (xs ys : List Value) (v : Value) → ys ≡ xs ++ v ∷ [] → map view ys ≡ map view xs ++ view v ∷ []
map_push xs ys v e = ap (map view) e ∙ map_more xs v

pub pushed : (xs ys : List Value) (v : Value) → ys ≡ xs ++ v ∷ [] → has_float (list_data (map view xs)) ≡ false → has_float (view v) ≡ false → has_float (list_data (map view ys)) ≡ false
pushed xs ys v e p q = ap (λ l. has_float (list_data l)) (map_push xs ys v e) ∙ push_bare (map view xs) (view v) p q

-- ---- Values.
pub no_text : (d : Data) (s : List ℕ) → d ≡ string s → has_float d ≡ false
no_text d s e = ap has_float e

pub no_count : (d : Data) (n : ℕ) → d ≡ number (unsigned n) → has_float d ≡ false
no_count d n e = ap has_float e

bare_number : (z : ℤ) → has_float (number_data z) ≡ false
bare_number (pos n) = refl
bare_number (negsuc n) = refl

pub no_number : (d : Data) (z : ℤ) → d ≡ number (of_integer z) → has_float d ≡ false
no_number d z e = ap has_float e ∙ bare_number z

pub array_view : (v : Vec Value Global) → view (Array v) ≡ list_data (map view v.items)
array_view v = view-Array v

pub object_view : (m : BTreeMap (String Global) Value) → view (Object m) ≡ object (members_view m.entries)
object_view m = view-Object m

pub array_bare : (v : Vec Value Global) → has_float (list_data (map view v.items)) ≡ false → has_float (view (Array v)) ≡ false
array_bare v p = ap has_float (array_view v) ∙ p

pub object_bare : (m : BTreeMap (String Global) Value) → members_have_float (members_view m.entries) ≡ false → has_float (view (Object m)) ≡ false
object_bare m p = ap has_float (object_view m) ∙ p
