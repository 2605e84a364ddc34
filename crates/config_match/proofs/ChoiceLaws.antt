-- What the steps of a choice come to.
use Rattle.std.proofs.Common.{◌≡◌, ℕ, ◌+◌, ◌<◌, List, ℤ, map, length, refl, sym, ap, ◌∙◌, subst, arith, Result, Some, Bool, true, false, [], ◌∷◌, zero, suc, leb, cond, ◌≤◌}
use Rattle.std.proofs.lemmas.Bool.{and_parts}
use borrow.Author.Tests.{leb-true}
use Rattle.egl_names.specs.declared.codes.TheConstants.{EGL_RED_SIZE, EGL_GREEN_SIZE, EGL_BLUE_SIZE, EGL_ALPHA_SIZE}
use Rattle.std.specs.Prelude.{filter, IfOk, slice_get, slice_index}
use Rattle.std.specs.List.{range_with_len, list_all}
use Rattle.std.specs.Option.{option_map}
use Rattle.std.proofs.lemmas.Option.{slice_get-get_or, slice_get_within, slice_get-map}
use Rattle.std.proofs.lemmas.List.FromFn.{length-range_with_len, get_or-range_with_len}
use Rattle.config_match.specs.declared.table.Config.{Config}
use Rattle.config_match.specs.Table.{configs, attribute_of}
use Rattle.config_match.specs.Laws.{IsChoice}
use Rattle.config_match.proofs.SortLaws.{moves_rising, rising_is_sorted}
use Rattle.config_match.specs.Configs.{matches, key, id_of_key, chosen, value, requested_size, requested_bits}
use Rattle.config_match.specs.Keys.{rising}

pub chosen_is : (rows : List Config) (list asked : List ℤ) (keys sorted : List (List ℕ)) → rows ≡ configs → asked ≡ list → keys ≡ map (key asked) (filter (matches asked) rows) → sorted ≡ rising keys → map id_of_key sorted ≡ chosen list
unfolding chosen
chosen_is rows list asked keys sorted r a k s =
    ap (map id_of_key) (s ∙ ap rising (k ∙ ap (λ (l : List ℤ). map (key l) (filter (matches l) rows)) a ∙ ap (λ (c : List Config). map (key list) (filter (matches list) c)) r))

pub if_ok_same : {T E : Type 0} (r : Result T E) (a b : T) → a ≡ b → IfOk r (λ v. v ≡ a) → IfOk r (λ v. v ≡ b)
if_ok_same {T} {E} r a b e h = subst (λ (x : T). IfOk r (λ v. v ≡ x)) e h

-- the ids are 1 to 8
ids_are : map (λ c. c.id) configs ≡ map (λ k. 1 + k) (range_with_len 0 8)
ids_are = refl

count_is : length configs ≡ 8
count_is = refl

get_range : (a n k : ℕ) → k < n → slice_get (range_with_len a n) k ≡ Some (a + k)
get_range a n k l =
    let m : k < length (range_with_len a n) = rw length-range_with_len l in
    slice_get-get_or (range_with_len a n) k 0 m ∙ ap Some (get_or-range_with_len a n k 0 l)

id_at : (i : ℕ) (c : Config) → slice_get configs i ≡ Some c → c.id ≡ 1 + i
id_at i c g =
    let within : i < 8 = subst (λ (n : ℕ). i < n) count_is (slice_get_within configs i c g) in
    let one : slice_get (map (λ (c : Config). c.id) configs) i ≡ Some c.id = slice_get-map (λ (c : Config). c.id) configs i ∙ ap (option_map (λ (c : Config). c.id)) g in
    let other : slice_get (map (λ k. 1 + k) (range_with_len 0 8)) i ≡ Some (1 + (0 + i)) = slice_get-map (λ k. 1 + k) (range_with_len 0 8) i ∙ ap (option_map (λ k. 1 + k)) (get_range 0 8 i within) in
    let same : Some c.id ≡ Some (1 + (0 + i)) = sym one ∙ ap (λ (xs : List ℕ). slice_get xs i) ids_are ∙ other in
    let less : c.id ≡ 1 + (0 + i) = cc in
    omega arith

-- the last part of a key is the id
last_part : (list : List ℤ) (c : Config) → slice_index (key list c) 10 ≡ c.id
unfolding key attribute_of
last_part list c = refl

pub keys_apart : (list : List ℤ) (i j : ℕ) (c d : Config) → slice_get configs i ≡ Some c → slice_get configs j ≡ Some d → key list c ≡ key list d → i ≡ j
keys_apart list i j c d g h e =
    let a : c.id ≡ 1 + i = id_at i c g in
    let b : d.id ≡ 1 + j = id_at j d h in
    let same : c.id ≡ d.id = sym (last_part list c) ∙ ap (λ (k : List ℕ). slice_index k 10) e ∙ last_part list d in
    omega arith

pub choice : (list : List ℤ) → IsChoice list (chosen list)
unfolding chosen
choice list = record {
  keys = rising (map (key list) (filter (matches list) configs));
  ids_are = refl;
  those = moves_rising (map (key list) (filter (matches list) configs));
  rise = rising_is_sorted (map (key list) (filter (matches list) configs));
}

passes_at : (p : Config → Bool) (xs : List Config) (i : ℕ) (c : Config) → list_all p xs ≡ true → slice_get xs i ≡ Some c → p c ≡ true
passes_at p [] i c h g = absurd (cc)
passes_at p (x ∷ xs) zero c h g = let same : x ≡ c = cc in sym (ap p same) ∙ (and_parts (p x) (list_all p xs) h).0
passes_at p (x ∷ xs) (suc i) c h g = passes_at p xs i c (and_parts (p x) (list_all p xs) h).1 g

bits_fit : list_all (λ c. leb (value c EGL_RED_SIZE + value c EGL_GREEN_SIZE + value c EGL_BLUE_SIZE + value c EGL_ALPHA_SIZE) 32) configs ≡ true
unfolding attribute_of
bits_fit = refl

at_most : (b : Bool) (v : ℕ) → cond b 0 v ≤ v
at_most true v = omega arith
at_most false v = omega arith

size_at_most : (list : List ℤ) (c : Config) (name : ℕ) → requested_size list c name ≤ value c name
size_at_most list c name = at_most _ _

pub at_most_32 : (list : List ℤ) (i : ℕ) (c : Config) → slice_get configs i ≡ Some c → requested_bits list c ≤ 32
at_most_32 list i c g =
    let red : requested_size list c EGL_RED_SIZE ≤ value c EGL_RED_SIZE = size_at_most list c EGL_RED_SIZE in
    let green : requested_size list c EGL_GREEN_SIZE ≤ value c EGL_GREEN_SIZE = size_at_most list c EGL_GREEN_SIZE in
    let blue : requested_size list c EGL_BLUE_SIZE ≤ value c EGL_BLUE_SIZE = size_at_most list c EGL_BLUE_SIZE in
    let alpha : requested_size list c EGL_ALPHA_SIZE ≤ value c EGL_ALPHA_SIZE = size_at_most list c EGL_ALPHA_SIZE in
    let all : value c EGL_RED_SIZE + value c EGL_GREEN_SIZE + value c EGL_BLUE_SIZE + value c EGL_ALPHA_SIZE ≤ 32 = leb-true _ _ (passes_at (λ c. leb (value c EGL_RED_SIZE + value c EGL_GREEN_SIZE + value c EGL_BLUE_SIZE + value c EGL_ALPHA_SIZE) 32) configs i c bits_fit g) in
    omega arith
