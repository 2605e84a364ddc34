-- A word stands in its list where it stands in the row of its length.
use Rattle.std.proofs.Common.{◌≡◌, ℕ, zero, suc, ◌+◌, ◌<◌, ◌≤◌, Bool, true, false, List, [], ◌∷◌, ◌++◌, length, refl, sym, ap, ◌∙◌, arith, cond, eqb, ltb, Option, None, Some, append_assoc, length-append, get_or}
use Rattle.std.specs.List.{position_from, list_all, slice_get}
use Rattle.std.specs.Option.{option_map_or}
use Rattle.std.specs.Str.{bytes_eq}
use Rattle.std.proofs.lemmas.Slice.Eq.{bytes_eq-Decides}
use Rattle.std.proofs.lemmas.Bool.Decides.{Decides-eqb}
use Rattle.std.proofs.lemmas.Bool.{false≢true, and_parts}
use Rattle.std.proofs.lemmas.Option.{slice_get_within, get_or_from_slice_get}
use Rattle.std.proofs.lemmas.List.FromFn.{get_or-map-range_with_len}
use borrow.Author.Tests.{ltb-true}
use Rattle.egl_names.specs.Names.{place_of}
use Rattle.egl_names.specs.Rows.{places_from, AreByLength, first_at}

-- the element behind a front
get_seam : (front : List (List ℕ)) (x : List ℕ) (xs : List (List ℕ)) → slice_get (front ++ x ∷ xs) (length front) ≡ Some x
get_seam [] x xs = refl
get_seam (y ∷ ys) x xs = get_seam ys x xs

-- texts of two lengths are two texts
other_length : (x w : List ℕ) (b : Bool) → bytes_eq x w ≡ b → eqb (length x) (length w) ≡ false → b ≡ false
other_length x w false e l = refl
other_length x w true e l = absurd (false≢true (sym l ∙ (Decides-eqb (length x) (length w)).1 (ap length ((bytes_eq-Decides x w).0 e))))

-- a word of another length is passed over
row_other : (w x : List ℕ) (k : ℕ) (xs all : List (List ℕ)) (b : Bool) → bytes_eq x w ≡ b → eqb (length x) (length w) ≡ false
    → first_at all (places_from (k + 1) (length w) xs) w ≡ position_from (λ x. bytes_eq x w) (k + 1) xs
    → first_at all (places_from (k + 1) (length w) xs) w ≡ cond b (Some k) (position_from (λ x. bytes_eq x w) (k + 1) xs)
row_other w x k xs all false e l h = h
row_other w x k xs all true e l h = absurd (false≢true (sym (other_length x w true e l)))

row_same : (w x : List ℕ) (k : ℕ) (ks : List ℕ) (all : List (List ℕ)) (o r : Option ℕ) → slice_get all k ≡ Some x
    → first_at all ks w ≡ r
    → first_at all (k ∷ ks) w ≡ cond (bytes_eq x w) (Some k) r
row_same w x k ks all o r g h = ap (λ (y : Option (List ℕ)). cond (option_map_or (λ x. bytes_eq x w) y false) (Some k) (first_at all ks w)) g ∙ ap (λ (y : Option ℕ). cond (bytes_eq x w) (Some k) y) h

row_step : (w x : List ℕ) (k : ℕ) (xs all : List (List ℕ)) (b : Bool) → eqb (length x) (length w) ≡ b → slice_get all k ≡ Some x
    → first_at all (places_from (k + 1) (length w) xs) w ≡ position_from (λ x. bytes_eq x w) (k + 1) xs
    → first_at all (cond b (k ∷ places_from (k + 1) (length w) xs) (places_from (k + 1) (length w) xs)) w ≡ cond (bytes_eq x w) (Some k) (position_from (λ x. bytes_eq x w) (k + 1) xs)
row_step w x k xs all true l g h = row_same w x k (places_from (k + 1) (length w) xs) all None (position_from (λ x. bytes_eq x w) (k + 1) xs) g h
row_step w x k xs all false l g h = row_other w x k xs all (bytes_eq x w) refl l h

-- over the words from a place on, the row of the word's length gives what the walk gives
first_at_row : (w : List ℕ) (rest front all : List (List ℕ)) (k : ℕ) → k ≡ length front → all ≡ front ++ rest → first_at all (places_from k (length w) rest) w ≡ position_from (λ x. bytes_eq x w) k rest
first_at_row w [] front all k e a = refl
first_at_row w (x ∷ xs) front all k e a =
    row_step w x k xs all (eqb (length x) (length w)) refl
    (rw (a, e) (get_seam front x xs))
    (first_at_row w xs (front ++ x ∷ []) all (k + 1) (rw (length-append, e) refl) (a ∙ sym (append_assoc front (x ∷ []) xs)))

-- the row of a length that has one
row_at : (words rows : List (List ℕ)) (n : ℕ) (row : List ℕ) → AreByLength words rows → slice_get rows n ≡ Some row → row ≡ places_from 0 n words
row_at words rows n row h g =
    let l : n < length rows = slice_get_within rows n row g in
    sym (get_or_from_slice_get rows n row [] g) ∙ ap (λ (x : List (List ℕ)). get_or x n []) h.places ∙ get_or-map-range_with_len (λ n. places_from 0 n words) 0 (length rows) n n [] l (omega arith)

pub found_in_row : (words rows : List (List ℕ)) (w row : List ℕ) → AreByLength words rows → slice_get rows (length w) ≡ Some row → first_at words row w ≡ place_of words w
found_in_row words rows w row h g = ap (λ (x : List ℕ). first_at words x w) (row_at words rows (length w) row h g) ∙ first_at_row w words [] words 0 refl refl

-- a shorter word is another
shorter : (x w : List ℕ) (n : ℕ) (b : Bool) → bytes_eq x w ≡ b → n ≤ length w → length x < n → b ≡ false
shorter x w n false e l s = refl
shorter x w n true e l s = let same : length x ≡ length w = ap length ((bytes_eq-Decides x w).0 e) in absurd (omega arith)

-- no word is as long as a text without a row
none_longer : (w : List ℕ) (n k : ℕ) (words : List (List ℕ)) → n ≤ length w → list_all (λ x. ltb (length x) n) words ≡ true → position_from (λ x. bytes_eq x w) k words ≡ None
none_longer w n k [] l h = refl
none_longer w n k (x ∷ xs) l h =
    let parts : (ltb (length x) n ≡ true) × (list_all (λ x. ltb (length x) n) xs ≡ true) = and_parts (ltb (length x) n) (list_all (λ x. ltb (length x) n) xs) h in
    ap (λ (b : Bool). cond b (Some k) (position_from (λ x. bytes_eq x w) (k + 1) xs)) (shorter x w n (bytes_eq x w) refl l (ltb-true (length x) n parts.0))
    ∙ none_longer w n (k + 1) xs l parts.1

row_past : (rows : List (List ℕ)) (n : ℕ) → slice_get rows n ≡ None → length rows ≤ n
row_past [] n g = omega arith
row_past (r ∷ rs) zero g = cc
row_past (r ∷ rs) (suc n) g = let rest : length rs ≤ n = row_past rs n g in omega arith

pub without_row : (words rows : List (List ℕ)) (w : List ℕ) → AreByLength words rows → slice_get rows (length w) ≡ None → None ≡ place_of words w
without_row words rows w h g = sym (none_longer w (length rows) 0 words (row_past rows (length w) g) h.all)
