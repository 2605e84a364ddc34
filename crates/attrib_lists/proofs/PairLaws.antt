-- The pairs of a list, one after another.
use Rattle.std.proofs.Common.{◌≡◌, ℕ, zero, suc, ◌+◌, ◌-◌, ◌*◌, ◌/◌, ◌<◌, ◌≤◌, Bool, true, false, List, [], ◌∷◌, ◌++◌, take, drop, length, get_or, reverse, refl, sym, ap, ◌∙◌, arith, cond, ℤ, pos, Option, None, Some, length-drop, append_assoc}
use Rattle.std.proofs.Math.Seq.{drop-cons}
use Rattle.std.proofs.lemmas.List.{take_more, length-take-le, take-append-drop, reverse-append, append-nil}
use Rattle.std.specs.Prelude.{find}
use Rattle.std.specs.Ordering.{int_eq}
use Rattle.std.specs.Prelude.{not}
use Rattle.std.specs.List.{position_from}
use Rattle.std.specs.Option.{option_map}
use Rattle.std.proofs.lemmas.Bool.Decides.{Decides-int_eq}
use Rattle.attrib_lists.specs.declared.allowed.Allowed.{Allowed}
use Rattle.attrib_lists.specs.Ranges.{is_allowed}
use Rattle.attrib_lists.specs.Lists.{pairs, value_of, bad_pair}

-- the pair at a place, and the pairs behind it
pub pairs_here : (xs : List ℤ) (k : ℕ) (d e : ℤ) → 2 * k + 1 < length xs → pairs (drop (2 * k) xs) ≡ (get_or xs (2 * k) d, get_or xs (2 * k + 1) e) ∷ pairs (drop (2 * (k + 1)) xs)
pairs_here xs k d e l =
    let first : 2 * k < length xs = omega arith in
    let second : suc (2 * k) < length xs = omega arith in
    let one : suc (2 * k) ≡ 2 * k + 1 = omega arith in
    let two : suc (suc (2 * k)) ≡ 2 * (k + 1) = omega arith in
    ap pairs (drop-cons xs (2 * k) d first ∙ ap (λ (ys : List ℤ). get_or xs (2 * k) d ∷ ys) (drop-cons xs (suc (2 * k)) e second))
    ∙ ap (λ (i : ℕ). (get_or xs (2 * k) d, get_or xs i e) ∷ pairs (drop (suc (suc (2 * k))) xs)) one
    ∙ ap (λ (i : ℕ). (get_or xs (2 * k) d, get_or xs (2 * k + 1) e) ∷ pairs (drop i xs)) two

pub pairs_end : (xs : List ℤ) → length xs ≤ 1 → pairs xs ≡ []
pairs_end [] l = refl
pairs_end (a ∷ []) l = refl
pairs_end (a ∷ v ∷ rest) l = absurd (omega arith)

-- the pairs of two lists, of which the first has a value for each attribute
pub pairs_append : (k : ℕ) (xs ys : List ℤ) → length xs ≡ 2 * k → pairs (xs ++ ys) ≡ pairs xs ++ pairs ys
pairs_append zero [] ys e = refl
pairs_append zero (a ∷ xs) ys e = absurd (omega arith)
pairs_append (suc k) [] ys e = absurd (omega arith)
pairs_append (suc k) (a ∷ []) ys e = absurd (omega arith)
pairs_append (suc k) (a ∷ v ∷ rest) ys e = ap (λ (ps : List (ℤ × ℤ)). (a, v) ∷ ps) (pairs_append k rest ys (omega arith))

-- the pairs of the first places, and one pair more
pub pairs_front : (k : ℕ) (xs : List ℤ) (d e : ℤ) → 2 * k + 1 < length xs → pairs (take (2 * (k + 1)) xs) ≡ pairs (take (2 * k) xs) ++ (get_or xs (2 * k) d, get_or xs (2 * k + 1) e) ∷ []
pairs_front k xs d e l =
    let first : 2 * k < length xs = omega arith in
    let within : 2 * k ≤ length xs = omega arith in
    let two : 2 * (k + 1) ≡ (2 * k + 1) + 1 = omega arith in
    ap (λ (i : ℕ). pairs (take i xs)) two
    ∙ ap pairs (take_more xs (2 * k + 1) e l ∙ ap (λ (ys : List ℤ). ys ++ get_or xs (2 * k + 1) e ∷ []) (take_more xs (2 * k) d first) ∙ append_assoc (take (2 * k) xs) (get_or xs (2 * k) d ∷ []) (get_or xs (2 * k + 1) e ∷ []))
    ∙ pairs_append k (take (2 * k) xs) (get_or xs (2 * k) d ∷ get_or xs (2 * k + 1) e ∷ []) (length-take-le (2 * k) xs within)

pub pairs_all : (xs : List ℤ) → pairs (take (2 * (length xs / 2)) xs) ≡ pairs xs
pairs_all xs =
    let within : 2 * (length xs / 2) ≤ length xs = omega arith in
    let rest : length (drop (2 * (length xs / 2)) xs) ≤ 1 = omega (arith, length-drop {A = ℤ}) in
    sym (ap pairs (sym (take-append-drop (2 * (length xs / 2)) xs))
    ∙ pairs_append (length xs / 2) (take (2 * (length xs / 2)) xs) (drop (2 * (length xs / 2)) xs) (length-take-le (2 * (length xs / 2)) xs within)
    ∙ ap (λ (ps : List (ℤ × ℤ)). pairs (take (2 * (length xs / 2)) xs) ++ ps) (pairs_end (drop (2 * (length xs / 2)) xs) rest)
    ∙ append-nil (pairs (take (2 * (length xs / 2)) xs)))

-- the first pair from behind
pub found_last : (attribute a v : ℤ) (ps : List (ℤ × ℤ)) → find (λ p. int_eq p.0 attribute) (reverse (ps ++ (a, v) ∷ [])) ≡ cond (int_eq a attribute) (Some (a, v)) (find (λ p. int_eq p.0 attribute) (reverse ps))
found_last attribute a v ps = ap (find (λ p. int_eq p.0 attribute)) (reverse-append ps ((a, v) ∷ []))

-- the first pair that is not allowed, from the pair k on
unfoldable pub bad_from : Allowed → ℕ → List (ℤ × ℤ) → Option ℕ
bad_from allowed k ps = position_from (λ p. not (is_allowed allowed p.0 p.1)) k ps

-- the value of the last pair with an attribute
unfoldable pub last_of : ℤ → List (ℤ × ℤ) → Option ℤ
last_of a ps = option_map (λ p. p.1) (find (λ p. int_eq p.0 a) (reverse ps))

pub pushed : (b : Bool) (p : ℤ × ℤ) (o : Option (ℤ × ℤ)) → option_map (λ p. p.1) (cond b (Some p) o) ≡ cond b (Some p.1) (option_map (λ p. p.1) o)
pushed true p o = refl
pushed false p o = refl

pub differs : (x a : ℤ) (b : Bool) → int_eq x a ≡ b → (x ≡ a → ⊥) → b ≡ false
differs x a false e h = refl
differs x a true e h = absurd (h ((Decides-int_eq x a).0 e))

-- the walk from the first pair on
bad_here : (allowed : Allowed) (xs : List ℤ) (k : ℕ) (a v : ℤ) → 2 * k + 1 < length xs → get_or xs (2 * k) (pos 0) ≡ a → get_or xs (2 * k + 1) (pos 0) ≡ v
    → bad_from allowed k (pairs (drop (2 * k) xs)) ≡ cond (not (is_allowed allowed a v)) (Some k) (bad_from allowed (k + 1) (pairs (drop (2 * (k + 1)) xs)))
unfolding bad_from
bad_here allowed xs k a v l p q =
    ap (bad_from allowed k) (pairs_here xs k (pos 0) (pos 0) l)
    ∙ ap (λ (a : ℤ). cond (not (is_allowed allowed a (get_or xs (2 * k + 1) (pos 0)))) (Some k) (bad_from allowed (k + 1) (pairs (drop (2 * (k + 1)) xs)))) p
    ∙ ap (λ (v : ℤ). cond (not (is_allowed allowed a v)) (Some k) (bad_from allowed (k + 1) (pairs (drop (2 * (k + 1)) xs)))) q

pub bad_found : (allowed : Allowed) (xs : List ℤ) (k : ℕ) → 2 * k + 1 < length xs → is_allowed allowed (get_or xs (2 * k) (pos 0)) (get_or xs (2 * k + 1) (pos 0)) ≡ false
    → Some k ≡ bad_from allowed k (pairs (drop (2 * k) xs))
bad_found allowed xs k l e = sym (bad_here allowed xs k _ _ l refl refl ∙ ap (λ (b : Bool). cond (not b) (Some k) (bad_from allowed (k + 1) (pairs (drop (2 * (k + 1)) xs)))) e)

pub bad_next : (allowed : Allowed) (xs : List ℤ) (k : ℕ) → 2 * k + 1 < length xs → is_allowed allowed (get_or xs (2 * k) (pos 0)) (get_or xs (2 * k + 1) (pos 0)) ≡ true
    → bad_from allowed (k + 1) (pairs (drop (2 * (k + 1)) xs)) ≡ bad_from allowed k (pairs (drop (2 * k) xs))
bad_next allowed xs k l e = sym (bad_here allowed xs k _ _ l refl refl ∙ ap (λ (b : Bool). cond (not b) (Some k) (bad_from allowed (k + 1) (pairs (drop (2 * (k + 1)) xs)))) e)

pub bad_none : (allowed : Allowed) (xs : List ℤ) (k : ℕ) → length xs / 2 ≤ k → None ≡ bad_from allowed k (pairs (drop (2 * k) xs))
unfolding bad_from
bad_none allowed xs k l =
    let rest : length (drop (2 * k) xs) ≤ 1 = omega (arith, length-drop {A = ℤ}) in
    sym (ap (bad_from allowed k) (pairs_end (drop (2 * k) xs) rest))

pub bad_start : (allowed : Allowed) (xs : List ℤ) → bad_from allowed 0 (pairs xs) ≡ bad_pair allowed xs
unfolding bad_from
bad_start allowed xs = refl

-- the walk from the last pair down
last_here : (a : ℤ) (xs : List ℤ) (left k : ℕ) → left ≡ k + 1 → 2 * left ≤ length xs
    → last_of a (pairs (take (2 * left) xs)) ≡ cond (int_eq (get_or xs (2 * k) (pos 0)) a) (Some (get_or xs (2 * k + 1) (pos 0))) (last_of a (pairs (take (2 * k) xs)))
unfolding last_of
last_here a xs left k e l =
    let within : 2 * k + 1 < length xs = omega arith in
    ap (λ (n : ℕ). last_of a (pairs (take (2 * n) xs))) e
    ∙ ap (last_of a) (pairs_front k xs (pos 0) (pos 0) within)
    ∙ ap (option_map (λ p. p.1)) (found_last a (get_or xs (2 * k) (pos 0)) (get_or xs (2 * k + 1) (pos 0)) (pairs (take (2 * k) xs)))
    ∙ pushed (int_eq (get_or xs (2 * k) (pos 0)) a) _ _

pub last_found : (a : ℤ) (xs : List ℤ) (left : ℕ) → 0 < left → 2 * left ≤ length xs → get_or xs (2 * (left - 1)) (pos 0) ≡ a
    → Some (get_or xs (2 * (left - 1) + 1) (pos 0)) ≡ last_of a (pairs (take (2 * left) xs))
last_found a xs left p l e = sym (last_here a xs left (left - 1) (omega arith) l ∙ ap (λ (b : Bool). cond b (Some (get_or xs (2 * (left - 1) + 1) (pos 0))) (last_of a (pairs (take (2 * (left - 1)) xs)))) ((Decides-int_eq _ _).1 e))

pub last_next : (a : ℤ) (xs : List ℤ) (left : ℕ) → 0 < left → 2 * left ≤ length xs → (get_or xs (2 * (left - 1)) (pos 0) ≡ a → ⊥)
    → last_of a (pairs (take (2 * (left - 1)) xs)) ≡ last_of a (pairs (take (2 * left) xs))
last_next a xs left p l e = sym (last_here a xs left (left - 1) (omega arith) l ∙ ap (λ (b : Bool). cond b (Some (get_or xs (2 * (left - 1) + 1) (pos 0))) (last_of a (pairs (take (2 * (left - 1)) xs)))) (differs (get_or xs (2 * (left - 1)) (pos 0)) a (int_eq (get_or xs (2 * (left - 1)) (pos 0)) a) refl e))

pub last_start : (a : ℤ) (xs : List ℤ) → last_of a (pairs (take (2 * (length xs / 2)) xs)) ≡ value_of xs a
unfolding last_of value_of
last_start a xs = ap (last_of a) (pairs_all xs)

pub last_none : (a : ℤ) (xs : List ℤ) (left : ℕ) → left ≤ 0 → None ≡ last_of a (pairs (take (2 * left) xs))
unfolding last_of
last_none a xs zero l = refl
last_none a xs (suc n) l = absurd (omega arith)
