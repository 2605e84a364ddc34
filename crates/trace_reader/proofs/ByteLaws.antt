-- Where the first byte of a kind stands.
use Rattle.std.proofs.Common.{◌≡◌, ℕ, ◌<◌, Bool, List, length, sym, ap, ◌∙◌, arith, Option, None, Some, IfSome}
use Rattle.std.proofs.lemmas.List.Sums.{position_or_len_is}
use Rattle.std.proofs.lemmas.Bool.{cond-true, cond-false, lt-ltb, le-ltb, false_from_ne_true}
use Rattle.memchr.specs.Find.{IsFirstByte}
use Rattle.std.specs.Prelude.{position, nat_lt}
use Rattle.std.specs.List.{position_or_len}

-- a search for a byte gives the place of the first
pub place_found : (p : ℕ → Bool) (xs : List ℕ) (r : Option ℕ) → IsFirstByte p xs r → r ≡ position p xs
place_found p xs None none =
    let past : position_or_len p xs ≡ length xs = position_or_len_is p xs (length xs) 0 (omega arith) (λ k l. false_from_ne_true _ (none k (omega arith) l)) (λ l. absurd (omega (arith, l))) in
    sym (cond-false (nat_lt (position_or_len p xs) (length xs)) _ _ (le-ltb (position_or_len p xs) (length xs) (omega (arith, past))))
place_found p xs (Some k) found =
    let place : position_or_len p xs ≡ k = position_or_len_is p xs k 0 (omega (arith, found.0.high)) (λ j l. false_from_ne_true _ (found.0.before j (omega arith) l)) (λ l. found.1) in
    sym (cond-true (nat_lt (position_or_len p xs) (length xs)) _ _ (lt-ltb (position_or_len p xs) (length xs) (omega (arith, place, found.0.high))) ∙ ap (λ (n : ℕ). Some n) place)

pub place_within : (p : ℕ → Bool) (xs : List ℕ) (r : Option ℕ) → IsFirstByte p xs r → IfSome r (λ n. n < length xs)
place_within p xs None none = tt
place_within p xs (Some k) found = found.0.high
