-- Components of few bits: each of their numbers is tried.
use Rattle.std.proofs.Common.{◌≡◌, ◌<◌, ◌≤◌, ◌*◌, ◌^◌, ◌∙◌, ℕ, Bool, true, length, get_or, sym, ap, refl, arith, eqb-true}
use Rattle.std.specs.Prelude.{◌==◌, Contains}
use Rattle.std.specs.List.{list_all, range_with_len}
use Rattle.std.proofs.Math.Nat.{mul-le-mul}
use Rattle.std.proofs.Math.Pow.{pow_mono}
use Rattle.std.proofs.lemmas.List.Elements.{All-contains}
use Rattle.std.proofs.lemmas.List.FromFn.{get_or-range_with_len, length-range_with_len}
use Rattle.std.proofs.lemmas.List.Sums.{AllPass-from_list_all}
use Rattle.pixel_formats.specs.Components.{widen}
use Rattle.pixel_formats.specs.Sizes.{kept_sizes}

-- what was tried at each number below n
pub tried : (n : ℕ) (p : ℕ → Bool) → list_all p (range_with_len 0 n) ≡ true → (k : ℕ) → k < n → p k ≡ true
tried n p h k l =
    let within : k < length (range_with_len 0 n) = rw length-range_with_len l in
    let at : get_or (range_with_len 0 n) k 0 ≡ k = get_or-range_with_len 0 n k 0 l ∙ (omega arith) in
    ap p (sym at) ∙ AllPass-from_list_all p (range_with_len 0 n) h k 0 within

-- a component and a place in four bytes are a number of 32 bits
pub part-below : (c bits low : ℕ) → c < 2 ^ bits → bits ≤ 8 → low ≤ 24 → c * 2 ^ low < 2 ^ 32
part-below c bits low h k l =
    let most : 2 ^ bits ≤ 256 = pow_mono {i = bits} {j = 8} k in
    let high : 2 ^ low ≤ 16777216 = pow_mono {i = low} {j = 24} l in
    let c_small : c ≤ 255 = omega arith in
    omega (arith, mul-le-mul c_small high)

-- through 8 bits, or directly
abbrev pub agrees : ℕ → ℕ → ℕ → Bool
agrees from to c = widen (widen c from 8) 8 to == widen c from to

all_agree : list_all (λ from. list_all (λ to. list_all (agrees from to) (range_with_len 0 (2 ^ from))) kept_sizes) kept_sizes ≡ true
all_agree = refl

pub through-bytes : (from to c : ℕ) → Contains kept_sizes from → Contains kept_sizes to → c < 2 ^ from → widen (widen c from 8) 8 to ≡ widen c from to
through-bytes from to c f t h =
    let a = AllPass-from_list_all (λ (x : ℕ). list_all (λ y. list_all (agrees x y) (range_with_len 0 (2 ^ x))) kept_sizes) kept_sizes all_agree in
    let b = All-contains (λ (x : ℕ). list_all (λ y. list_all (agrees x y) (range_with_len 0 (2 ^ x))) kept_sizes ≡ true) kept_sizes from a f in
    let d = AllPass-from_list_all (λ (y : ℕ). list_all (agrees from y) (range_with_len 0 (2 ^ from))) kept_sizes b in
    let e = All-contains (λ (y : ℕ). list_all (agrees from y) (range_with_len 0 (2 ^ from)) ≡ true) kept_sizes to d t in
    eqb-true _ _ (tried (2 ^ from) (agrees from to) e c h)
