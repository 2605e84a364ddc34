-- Payloads, byte after byte.
use Rattle.std.proofs.Common.{◌≡◌, ℕ, zero, suc, ◌+◌, ◌-◌, ◌*◌, ◌/◌, ◌%◌, ◌^◌, ◌<◌, ◌≤◌, true, ◌&&◌, List, [], ◌∷◌, ◌++◌, map, length, take, take_all, slice_range, get_or, refl, sym, ap, ap₂, ◌∙◌, arith, append_assoc, append-nil, add-one, add_comm, zero-add, suc-add, zero-mul, suc-mul, mul_comm, mod-lt, le_refl, length-append}
use Rattle.std.proofs.Math.Nat.{div-add-mod}
use Rattle.std.proofs.Math.Seq.{take-append_seam}
use Rattle.std.proofs.lemmas.Bool.{and_parts}
use Rattle.std.proofs.lemmas.Bool.Decides.{nat_tests}
use Rattle.std.proofs.lemmas.Nat.{mul-le}
use Rattle.std.specs.Simd.{first_chunks}
use Rattle.std.specs.List.{list_all}
use Rattle.trace_reader.specs.Hexadecimals.{is_hex_digit, hex_digit}
use Rattle.trace_reader.specs.Payloads.{hex_bytes, repeated}

-- two digits are a byte
pub length-hex_bytes : (ds : List ℕ) → length (hex_bytes ds) ≡ length ds / 2
length-hex_bytes [] = omega arith
length-hex_bytes (a ∷ []) = omega arith
length-hex_bytes (a ∷ b ∷ ds) = let e : length (hex_bytes ds) ≡ length ds / 2 = length-hex_bytes ds in omega (arith, e)

length-repeated : (n : ℕ) (bs : List ℕ) → length (repeated n bs) ≡ n * length bs
length-repeated zero bs = omega arith
length-repeated (suc n) bs = let e : length (repeated n bs) ≡ n * length bs = length-repeated n bs in omega (arith, length-append bs (repeated n bs), e)

pub repeated_size : (n : ℕ) (ds : List ℕ) → n * (length ds / 2) ≡ length (repeated n (hex_bytes ds))
repeated_size n ds = sym (length-repeated n (hex_bytes ds) ∙ ap (λ (m : ℕ). n * m) (length-hex_bytes ds))

-- one more time
one_more : (n : ℕ) (bs : List ℕ) → repeated (suc n) bs ≡ repeated n bs ++ bs
one_more zero bs = append-nil bs
one_more (suc n) bs = ap (λ (xs : List ℕ). bs ++ xs) (one_more n bs) ∙ sym (append_assoc bs (repeated n bs) bs)

pub repeated_more : (n : ℕ) (bs : List ℕ) → repeated (n + 1) bs ≡ repeated n bs ++ bs
repeated_more n bs = ap (λ (m : ℕ). repeated m bs) (add-one n) ∙ one_more n bs

-- nothing, any times
nothing : (n : ℕ) → repeated n [] ≡ []
nothing zero = refl
nothing (suc n) = nothing n

pub repeated_nothing : (n : ℕ) (ds : List ℕ) → length ds ≡ 0 → repeated n (hex_bytes ds) ≡ []
repeated_nothing n [] h = nothing n
repeated_nothing n (d ∷ ds) h = absurd (omega (arith, h))

-- ---- Blocks.
-- so many times, and so many more
repeated_add : (n m : ℕ) (bs : List ℕ) → repeated (n + m) bs ≡ repeated n bs ++ repeated m bs
repeated_add zero m bs = ap (λ (k : ℕ). repeated k bs) (zero-add m)
repeated_add (suc n) m bs =
    ap (λ (k : ℕ). repeated k bs) (suc-add n m)
    ∙ ap (λ (xs : List ℕ). bs ++ xs) (repeated_add n m bs)
    ∙ sym (append_assoc bs (repeated n bs) (repeated m bs))

pub repeated_once : (bs : List ℕ) → repeated 1 bs ≡ bs
repeated_once bs = append-nil bs

repeated_twice : (n : ℕ) (bs : List ℕ) → repeated (n * 2) bs ≡ repeated n bs ++ repeated n bs
repeated_twice n bs = let e : n * 2 ≡ n + n = omega arith in ap (λ (k : ℕ). repeated k bs) e ∙ repeated_add n n bs

pub doubled : (n size : ℕ) (bs xs out : List ℕ) → xs ≡ repeated n bs → size ≡ length xs → out ≡ xs ++ slice_range xs 0 size → out ≡ repeated (n * 2) bs
doubled n size bs xs out e l o =
    o
    ∙ ap (λ (ys : List ℕ). xs ++ ys) (take_all (size - 0) xs (omega (arith, l)))
    ∙ ap (λ (ys : List ℕ). ys ++ ys) e
    ∙ sym (repeated_twice n bs)

-- so many blocks
repeated_times : (n m : ℕ) (bs : List ℕ) → repeated (n * m) bs ≡ repeated n (repeated m bs)
repeated_times zero m bs = ap (λ (k : ℕ). repeated k bs) (zero-mul m)
repeated_times (suc n) m bs =
    ap (λ (k : ℕ). repeated k bs) (suc-mul n m ∙ add_comm (n * m) m)
    ∙ repeated_add m (n * m) bs
    ∙ ap (λ (xs : List ℕ). repeated m bs ++ xs) (repeated_times n m bs)

-- the front of a block
repeated_front : (n m : ℕ) (bs : List ℕ) → n ≤ m → take (n * length bs) (repeated m bs) ≡ repeated n bs
repeated_front n m bs h =
    let e : m ≡ n + (m - n) = omega arith in
    ap (λ (k : ℕ). take k (repeated m bs)) (sym (length-repeated n bs))
    ∙ ap (λ (k : ℕ). take (length (repeated n bs)) (repeated k bs)) e
    ∙ ap (λ (xs : List ℕ). take (length (repeated n bs)) xs) (repeated_add n (m - n) bs)
    ∙ take-append_seam (repeated n bs) (repeated (m - n) bs)

-- whole blocks, and the front of one
in_blocks : (n m : ℕ) (bs : List ℕ) → 0 < m → repeated (n / m) (repeated m bs) ++ take (n % m * length bs) (repeated m bs) ≡ repeated n bs
in_blocks n m bs h =
    let within : n % m < m = mod-lt n h in
    ap (λ (xs : List ℕ). repeated (n / m) (repeated m bs) ++ xs) (repeated_front (n % m) m bs (omega (arith, within)))
    ∙ ap (λ (xs : List ℕ). xs ++ repeated (n % m) bs) (sym (repeated_times (n / m) m bs))
    ∙ sym (repeated_add (n / m * m) (n % m) bs)
    ∙ ap (λ (k : ℕ). repeated k bs) (ap (λ (k : ℕ). k + n % m) (mul_comm (n / m) m) ∙ div-add-mod n m)

pub joined_blocks : (n m : ℕ) (ds block out : List ℕ) → 0 < m → block ≡ repeated m (hex_bytes ds) → out ≡ repeated (n / m) block ++ take (n % m * (length ds / 2)) block → out ≡ repeated n (hex_bytes ds)
joined_blocks n m ds block out h e o =
    o
    ∙ ap (λ (xs : List ℕ). repeated (n / m) xs ++ take (n % m * (length ds / 2)) xs) e
    ∙ ap (λ (k : ℕ). repeated (n / m) (repeated m (hex_bytes ds)) ++ take (n % m * k) (repeated m (hex_bytes ds))) (sym (length-hex_bytes ds))
    ∙ in_blocks n m (hex_bytes ds) h

-- the front is within the block
pub front_within : (n m : ℕ) (ds block : List ℕ) → 0 < m → block ≡ repeated m (hex_bytes ds) → n % m * (length ds / 2) ≤ length block
front_within n m ds block h e =
    let within : n % m < m = mod-lt n h in
    let size : length block ≡ m * (length ds / 2) = ap length e ∙ sym (repeated_size m ds) in
    let front : n % m * (length ds / 2) ≤ m * (length ds / 2) = mul-le (n % m) (length ds / 2) m (length ds / 2) (omega (arith, within)) (le_refl (length ds / 2)) in
    omega (arith, size, front)

-- ---- Pairs of digits.
digit_small : (b : ℕ) → is_hex_digit b ≡ true → hex_digit b < 16
digit_small b h = grind (arith, nat_tests)

-- the byte that a pair of digits is
abbrev pub byte_in : List ℕ → ℕ
byte_in p = (16 * hex_digit (get_or p 0 0) + hex_digit (get_or p 1 0)) % 256

byte_is : (a b : ℕ) → is_hex_digit a ≡ true → is_hex_digit b ≡ true → (16 * hex_digit a + hex_digit b) % 256 ≡ 16 * hex_digit a + hex_digit b
byte_is a b h i = omega (arith, digit_small a h, digit_small b i)

pub pairs_decoded : (n : ℕ) (ds : List ℕ) → length ds ≡ 2 * n → list_all is_hex_digit ds ≡ true → map byte_in (first_chunks 2 n ds) ≡ hex_bytes ds
pairs_decoded zero [] l h = refl
pairs_decoded zero (a ∷ ds) l h = absurd (omega (arith, l))
pairs_decoded (suc n) [] l h = absurd (omega (arith, l))
pairs_decoded (suc n) (a ∷ []) l h = absurd (omega (arith, l))
pairs_decoded (suc n) (a ∷ b ∷ ds) l h =
    let first = and_parts (is_hex_digit a) (is_hex_digit b && list_all is_hex_digit ds) h in
    let second = and_parts (is_hex_digit b) (list_all is_hex_digit ds) first.1 in
    ap₂ ◌∷◌ (byte_is a b first.0 second.0) (pairs_decoded n ds (omega (arith, l)) second.1)

-- the bytes of any payload can be counted
pub product_small : (n m : ℕ) → n ≤ 4294967295 → m < 2 ^ 64 → n * m < 2 ^ 128
product_small n m h l = let p : n * m ≤ 4294967295 * (2 ^ 64) = mul-le n m 4294967295 (2 ^ 64) h (omega (arith, l)) in omega (arith, p)
