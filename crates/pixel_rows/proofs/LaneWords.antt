-- Cells of two bytes as lanes of 16 bits.
use Rattle.std.proofs.Common.{◌≡◌, ℕ, ◌+◌, ◌-◌, ◌*◌, ◌/◌, ◌%◌, ◌^◌, ◌<◌, ◌≤◌, zero, suc, List, [], ◌∷◌, ◌++◌, length, get_or, set, map, take, drop, replicate, refl, sym, ap, subst, ◌∙◌, arith}
use Rattle.std.specs.Prelude.{slice_range}
use Rattle.std.specs.List.{flat_map}
use Rattle.std.specs.Simd.{first_chunks}
use Rattle.std.specs.Simd.Lanes.{zip2, number_l, digits_l, pick_l}
use Rattle.std.proofs.lemmas.List.{get_or-map, get_or-take, get_or-drop, length-take, length-drop}
use Rattle.pixel_formats.specs.Components.{widen}
use Rattle.pixel_formats.specs.Formats.{bytes_of}
use Rattle.pixel_formats.specs.Pixels.{pack, unpack}
use Rattle.pixel_formats.specs.declared.formats.Format.{Format}
use Rattle.pixel_formats.specs.declared.formats.Format.TheVariants.{Rgb565, Rgba4444, Rgba5551, Rgba8888}
use Rattle.pixel_formats.specs.declared.pixels.Pixel.{Pixel}
use Rattle.pixel_rows.proofs.LaneCells.{four_bytes, four_is, four_packed}
use Rattle.pixel_rows.proofs.Rewriting.{covered_range, range_joined, range_more, rewritten_by}
use Rattle.pixel_rows.proofs.Stored.{IsBytes-unpack}
use Rattle.pixel_rows.specs.Blocks.{Rewritten, in_range}
use Rattle.pixel_rows.specs.Cells.{AreCells, IsCell, converted}
use Rattle.pixel_rows.specs.Words.{beside, blue_alpha, blue_alpha_4444, blue_alpha_5551, five, nibble, one_bit, red_green, red_green_4444, red_green_5551, six, word}

-- ---- the lanes of one word

five_is : (c : ℕ) → c < 32 → five c ≡ widen c 5 8
five_is c h = omega arith

six_is : (c : ℕ) → c < 64 → six c ≡ widen c 6 8
six_is c h = omega arith

five_small : (c : ℕ) → c < 32 → five c < 256
five_small c h = omega arith

six_small : (c : ℕ) → c < 64 → six c < 256
six_small c h = omega arith

low_byte : (a b : ℕ) → a < 256 → b < 256 → beside a b % 256 ≡ a
low_byte a b h k = omega arith

high_byte : (a b : ℕ) → a < 256 → b < 256 → beside a b / 256 ≡ b
high_byte a b h k = omega arith

last_low : (a : ℕ) → a < 256 → (a + 65280) % 2 ^ 16 % 256 ≡ a
last_low a h = omega arith

last_high : (a : ℕ) → a < 256 → (a + 65280) % 2 ^ 16 / 256 ≡ 255
last_high a h = omega arith

green_is : (n : ℕ) → n * 2 ^ 5 % 2 ^ 16 / 2 ^ 10 ≡ n / 2 ^ 5 % 2 ^ 6
green_is n = omega arith

blue_is : (n : ℕ) → n * 2 ^ 11 % 2 ^ 16 / 2 ^ 11 ≡ n % 2 ^ 5
blue_is n = omega arith

red_byte : (n : ℕ) → n < 65536 → red_green n % 256 ≡ widen (n / 2 ^ 11 % 2 ^ 5) 5 8
red_byte n h =
    let small : n / 2 ^ 11 < 32 = omega arith in
    let green : n * 2 ^ 5 % 2 ^ 16 / 2 ^ 10 < 64 = omega arith in
    let same : n / 2 ^ 11 ≡ n / 2 ^ 11 % 2 ^ 5 = omega arith in
    low_byte (five (n / 2 ^ 11)) (six (n * 2 ^ 5 % 2 ^ 16 / 2 ^ 10)) (five_small (n / 2 ^ 11) small) (six_small (n * 2 ^ 5 % 2 ^ 16 / 2 ^ 10) green)
    ∙ five_is (n / 2 ^ 11) small ∙ ap (λ c. widen c 5 8) same

green_byte : (n : ℕ) → n < 65536 → red_green n / 256 ≡ widen (n / 2 ^ 5 % 2 ^ 6) 6 8
green_byte n h =
    let small : n / 2 ^ 11 < 32 = omega arith in
    let green : n * 2 ^ 5 % 2 ^ 16 / 2 ^ 10 < 64 = omega arith in
    high_byte (five (n / 2 ^ 11)) (six (n * 2 ^ 5 % 2 ^ 16 / 2 ^ 10)) (five_small (n / 2 ^ 11) small) (six_small (n * 2 ^ 5 % 2 ^ 16 / 2 ^ 10) green)
    ∙ six_is (n * 2 ^ 5 % 2 ^ 16 / 2 ^ 10) green ∙ ap (λ c. widen c 6 8) (green_is n)

blue_byte : (n : ℕ) → blue_alpha n % 256 ≡ widen (n % 2 ^ 5) 5 8
blue_byte n =
    let small : n * 2 ^ 11 % 2 ^ 16 / 2 ^ 11 < 32 = omega arith in
    last_low (five (n * 2 ^ 11 % 2 ^ 16 / 2 ^ 11)) (five_small (n * 2 ^ 11 % 2 ^ 16 / 2 ^ 11) small)
    ∙ five_is (n * 2 ^ 11 % 2 ^ 16 / 2 ^ 11) small ∙ ap (λ c. widen c 5 8) (blue_is n)

alpha_byte : (n : ℕ) → blue_alpha n / 256 ≡ 255
alpha_byte n =
    let small : n * 2 ^ 11 % 2 ^ 16 / 2 ^ 11 < 32 = omega arith in
    last_high (five (n * 2 ^ 11 % 2 ^ 16 / 2 ^ 11)) (five_small (n * 2 ^ 11 % 2 ^ 16 / 2 ^ 11) small)

abbrev bytes_beside : ℕ → ℕ → List ℕ
bytes_beside a b = a % 256 ∷ a / 256 ∷ b % 256 ∷ b / 256 ∷ []

red_read : (x y : ℕ) → x < 256 → y < 256 → (unpack Rgb565 (x ∷ y ∷ [])).r ≡ widen ((x + 256 * y) / 2 ^ 11 % 2 ^ 5) 5 8
unfolding unpack
red_read x y h k = ap (λ c. widen c 5 8) (omega arith)

green_read : (x y : ℕ) → x < 256 → y < 256 → (unpack Rgb565 (x ∷ y ∷ [])).g ≡ widen ((x + 256 * y) / 2 ^ 5 % 2 ^ 6) 6 8
unfolding unpack
green_read x y h k = ap (λ c. widen c 6 8) (omega arith)

blue_read : (x y : ℕ) → x < 256 → y < 256 → (unpack Rgb565 (x ∷ y ∷ [])).b ≡ widen ((x + 256 * y) % 2 ^ 5) 5 8
unfolding unpack
blue_read x y h k = ap (λ c. widen c 5 8) (omega arith)

alpha_read : (x y : ℕ) → (unpack Rgb565 (x ∷ y ∷ [])).a ≡ 255
unfolding unpack
alpha_read x y = refl

two_widened : (x y : ℕ) → x < 256 → y < 256 → bytes_beside (red_green (x + 256 * y)) (blue_alpha (x + 256 * y)) ≡ converted 4 Rgba8888 Rgb565 (x ∷ y ∷ [])
unfolding converted
two_widened x y h k =
    let n : ℕ = x + 256 * y in
    let small : x + 256 * y < 65536 = omega arith in
    four_bytes _ _ _ _ _ _ _ _ (red_byte (x + 256 * y) small ∙ sym (red_read x y h k)) (green_byte (x + 256 * y) small ∙ sym (green_read x y h k))
    (blue_byte (x + 256 * y) ∙ sym (blue_read x y h k)) (alpha_byte (x + 256 * y) ∙ sym (alpha_read x y))
    ∙ ap (take 4) (sym (four_packed (unpack Rgb565 (x ∷ y ∷ [])) (IsBytes-unpack Rgb565 (x ∷ y ∷ []))))

list_2 : (c : List ℕ) → length c ≡ 2 → c ≡ get_or c 0 0 ∷ get_or c 1 0 ∷ []
list_2 [] h = absurd (omega arith)
list_2 (x ∷ []) h = absurd (omega arith)
list_2 (x ∷ y ∷ []) h = refl
list_2 (x ∷ y ∷ z ∷ c) h = absurd (omega arith)

cell_widened : (c : List ℕ) → IsCell 2 c → bytes_beside (red_green (word c)) (blue_alpha (word c)) ≡ converted 4 Rgba8888 Rgb565 c
cell_widened c h = two_widened (get_or c 0 0) (get_or c 1 0) (h.bytes 0) (h.bytes 1) ∙ ap (converted 4 Rgba8888 Rgb565) (sym (list_2 c h.long))

red_green_below : (n : ℕ) → red_green n < 65536
red_green_below n = omega arith

blue_alpha_below : (n : ℕ) → blue_alpha n < 65536
blue_alpha_below n = omega arith

beside_below : (a b : ℕ) → beside a b < 65536
beside_below a b = omega arith

-- ---- the lanes of a word of Rgba4444

nibble_is : (c : ℕ) → c < 16 → nibble c ≡ widen c 4 8
nibble_is c h = omega arith

nibble_small : (c : ℕ) → c < 16 → nibble c < 256
nibble_small c h = omega arith

low_nibbles : (a b p : ℕ) → a < 16 → b < 16 → a ≡ p → beside (nibble a) (nibble b) % 256 ≡ widen p 4 8
low_nibbles a b p h k is = low_byte (nibble a) (nibble b) (nibble_small a h) (nibble_small b k) ∙ nibble_is a h ∙ ap (λ c. widen c 4 8) is

high_nibbles : (a b q : ℕ) → a < 16 → b < 16 → b ≡ q → beside (nibble a) (nibble b) / 256 ≡ widen q 4 8
high_nibbles a b q h k is = high_byte (nibble a) (nibble b) (nibble_small a h) (nibble_small b k) ∙ nibble_is b k ∙ ap (λ c. widen c 4 8) is

read_4444 : (x y : ℕ) → x < 256 → y < 256 → (unpack Rgba4444 (x ∷ y ∷ [])).r ≡ widen ((x + 256 * y) / 2 ^ 12 % 2 ^ 4) 4 8
unfolding unpack
read_4444 x y h k = ap (λ c. widen c 4 8) (omega arith)

green_4444 : (x y : ℕ) → x < 256 → y < 256 → (unpack Rgba4444 (x ∷ y ∷ [])).g ≡ widen ((x + 256 * y) / 2 ^ 8 % 2 ^ 4) 4 8
unfolding unpack
green_4444 x y h k = ap (λ c. widen c 4 8) (omega arith)

blue_4444 : (x y : ℕ) → x < 256 → y < 256 → (unpack Rgba4444 (x ∷ y ∷ [])).b ≡ widen ((x + 256 * y) / 2 ^ 4 % 2 ^ 4) 4 8
unfolding unpack
blue_4444 x y h k = ap (λ c. widen c 4 8) (omega arith)

alpha_4444 : (x y : ℕ) → x < 256 → y < 256 → (unpack Rgba4444 (x ∷ y ∷ [])).a ≡ widen ((x + 256 * y) % 2 ^ 4) 4 8
unfolding unpack
alpha_4444 x y h k = ap (λ c. widen c 4 8) (omega arith)

two_4444 : (x y : ℕ) → x < 256 → y < 256 → bytes_beside (red_green_4444 (x + 256 * y)) (blue_alpha_4444 (x + 256 * y)) ≡ converted 4 Rgba8888 Rgba4444 (x ∷ y ∷ [])
unfolding converted
two_4444 x y h k =
    let n : ℕ = x + 256 * y in
    let red : (x + 256 * y) / 2 ^ 12 < 16 = omega arith in
    let green : (x + 256 * y) * 2 ^ 4 % 2 ^ 16 / 2 ^ 12 < 16 = omega arith in
    let blue : (x + 256 * y) * 2 ^ 8 % 2 ^ 16 / 2 ^ 12 < 16 = omega arith in
    let alpha : (x + 256 * y) * 2 ^ 12 % 2 ^ 16 / 2 ^ 12 < 16 = omega arith in
    four_bytes _ _ _ _ _ _ _ _
    (low_nibbles ((x + 256 * y) / 2 ^ 12) ((x + 256 * y) * 2 ^ 4 % 2 ^ 16 / 2 ^ 12) ((x + 256 * y) / 2 ^ 12 % 2 ^ 4) red green (omega arith) ∙ sym (read_4444 x y h k))
    (high_nibbles ((x + 256 * y) / 2 ^ 12) ((x + 256 * y) * 2 ^ 4 % 2 ^ 16 / 2 ^ 12) ((x + 256 * y) / 2 ^ 8 % 2 ^ 4) red green (omega arith) ∙ sym (green_4444 x y h k))
    (low_nibbles ((x + 256 * y) * 2 ^ 8 % 2 ^ 16 / 2 ^ 12) ((x + 256 * y) * 2 ^ 12 % 2 ^ 16 / 2 ^ 12) ((x + 256 * y) / 2 ^ 4 % 2 ^ 4) blue alpha (omega arith) ∙ sym (blue_4444 x y h k))
    (high_nibbles ((x + 256 * y) * 2 ^ 8 % 2 ^ 16 / 2 ^ 12) ((x + 256 * y) * 2 ^ 12 % 2 ^ 16 / 2 ^ 12) ((x + 256 * y) % 2 ^ 4) blue alpha (omega arith) ∙ sym (alpha_4444 x y h k))
    ∙ ap (take 4) (sym (four_packed (unpack Rgba4444 (x ∷ y ∷ [])) (IsBytes-unpack Rgba4444 (x ∷ y ∷ []))))

cell_4444 : (c : List ℕ) → IsCell 2 c → bytes_beside (red_green_4444 (word c)) (blue_alpha_4444 (word c)) ≡ converted 4 Rgba8888 Rgba4444 c
cell_4444 c h = two_4444 (get_or c 0 0) (get_or c 1 0) (h.bytes 0) (h.bytes 1) ∙ ap (converted 4 Rgba8888 Rgba4444) (sym (list_2 c h.long))

-- ---- the lanes of a word of Rgba5551

bit_is : (c : ℕ) → c < 2 → one_bit c ≡ widen c 1 8
bit_is c h = omega arith

bit_small : (c : ℕ) → c < 2 → one_bit c < 256
bit_small c h = omega arith

low_fives : (a b p : ℕ) → a < 32 → b < 256 → a ≡ p → beside (five a) b % 256 ≡ widen p 5 8
low_fives a b p h k is = low_byte (five a) b (five_small a h) k ∙ five_is a h ∙ ap (λ c. widen c 5 8) is

red_5551 : (x y : ℕ) → x < 256 → y < 256 → (unpack Rgba5551 (x ∷ y ∷ [])).r ≡ widen ((x + 256 * y) / 2 ^ 11 % 2 ^ 5) 5 8
unfolding unpack
red_5551 x y h k = ap (λ c. widen c 5 8) (omega arith)

green_5551 : (x y : ℕ) → x < 256 → y < 256 → (unpack Rgba5551 (x ∷ y ∷ [])).g ≡ widen ((x + 256 * y) / 2 ^ 6 % 2 ^ 5) 5 8
unfolding unpack
green_5551 x y h k = ap (λ c. widen c 5 8) (omega arith)

blue_5551 : (x y : ℕ) → x < 256 → y < 256 → (unpack Rgba5551 (x ∷ y ∷ [])).b ≡ widen ((x + 256 * y) / 2 ^ 1 % 2 ^ 5) 5 8
unfolding unpack
blue_5551 x y h k = ap (λ c. widen c 5 8) (omega arith)

alpha_5551 : (x y : ℕ) → x < 256 → y < 256 → (unpack Rgba5551 (x ∷ y ∷ [])).a ≡ widen ((x + 256 * y) % 2 ^ 1) 1 8
unfolding unpack
alpha_5551 x y h k = ap (λ c. widen c 1 8) (omega arith)

two_5551 : (x y : ℕ) → x < 256 → y < 256 → bytes_beside (red_green_5551 (x + 256 * y)) (blue_alpha_5551 (x + 256 * y)) ≡ converted 4 Rgba8888 Rgba5551 (x ∷ y ∷ [])
unfolding converted
two_5551 x y h k =
    let red : (x + 256 * y) / 2 ^ 11 < 32 = omega arith in
    let green : (x + 256 * y) * 2 ^ 5 % 2 ^ 16 / 2 ^ 11 < 32 = omega arith in
    let blue : (x + 256 * y) * 2 ^ 10 % 2 ^ 16 / 2 ^ 11 < 32 = omega arith in
    let alpha : (x + 256 * y) * 2 ^ 15 % 2 ^ 16 / 2 ^ 15 < 2 = omega arith in
    let last : (x + 256 * y) * 2 ^ 15 % 2 ^ 16 / 2 ^ 15 ≡ (x + 256 * y) % 2 ^ 1 = omega arith in
    let middle : (x + 256 * y) * 2 ^ 5 % 2 ^ 16 / 2 ^ 11 ≡ (x + 256 * y) / 2 ^ 6 % 2 ^ 5 = omega arith in
    four_bytes _ _ _ _ _ _ _ _
    (low_fives ((x + 256 * y) / 2 ^ 11) (five ((x + 256 * y) * 2 ^ 5 % 2 ^ 16 / 2 ^ 11)) ((x + 256 * y) / 2 ^ 11 % 2 ^ 5) red (five_small ((x + 256 * y) * 2 ^ 5 % 2 ^ 16 / 2 ^ 11) green) (omega arith) ∙ sym (red_5551 x y h k))
    (high_byte (five ((x + 256 * y) / 2 ^ 11)) (five ((x + 256 * y) * 2 ^ 5 % 2 ^ 16 / 2 ^ 11)) (five_small ((x + 256 * y) / 2 ^ 11) red) (five_small ((x + 256 * y) * 2 ^ 5 % 2 ^ 16 / 2 ^ 11) green)
    ∙ five_is ((x + 256 * y) * 2 ^ 5 % 2 ^ 16 / 2 ^ 11) green ∙ ap (λ c. widen c 5 8) middle ∙ sym (green_5551 x y h k))
    (low_fives ((x + 256 * y) * 2 ^ 10 % 2 ^ 16 / 2 ^ 11) (one_bit ((x + 256 * y) * 2 ^ 15 % 2 ^ 16 / 2 ^ 15)) ((x + 256 * y) / 2 ^ 1 % 2 ^ 5) blue (bit_small ((x + 256 * y) * 2 ^ 15 % 2 ^ 16 / 2 ^ 15) alpha) (omega arith) ∙ sym (blue_5551 x y h k))
    (high_byte (five ((x + 256 * y) * 2 ^ 10 % 2 ^ 16 / 2 ^ 11)) (one_bit ((x + 256 * y) * 2 ^ 15 % 2 ^ 16 / 2 ^ 15)) (five_small ((x + 256 * y) * 2 ^ 10 % 2 ^ 16 / 2 ^ 11) blue) (bit_small ((x + 256 * y) * 2 ^ 15 % 2 ^ 16 / 2 ^ 15) alpha)
    ∙ bit_is ((x + 256 * y) * 2 ^ 15 % 2 ^ 16 / 2 ^ 15) alpha ∙ ap (λ c. widen c 1 8) last ∙ sym (alpha_5551 x y h k))
    ∙ ap (take 4) (sym (four_packed (unpack Rgba5551 (x ∷ y ∷ [])) (IsBytes-unpack Rgba5551 (x ∷ y ∷ []))))

cell_5551 : (c : List ℕ) → IsCell 2 c → bytes_beside (red_green_5551 (word c)) (blue_alpha_5551 (word c)) ≡ converted 4 Rgba8888 Rgba5551 c
cell_5551 c h = two_5551 (get_or c 0 0) (get_or c 1 0) (h.bytes 0) (h.bytes 1) ∙ ap (converted 4 Rgba8888 Rgba5551) (sym (list_2 c h.long))

-- ---- two lanes for each word of a format

-- they have the bytes of the word's pixel
pub record Widens (from : Format) (rg ba : ℕ → ℕ) : Type 0 where
  first : (n : ℕ) → rg n < 65536
  second : (n : ℕ) → ba n < 65536
  cell : (c : List ℕ) → IsCell 2 c → bytes_beside (rg (word c)) (ba (word c)) ≡ converted 4 Rgba8888 from c

pub of_565 : Widens Rgb565 red_green blue_alpha
of_565 = record { first = red_green_below; second = blue_alpha_below; cell = cell_widened }

pub of_4444 : Widens Rgba4444 red_green_4444 blue_alpha_4444
of_4444 = record {
  first = λ n. beside_below (nibble (n / 2 ^ 12)) (nibble (n * 2 ^ 4 % 2 ^ 16 / 2 ^ 12));
  second = λ n. beside_below (nibble (n * 2 ^ 8 % 2 ^ 16 / 2 ^ 12)) (nibble (n * 2 ^ 12 % 2 ^ 16 / 2 ^ 12));
  cell = cell_4444;
}

pub of_5551 : Widens Rgba5551 red_green_5551 blue_alpha_5551
of_5551 = record {
  first = λ n. beside_below (five (n / 2 ^ 11)) (five (n * 2 ^ 5 % 2 ^ 16 / 2 ^ 11));
  second = λ n. beside_below (five (n * 2 ^ 10 % 2 ^ 16 / 2 ^ 11)) (one_bit (n * 2 ^ 15 % 2 ^ 16 / 2 ^ 15));
  cell = cell_5551;
}

-- ---- words of bytes, and bytes of words

words_cons : (x y n : ℕ) (r : List ℕ) → x < 256 → y < 256 → digits_l 65536 (suc n) (number_l 256 (x ∷ y ∷ r)) ≡ (x + 256 * y) ∷ digits_l 65536 n (number_l 256 r)
words_cons x y n r h k =
    let rest : ℕ = number_l 256 r in
    ap (λ z. z ∷ digits_l 65536 n (number_l 256 (x ∷ y ∷ r) / 65536)) (omega arith)
    ∙ ap (λ z. (x + 256 * y) ∷ digits_l 65536 n z) (omega arith)

words_of : (cells : List (List ℕ)) → AreCells 2 cells → digits_l 65536 (length cells) (number_l 256 (flat_map (λ c. c) cells)) ≡ map word cells
words_of [] h = refl
words_of (c ∷ cells) h =
    let is : IsCell 2 c = h 0 (omega arith) in
    ap (λ d. digits_l 65536 (suc (length cells)) (number_l 256 (d ++ flat_map (λ x. x) cells))) (list_2 c is.long)
    ∙ words_cons (get_or c 0 0) (get_or c 1 0) (length cells) (flat_map (λ x. x) cells) (is.bytes 0) (is.bytes 1)
    ∙ ap (λ l. word c ∷ l) (words_of cells (λ k l. h (suc k) (omega arith)))

bytes_cons : (x n : ℕ) (r : List ℕ) → x < 65536 → digits_l 256 (suc (suc n)) (number_l 65536 (x ∷ r)) ≡ x % 256 ∷ x / 256 ∷ digits_l 256 n (number_l 65536 r)
bytes_cons x n r h =
    ap (λ z. z ∷ digits_l 256 (suc n) (number_l 65536 (x ∷ r) / 256)) (omega arith)
    ∙ ap (λ z. x % 256 ∷ z ∷ digits_l 256 n (number_l 65536 (x ∷ r) / 256 / 256)) (omega arith)
    ∙ ap (λ z. x % 256 ∷ x / 256 ∷ digits_l 256 n z) (omega arith)

pair_cons : (a b n : ℕ) (r : List ℕ) → a < 65536 → b < 65536 → digits_l 256 (suc (suc (suc (suc n)))) (number_l 65536 (a ∷ b ∷ r)) ≡ bytes_beside a b ++ digits_l 256 n (number_l 65536 r)
pair_cons a b n r h k = bytes_cons a (suc (suc n)) (b ∷ r) h ∙ ap (λ l. a % 256 ∷ a / 256 ∷ l) (bytes_cons b n r k)

-- the bytes of four cells
abbrev lanes_of : (ℕ → ℕ) → (ℕ → ℕ) → List ℕ → List ℕ → List ℕ → List ℕ → List ℕ
lanes_of rg ba a b c d =
    rg (word a) ∷ ba (word a) ∷ rg (word b) ∷ ba (word b) ∷ rg (word c) ∷ ba (word c) ∷ rg (word d) ∷ ba (word d) ∷ []

abbrev four_of : (ℕ → ℕ) → (ℕ → ℕ) → List ℕ → List ℕ
four_of rg ba c = bytes_beside (rg (word c)) (ba (word c))

four_lanes : (from : Format) (rg ba : ℕ → ℕ) (t : Widens from rg ba) (a b c d : List ℕ) → digits_l 256 16 (number_l 65536 (lanes_of rg ba a b c d)) ≡ four_of rg ba a ++ (four_of rg ba b ++ (four_of rg ba c ++ (four_of rg ba d ++ [])))
four_lanes from rg ba t a b c d =
    let two : List ℕ = rg (word d) ∷ ba (word d) ∷ [] in
    let four : List ℕ = rg (word c) ∷ ba (word c) ∷ rg (word d) ∷ ba (word d) ∷ [] in
    let six_lanes : List ℕ = rg (word b) ∷ ba (word b) ∷ rg (word c) ∷ ba (word c) ∷ rg (word d) ∷ ba (word d) ∷ [] in
    pair_cons (rg (word a)) (ba (word a)) 12 six_lanes (t.first (word a)) (t.second (word a))
    ∙ ap (λ l. four_of rg ba a ++ l) (pair_cons (rg (word b)) (ba (word b)) 8 four (t.first (word b)) (t.second (word b))
    ∙ ap (λ l. four_of rg ba b ++ l) (pair_cons (rg (word c)) (ba (word c)) 4 two (t.first (word c)) (t.second (word c))
    ∙ ap (λ l. four_of rg ba c ++ l) (pair_cons (rg (word d)) (ba (word d)) 0 [] (t.first (word d)) (t.second (word d)))))

four_made : (from : Format) (rg ba : ℕ → ℕ) (t : Widens from rg ba) (a b c d : List ℕ) → IsCell 2 a → IsCell 2 b → IsCell 2 c → IsCell 2 d →
    first_chunks 4 4 (digits_l 256 16 (number_l 65536 (lanes_of rg ba a b c d))) ≡ map (converted 4 Rgba8888 from) (a ∷ b ∷ c ∷ d ∷ [])
four_made from rg ba t a b c d h i j k =
    ap (first_chunks 4 4) (four_lanes from rg ba t a b c d)
    ∙ ap (λ l. l ∷ four_of rg ba b ∷ four_of rg ba c ∷ four_of rg ba d ∷ []) (t.cell a h)
    ∙ ap (λ l. converted 4 Rgba8888 from a ∷ l ∷ four_of rg ba c ∷ four_of rg ba d ∷ []) (t.cell b i)
    ∙ ap (λ l. converted 4 Rgba8888 from a ∷ converted 4 Rgba8888 from b ∷ l ∷ four_of rg ba d ∷ []) (t.cell c j)
    ∙ ap (λ l. converted 4 Rgba8888 from a ∷ converted 4 Rgba8888 from b ∷ converted 4 Rgba8888 from c ∷ l ∷ []) (t.cell d k)

-- ---- lanes of 16 bits

abbrev shr : ℕ → ℕ → List ℕ → List ℕ
shr k n xs = zip2 (λ a b. a / 2 ^ b) xs (replicate n k)

abbrev shl : ℕ → ℕ → List ℕ → List ℕ
shl k n xs = zip2 (λ a b. a * 2 ^ b % 2 ^ 16) xs (replicate n k)

abbrev times : ℕ → ℕ → List ℕ → List ℕ
times k n xs = zip2 (λ a b. a * b % 2 ^ 16) xs (replicate n k)

abbrev plus : ℕ → ℕ → List ℕ → List ℕ
plus k n xs = zip2 (λ a b. (a + b) % 2 ^ 16) xs (replicate n k)

pub red_green_is : (xs : List ℕ) (n : ℕ) → length xs ≡ n →
    zip2 (λ a b. (a + b) % 2 ^ 16) (shr 6 n (plus 23 n (times 527 n (shr 11 n xs)))) (shl 8 n (shr 6 n (plus 33 n (times 259 n (shr 10 n (shl 5 n xs)))))) ≡ map red_green xs
red_green_is [] n e = refl
red_green_is (x ∷ xs) zero e = absurd (omega arith)
red_green_is (x ∷ xs) (suc n) e = ap (λ l. red_green x ∷ l) (red_green_is xs n (omega arith))

pub blue_alpha_is : (xs : List ℕ) (n : ℕ) → length xs ≡ n → plus 65280 n (shr 6 n (plus 23 n (times 527 n (shr 11 n (shl 11 n xs))))) ≡ map blue_alpha xs
blue_alpha_is [] n e = refl
blue_alpha_is (x ∷ xs) zero e = absurd (omega arith)
blue_alpha_is (x ∷ xs) (suc n) e = ap (λ l. blue_alpha x ∷ l) (blue_alpha_is xs n (omega arith))

pub red_green_4444_is : (xs : List ℕ) (n : ℕ) → length xs ≡ n → zip2 (λ a b. (a + b) % 2 ^ 16) (times 17 n (shr 12 n xs)) (shl 8 n (times 17 n (shr 12 n (shl 4 n xs)))) ≡ map red_green_4444 xs
red_green_4444_is [] n e = refl
red_green_4444_is (x ∷ xs) zero e = absurd (omega arith)
red_green_4444_is (x ∷ xs) (suc n) e = ap (λ l. red_green_4444 x ∷ l) (red_green_4444_is xs n (omega arith))

pub blue_alpha_4444_is : (xs : List ℕ) (n : ℕ) → length xs ≡ n → zip2 (λ a b. (a + b) % 2 ^ 16) (times 17 n (shr 12 n (shl 8 n xs))) (shl 8 n (times 17 n (shr 12 n (shl 12 n xs)))) ≡ map blue_alpha_4444 xs
blue_alpha_4444_is [] n e = refl
blue_alpha_4444_is (x ∷ xs) zero e = absurd (omega arith)
blue_alpha_4444_is (x ∷ xs) (suc n) e = ap (λ l. blue_alpha_4444 x ∷ l) (blue_alpha_4444_is xs n (omega arith))

pub red_green_5551_is : (xs : List ℕ) (n : ℕ) → length xs ≡ n →
    zip2 (λ a b. (a + b) % 2 ^ 16) (shr 6 n (plus 23 n (times 527 n (shr 11 n xs)))) (shl 8 n (shr 6 n (plus 23 n (times 527 n (shr 11 n (shl 5 n xs)))))) ≡ map red_green_5551 xs
red_green_5551_is [] n e = refl
red_green_5551_is (x ∷ xs) zero e = absurd (omega arith)
red_green_5551_is (x ∷ xs) (suc n) e = ap (λ l. red_green_5551 x ∷ l) (red_green_5551_is xs n (omega arith))

pub blue_alpha_5551_is : (xs : List ℕ) (n : ℕ) → length xs ≡ n →
    zip2 (λ a b. (a + b) % 2 ^ 16) (shr 6 n (plus 23 n (times 527 n (shr 11 n (shl 10 n xs))))) (shl 8 n (times 255 n (shr 15 n (shl 15 n xs)))) ≡ map blue_alpha_5551 xs
blue_alpha_5551_is [] n e = refl
blue_alpha_5551_is (x ∷ xs) zero e = absurd (omega arith)
blue_alpha_5551_is (x ∷ xs) (suc n) e = ap (λ l. blue_alpha_5551 x ∷ l) (blue_alpha_5551_is xs n (omega arith))

-- eight cells in two vectors
pub low_widened : (from : Format) (rg ba : ℕ → ℕ) (wide : Widens from rg ba) (row : List (List ℕ)) (v : List ℕ) → length row ≡ 8 → AreCells 2 row → v ≡ map word row →
    first_chunks 4 4 (digits_l 256 16 (number_l 65536 (pick_l 0 (map rg v ++ map ba v) (0 ∷ 8 ∷ 1 ∷ 9 ∷ 2 ∷ 10 ∷ 3 ∷ 11 ∷ []))))
    ≡ map (converted 4 Rgba8888 from) (take 4 row)
low_widened from rg ba wide [] v e h is = absurd (omega arith)
low_widened from rg ba wide (a ∷ []) v e h is = absurd (omega arith)
low_widened from rg ba wide (a ∷ b ∷ []) v e h is = absurd (omega arith)
low_widened from rg ba wide (a ∷ b ∷ c ∷ []) v e h is = absurd (omega arith)
low_widened from rg ba wide (a ∷ b ∷ c ∷ d ∷ []) v e h is = absurd (omega arith)
low_widened from rg ba wide (a ∷ b ∷ c ∷ d ∷ p ∷ []) v e h is = absurd (omega arith)
low_widened from rg ba wide (a ∷ b ∷ c ∷ d ∷ p ∷ q ∷ []) v e h is = absurd (omega arith)
low_widened from rg ba wide (a ∷ b ∷ c ∷ d ∷ p ∷ q ∷ r ∷ []) v e h is = absurd (omega arith)
low_widened from rg ba wide (a ∷ b ∷ c ∷ d ∷ p ∷ q ∷ r ∷ s ∷ []) v e h is =
    ap (λ w. first_chunks 4 4 (digits_l 256 16 (number_l 65536 (pick_l 0 (map rg w ++ map ba w) (0 ∷ 8 ∷ 1 ∷ 9 ∷ 2 ∷ 10 ∷ 3 ∷ 11 ∷ []))))) is
    ∙ four_made from rg ba wide a b c d (h 0 (omega arith)) (h 1 (omega arith)) (h 2 (omega arith)) (h 3 (omega arith))
low_widened from rg ba wide (a ∷ b ∷ c ∷ d ∷ p ∷ q ∷ r ∷ s ∷ t ∷ row) v e h is = absurd (omega arith)

pub high_widened : (from : Format) (rg ba : ℕ → ℕ) (wide : Widens from rg ba) (row : List (List ℕ)) (v : List ℕ) → length row ≡ 8 → AreCells 2 row → v ≡ map word row →
    first_chunks 4 4 (digits_l 256 16 (number_l 65536 (pick_l 0 (map rg v ++ map ba v) (4 ∷ 12 ∷ 5 ∷ 13 ∷ 6 ∷ 14 ∷ 7 ∷ 15 ∷ []))))
    ≡ map (converted 4 Rgba8888 from) (drop 4 row)
high_widened from rg ba wide [] v e h is = absurd (omega arith)
high_widened from rg ba wide (a ∷ []) v e h is = absurd (omega arith)
high_widened from rg ba wide (a ∷ b ∷ []) v e h is = absurd (omega arith)
high_widened from rg ba wide (a ∷ b ∷ c ∷ []) v e h is = absurd (omega arith)
high_widened from rg ba wide (a ∷ b ∷ c ∷ d ∷ []) v e h is = absurd (omega arith)
high_widened from rg ba wide (a ∷ b ∷ c ∷ d ∷ p ∷ []) v e h is = absurd (omega arith)
high_widened from rg ba wide (a ∷ b ∷ c ∷ d ∷ p ∷ q ∷ []) v e h is = absurd (omega arith)
high_widened from rg ba wide (a ∷ b ∷ c ∷ d ∷ p ∷ q ∷ r ∷ []) v e h is = absurd (omega arith)
high_widened from rg ba wide (a ∷ b ∷ c ∷ d ∷ p ∷ q ∷ r ∷ s ∷ []) v e h is =
    ap (λ w. first_chunks 4 4 (digits_l 256 16 (number_l 65536 (pick_l 0 (map rg w ++ map ba w) (4 ∷ 12 ∷ 5 ∷ 13 ∷ 6 ∷ 14 ∷ 7 ∷ 15 ∷ []))))) is
    ∙ four_made from rg ba wide p q r s (h 4 (omega arith)) (h 5 (omega arith)) (h 6 (omega arith)) (h 7 (omega arith))
high_widened from rg ba wide (a ∷ b ∷ c ∷ d ∷ p ∷ q ∷ r ∷ s ∷ t ∷ row) v e h is = absurd (omega arith)

pub eight_words : (row : List (List ℕ)) (bytes : List ℕ) → length row ≡ 8 → AreCells 2 row → bytes ≡ flat_map (λ c. c) row → digits_l 65536 8 (number_l 256 bytes) ≡ map word row
eight_words row bytes e h is = ap (λ b. digits_l 65536 8 (number_l 256 b)) is ∙ ap (λ n. digits_l 65536 n (number_l 256 (flat_map (λ c. c) row))) (sym e) ∙ words_of row h

-- four cells of a row, from its place `done` on, that were stored from the place at + done on
part_stored : (g : List ℕ → List ℕ) (at done from : ℕ) (row made part old new : List (List ℕ)) → from ≡ at + done → made ≡ map g part → length part ≡ 4 → ((i : ℕ) → i < 4 → get_or part i [] ≡ get_or row (done + i) []) →
    Rewritten [] (in_range from (from + 4)) (λ k _. get_or made (k - from) []) old new → Rewritten [] (in_range from (from + 4)) (λ k _. g (get_or row (k - at) [])) old new
part_stored g at done from row made part old new e is long each s =
    rewritten_by [] (in_range from (from + 4)) (λ k _. get_or made (k - from) []) (λ k _. g (get_or row (k - at) [])) old new s
    (λ k h t.
    let b = covered_range from (from + 4) k t in
    let within : k - from < 4 = omega (arith, b.0, b.1) in
    let place : done + (k - from) ≡ k - at = omega (arith, b.0) in
    ap (λ l. get_or l (k - from) []) is
    ∙ get_or-map g part (k - from) [] [] (omega arith)
    ∙ ap g (each (k - from) within ∙ ap (λ i. get_or row i []) place))

-- eight more cells of a row
pub eight_stored : (g : List ℕ → List ℕ) (at done : ℕ) (row low high old mid part new : List (List ℕ)) → done + 8 ≤ length row →
    low ≡ map g (take 4 (slice_range row done (done + 8))) → high ≡ map g (drop 4 (slice_range row done (done + 8))) →
    Rewritten [] (in_range at (at + done)) (λ k _. g (get_or row (k - at) [])) old mid →
    Rewritten [] (in_range (at + done) (at + done + 4)) (λ k _. get_or low (k - (at + done)) []) mid part →
    Rewritten [] (in_range (at + done + 4) (at + done + 4 + 4)) (λ k _. get_or high (k - (at + done + 4)) []) part new →
    Rewritten [] (in_range at (at + (done + 8))) (λ k _. g (get_or row (k - at) [])) old new
eight_stored g at done row low high old mid part new room is also s t u =
    let eight : List (List ℕ) = slice_range row done (done + 8) in
    let eight_long : length (slice_range row done (done + 8)) ≡ 8 = length-take (done + 8 - done) (drop done row) ∙ omega (arith, length-drop done row) in
    let low_long : length (take 4 (slice_range row done (done + 8))) ≡ 4 = length-take 4 (slice_range row done (done + 8)) ∙ omega arith in
    let high_long : length (drop 4 (slice_range row done (done + 8))) ≡ 4 = length-drop 4 (slice_range row done (done + 8)) ∙ omega arith in
    let end : at + done + 4 + 4 ≡ at + (done + 8) = omega arith in
    subst (λ z. Rewritten [] (in_range at z) (λ k _. g (get_or row (k - at) [])) old new) end
    (range_joined [] (λ k _. g (get_or row (k - at) [])) old part new at (at + done + 4) (at + done + 4 + 4)
    (range_joined [] (λ k _. g (get_or row (k - at) [])) old mid part at (at + done) (at + done + 4) s
    (part_stored g at done (at + done) row low (take 4 (slice_range row done (done + 8))) mid part refl is low_long
    (λ i h.
    let within : i < done + 8 - done = omega arith in
    get_or-take 4 (slice_range row done (done + 8)) i [] h ∙ get_or-take (done + 8 - done) (drop done row) i [] within ∙ get_or-drop done row i []) t) (omega arith) (omega arith))
    (part_stored g at (done + 4) (at + done + 4) row high (drop 4 (slice_range row done (done + 8))) part new (omega arith) also high_long
    (λ i h.
    let within : 4 + i < done + 8 - done = omega arith in
    let place : done + (4 + i) ≡ done + 4 + i = omega arith in
    get_or-drop 4 (slice_range row done (done + 8)) i [] ∙ get_or-take (done + 8 - done) (drop done row) (4 + i) [] within ∙ get_or-drop done row (4 + i) [] ∙ ap (λ j. get_or row j []) place) u) (omega arith) (omega arith))

-- the two vectors of eight cells
pub low_of : (from : Format) (rg ba : ℕ → ℕ) (t : Widens from rg ba) (row : List (List ℕ)) (v xs ys : List ℕ) → length row ≡ 8 → AreCells 2 row → v ≡ map word row → xs ≡ map rg v → ys ≡ map ba v →
    first_chunks 4 4 (digits_l 256 16 (number_l 65536 (pick_l 0 (xs ++ ys) (0 ∷ 8 ∷ 1 ∷ 9 ∷ 2 ∷ 10 ∷ 3 ∷ 11 ∷ [])))) ≡ map (converted 4 Rgba8888 from) (take 4 row)
low_of from rg ba t row v xs ys e h is r b =
    ap (λ x. first_chunks 4 4 (digits_l 256 16 (number_l 65536 (pick_l 0 (x ++ ys) (0 ∷ 8 ∷ 1 ∷ 9 ∷ 2 ∷ 10 ∷ 3 ∷ 11 ∷ []))))) r
    ∙ ap (λ x. first_chunks 4 4 (digits_l 256 16 (number_l 65536 (pick_l 0 (map rg v ++ x) (0 ∷ 8 ∷ 1 ∷ 9 ∷ 2 ∷ 10 ∷ 3 ∷ 11 ∷ []))))) b
    ∙ low_widened from rg ba t row v e h is

pub high_of : (from : Format) (rg ba : ℕ → ℕ) (t : Widens from rg ba) (row : List (List ℕ)) (v xs ys : List ℕ) → length row ≡ 8 → AreCells 2 row → v ≡ map word row → xs ≡ map rg v → ys ≡ map ba v →
    first_chunks 4 4 (digits_l 256 16 (number_l 65536 (pick_l 0 (xs ++ ys) (4 ∷ 12 ∷ 5 ∷ 13 ∷ 6 ∷ 14 ∷ 7 ∷ 15 ∷ [])))) ≡ map (converted 4 Rgba8888 from) (drop 4 row)
high_of from rg ba t row v xs ys e h is r b =
    ap (λ x. first_chunks 4 4 (digits_l 256 16 (number_l 65536 (pick_l 0 (x ++ ys) (4 ∷ 12 ∷ 5 ∷ 13 ∷ 6 ∷ 14 ∷ 7 ∷ 15 ∷ []))))) r
    ∙ ap (λ x. first_chunks 4 4 (digits_l 256 16 (number_l 65536 (pick_l 0 (map rg v ++ x) (4 ∷ 12 ∷ 5 ∷ 13 ∷ 6 ∷ 14 ∷ 7 ∷ 15 ∷ []))))) b
    ∙ high_widened from rg ba t row v e h is

-- one more cell
pub one_widened : (from : Format) (row old new : List (List ℕ)) (at k : ℕ) (px : Pixel) (v : List ℕ) → Rewritten [] (in_range at (at + k)) (λ j _. converted 4 Rgba8888 from (get_or row (j - at) [])) old new →
    k < length row → at + length row ≤ length old → px ≡ unpack from (get_or row k []) → v ≡ take 4 (pack Rgba8888 px) →
    Rewritten [] (in_range at (at + (k + 1))) (λ j _. converted 4 Rgba8888 from (get_or row (j - at) [])) old (set new (at + k) v)
unfolding converted
one_widened from row old new at k px v s within room read packed =
    let fits : at + k < length new = omega (arith, s.long) in
    let same : k ≡ at + k - at = omega arith in
    range_more [] (λ j _. converted 4 Rgba8888 from (get_or row (j - at) [])) old new at (at + k) (at + (k + 1)) v s (omega arith) fits (omega arith)
    (packed ∙ ap (λ x. take 4 (pack Rgba8888 x)) (read ∙ ap (unpack from) (ap (λ i. get_or row i []) same)))

-- a row of cells in the format of four bytes
pub words_widened : (f from : Format) (at : ℕ) (row old new : List (List ℕ)) → 4 ≡ bytes_of f →
    Rewritten [] (in_range at (at + length row)) (λ k _. converted 4 Rgba8888 from (get_or row (k - at) [])) old new → Rewritten [] (in_range at (at + length row)) (λ k _. converted 4 f from (get_or row (k - at) [])) old new
words_widened f from at row old new four s = let is = four_is f four in rw is s
