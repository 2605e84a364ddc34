-- Cells of two bytes as words, and what the lanes make of a word.
use Rattle.std.specs.Prelude.{Bool, true, false, ℕ, ◌+◌, ◌*◌, ◌/◌, ◌%◌, ◌^◌, List, slice_index}
use Rattle.pixel_formats.specs.declared.formats.Format.{Format}
use Rattle.pixel_formats.specs.declared.formats.Format.TheVariants.{Rgb565, Rgb888, Rgba8888, Rgba4444, Rgba5551, A8, L8, La88}

-- the word of two bytes, the low one first
abbrev pub word : List ℕ → ℕ
word c = slice_index c 0 + 256 * slice_index c 1

-- components of 5 and of 6 bits, widened to 8
abbrev pub five : ℕ → ℕ
five c = (c * 527 % 2 ^ 16 + 23) % 2 ^ 16 / 2 ^ 6

abbrev pub six : ℕ → ℕ
six c = (c * 259 % 2 ^ 16 + 33) % 2 ^ 16 / 2 ^ 6

-- of 4 bits, and of 1
abbrev pub nibble : ℕ → ℕ
nibble c = c * 17 % 2 ^ 16

abbrev pub one_bit : ℕ → ℕ
one_bit c = c * 255 % 2 ^ 16

-- two bytes in one lane
abbrev pub beside : ℕ → ℕ → ℕ
beside low high = (low + high * 2 ^ 8 % 2 ^ 16) % 2 ^ 16

-- red beside green, and blue beside a whole alpha, of a word of Rgb565
abbrev pub red_green : ℕ → ℕ
red_green n = beside (five (n / 2 ^ 11)) (six (n * 2 ^ 5 % 2 ^ 16 / 2 ^ 10))

abbrev pub blue_alpha : ℕ → ℕ
blue_alpha n = (five (n * 2 ^ 11 % 2 ^ 16 / 2 ^ 11) + 65280) % 2 ^ 16

-- red beside green, and blue beside alpha, of a word of Rgba4444
abbrev pub red_green_4444 : ℕ → ℕ
red_green_4444 n = beside (nibble (n / 2 ^ 12)) (nibble (n * 2 ^ 4 % 2 ^ 16 / 2 ^ 12))

abbrev pub blue_alpha_4444 : ℕ → ℕ
blue_alpha_4444 n = beside (nibble (n * 2 ^ 8 % 2 ^ 16 / 2 ^ 12)) (nibble (n * 2 ^ 12 % 2 ^ 16 / 2 ^ 12))

-- the same of one of Rgba5551
abbrev pub red_green_5551 : ℕ → ℕ
red_green_5551 n = beside (five (n / 2 ^ 11)) (five (n * 2 ^ 5 % 2 ^ 16 / 2 ^ 11))

abbrev pub blue_alpha_5551 : ℕ → ℕ
blue_alpha_5551 n = beside (five (n * 2 ^ 10 % 2 ^ 16 / 2 ^ 11)) (one_bit (n * 2 ^ 15 % 2 ^ 16 / 2 ^ 15))

-- whether there are lanes that widen words of a format
abbrev pub has_lanes : Format → Bool
has_lanes Rgb565 = true
has_lanes Rgb888 = false
has_lanes Rgba8888 = false
has_lanes Rgba4444 = true
has_lanes Rgba5551 = true
has_lanes A8 = false
has_lanes L8 = false
has_lanes La88 = false
