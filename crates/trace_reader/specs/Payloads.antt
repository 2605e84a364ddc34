-- Payloads: bytes in hexadecimal digits, or the null pointer.
use Rattle.std.specs.Prelude.{ℕ, zero, suc, ◌+◌, ◌*◌, ◌%◌, Bool, ◌&&◌, ◌==◌, List, [], ◌∷◌, ◌++◌, if◌then◌else◌, length, take, drop, codes, position, Option, None, Some}
use Rattle.std.specs.List.{list_all}
use Rattle.std.specs.Option.{option_map}
use Rattle.std.specs.Str.{bytes_eq}
use Rattle.egl_calls.specs.Calls.{CallValue}
use Rattle.trace_reader.specs.Words.{begins_with}
use Rattle.trace_reader.specs.Numerals.{numeral}
use Rattle.trace_reader.specs.Hexadecimals.{is_hex_digit, hex_digit}

-- digits of bytes: an even number of them
abbrev pub are_byte_digits : List ℕ → Bool
are_byte_digits ds = (length ds % 2 == 0) && list_all is_hex_digit ds

-- the bytes of digits, two for each, of which the first counts sixteen
abbrev pub hex_bytes : List ℕ → List ℕ
hex_bytes [] = []
hex_bytes (a ∷ []) = []
hex_bytes (a ∷ b ∷ ds) = (16 * hex_digit a + hex_digit b) ∷ hex_bytes ds

-- bytes, so many times
abbrev pub repeated : ℕ → List ℕ → List ℕ
repeated zero bs = []
repeated (suc n) bs = bs ++ repeated n bs

-- how many times a payload may give its bytes
abbrev pub most_repeats : ℕ
most_repeats = 4294967295

-- the bytes of digits, so many times; nothing where there is no number, or these aren't digits of bytes
abbrev pub counted : Option ℕ → List ℕ → Option (List ℕ)
counted None ds = None
counted (Some n) ds = if are_byte_digits ds then Some (repeated n (hex_bytes ds)) else None

abbrev pub is_colon : ℕ → Bool
is_colon b = b == 58

-- COUNT:HEX, with the colon at this place
abbrev pub repeats_at : List ℕ → Option ℕ → Option (List ℕ)
repeats_at text None = None
repeats_at text (Some colon) = counted (numeral most_repeats (take colon text)) (drop (colon + 1) text)

unfoldable pub repeats : List ℕ → Option (List ℕ)
repeats text = repeats_at text (position is_colon text)

-- #HEX, or *COUNT:HEX
abbrev pub given_bytes : List ℕ → Option (List ℕ)
given_bytes w = if begins_with 35 w then counted (Some 1) (drop 1 w) else if begins_with 42 w then repeats (drop 1 w) else None

-- the payload that a word says: the null pointer for -, or bytes; nothing where it has another form
unfoldable pub payload : List ℕ → Option (Option (List ℕ))
payload w = if bytes_eq w (codes "-") then Some None else option_map Some (given_bytes w)

-- how many bytes a payload has; the null pointer has none
abbrev pub payload_size : Option (List ℕ) → ℕ
payload_size None = 0
payload_size (Some bs) = length bs

abbrev pub payload_bytes : CallValue → ℕ
payload_bytes c = payload_size c.bytes

-- how many bytes the payload of one line may have, and those of all lines together
abbrev pub most_line_payload : ℕ
most_line_payload = 8388608

abbrev pub most_payload_bytes : ℕ
most_payload_bytes = 67108864
