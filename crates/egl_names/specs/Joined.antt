-- A word of a trace that begins with a letter: a known word, or bits joined by `|`.
use Rattle.std.specs.Prelude.{ℕ, ℤ, pos, Bool, false, ◌&&◌, ◌||◌, List, [], ◌∷◌, Option, if◌then◌else◌, ◌==◌, nat_le, is_none, bit_or}
use Rattle.std.specs.List.{slice_split, list_any, list_all, filter_map, fold}
use Rattle.std.specs.Option.{option_map, option_or, option_map_or}
use Rattle.egl_names.specs.Names.{code_of, number_word, bit_word, is_bit_word}
use Rattle.egl_names.specs.declared.joined.Word.{Word}
use Rattle.egl_names.specs.declared.joined.Word.TheVariants.{Number, UnknownName, BadForm}

-- the number of a word of either list: a name's code, or what the word stands for
unfoldable pub known_word : List ℕ → Option ℤ
known_word w = option_or (option_map pos (code_of w)) (number_word w)

-- an ASCII letter or `_`
abbrev pub is_name_start : ℕ → Bool
is_name_start b = (nat_le 65 b && nat_le b 90) || (nat_le 97 b && nat_le b 122) || (b == 95)

-- whether the first byte passes
abbrev pub begins_with : (ℕ → Bool) → List ℕ → Bool
begins_with test [] = false
begins_with test (b ∷ bs) = test b

-- a text that begins like a name and is no known word
abbrev pub is_unknown_name : List ℕ → Bool
is_unknown_name w = begins_with is_name_start w && is_none (known_word w)

-- the byte between joined words
abbrev pub is_bar : ℕ → Bool
is_bar b = b == 124

-- the parts between the bars
unfoldable pub parts : List ℕ → List (List ℕ)
parts w = slice_split is_bar w

-- several words must all be bits, which are joined bit by bit
unfoldable pub joined_bits : List (List ℕ) → Word
joined_bits ws = if list_all is_bit_word ws then Number (pos (fold bit_or 0 (filter_map bit_word ws))) else BadForm

-- one word is any known word
abbrev pub joined : List (List ℕ) → Word
joined [] = BadForm
joined (w ∷ []) = option_map_or Number (known_word w) BadForm
joined (w ∷ v ∷ ws) = joined_bits (w ∷ v ∷ ws)

-- a text that doesn't begin like a name is no word; an unknown name at any part comes before all else that is wrong
unfoldable pub joined_word : List ℕ → Word
joined_word w = if begins_with is_name_start w then (if list_any is_unknown_name (parts w) then UnknownName else joined (parts w)) else BadForm
