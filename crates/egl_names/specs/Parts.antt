-- The parts of joined words, one after another.
use Rattle.std.specs.Prelude.{ℕ, pos, Bool, true, false, List, Option, None, Some, if◌then◌else◌, bit_or}
use Rattle.std.specs.List.{list_any}
use Rattle.std.specs.Option.{option_map_or}
use Rattle.egl_names.specs.Names.{bit_word}
use Rattle.egl_names.specs.Joined.{known_word, is_unknown_name, joined_bits}
use Rattle.egl_names.specs.declared.joined.Part.{Part}
use Rattle.egl_names.specs.declared.joined.Part.TheVariants.{Bit as PartBit, UnknownName as PartUnknownName, NoBit}
use Rattle.egl_names.specs.declared.joined.Word.{Word}
use Rattle.egl_names.specs.declared.joined.Word.TheVariants.{Number, UnknownName, BadForm}

-- a word that begins like a name, with no bar in it
abbrev pub single_word : List ℕ → Word
single_word w = option_map_or Number (known_word w) UnknownName

-- a bit, a name that nobody knows, or another text
abbrev pub part_of : List ℕ → Part
part_of w = option_map_or PartBit (bit_word w) (if is_unknown_name w then PartUnknownName else NoBit)

-- whether a part is a name that nobody knows
abbrev pub is_unknown_part : Part → Bool
is_unknown_part (PartBit bit) = false
is_unknown_part PartUnknownName = true
is_unknown_part NoBit = false

-- the bits so far with those of one more part; none once a part is no bit
abbrev pub with_part : Option ℕ → Part → Option ℕ
with_part (Some bits) (PartBit bit) = Some (bit_or bits bit)
with_part (Some bits) PartUnknownName = None
with_part (Some bits) NoBit = None
with_part None p = None

-- the word that bits stand for, where every part was one
abbrev pub word_of_bits : Option ℕ → Word
word_of_bits (Some bits) = Number (pos bits)
word_of_bits None = BadForm

-- several words: an unknown name among them comes first
unfoldable pub joined_parts : List (List ℕ) → Word
joined_parts ws = if list_any is_unknown_name ws then UnknownName else joined_bits ws
