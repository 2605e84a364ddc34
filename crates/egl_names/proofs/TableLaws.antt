-- The tables of the code are those of the definitions.
use Rattle.std.proofs.Common.{◌≡◌, refl, sym, map, ℤ, pos, negsuc, true, false, Option, None, Some}
use Rattle.std.specs.Option.{is_some, option_or}
use Rattle.std.proofs.lemmas.Bool.{false≢true}
use Rattle.egl_names.specs.declared.names.TheConstants.{NAMES}
use Rattle.egl_names.specs.declared.number_words.TheConstants.{PLAIN_WORDS, BIT_WORDS}
use Rattle.egl_names.specs.Names.{names, errors, config_attributes, other_egl_names, gl_names, plain_words, bit_words, name_at, name_of}
use Rattle.egl_calls.specs.Ranges.{unsigned}

pub names_are : map (λ s. s.now) NAMES ≡ names
unfolding names errors config_attributes other_egl_names gl_names
names_are = refl

pub plain_words_are : map (λ e. (e.0.now, e.1)) PLAIN_WORDS ≡ plain_words
unfolding plain_words
plain_words_are = refl

pub bit_words_are : map (λ e. (e.0.now, e.1)) BIT_WORDS ≡ bit_words
unfolding bit_words
bit_words_are = refl

-- a negative number is the code of no name, and neither is 0
pub name_of_is : (z : ℤ) → name_at names (unsigned z) ≡ name_of z
unfolding name_of
name_of_is (pos n) = refl
name_of_is (negsuc n) = refl

pub or_first : (p q r : Option ℤ) → is_some p ≡ true → r ≡ p → r ≡ option_or p q
or_first (Some x) q r s e = e
or_first None q r s e = absurd (false≢true s)

pub or_second : (p q r : Option ℤ) → is_some p ≡ false → r ≡ q → r ≡ option_or p q
or_second None q r s e = e
or_second (Some x) q r s e = absurd (false≢true (sym s))
