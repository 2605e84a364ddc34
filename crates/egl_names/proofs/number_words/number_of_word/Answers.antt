use Rattle.std.proofs.Common.{List, ℕ, ℤ, pos, ap, ◌∙◌, sym, refl}
use Rattle.std.specs.Option.{option_map, is_some}
use Rattle.egl_names.specs.Names.{number_word, value_in, plain_words, bit_word}
use Rattle.egl_names.proofs.TableLaws.{plain_words_are, or_first, or_second}
use Rattle.egl_names.proofs.number_words.number_of_word.Goals as goal

pub returns-then-is_some : goal.returns-then-is_some
unfolding number_word
returns-then-is_some c =
    let plain = c.value_in-plain.ensures ∙ ap (λ (x : List (List ℕ × ℤ)). value_in x c.args.word.now) plain_words_are in
    plain ∙ or_first (value_in plain_words c.args.word.now) (option_map pos (bit_word c.args.word.now)) _ (ap is_some (sym plain) ∙ sym c.if-is_some.ensures) refl

pub returns : goal.returns
unfolding number_word
returns c =
    let plain = c.value_in-plain.ensures ∙ ap (λ (x : List (List ℕ × ℤ)). value_in x c.args.word.now) plain_words_are in
    or_second (value_in plain_words c.args.word.now) (option_map pos (bit_word c.args.word.now)) _ (ap is_some (sym plain) ∙ sym c.if-is_some.ensures) (c.as_number.ensures ∙ ap (option_map pos) c.bit_of_word.ensures)
