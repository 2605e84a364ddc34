use Rattle.std.proofs.Common.{List, ℕ, ap, ◌∙◌}
use Rattle.egl_names.specs.Names.{bit_word, value_in}
use Rattle.egl_names.proofs.TableLaws.{bit_words_are}
use Rattle.egl_names.proofs.number_words.bit_of_word.Goals as goal

pub returns : goal.returns
unfolding bit_word
returns c = c.value_in.ensures ∙ ap (λ (x : List (List ℕ × ℕ)). value_in x c.args.word.now) bit_words_are
