use Rattle.std.proofs.Common.{◌+◌, List, ℕ, ap, ◌∙◌}
use Rattle.std.specs.Option.{option_map}
use Rattle.egl_names.specs.Names.{code_of, place_of}
use Rattle.egl_names.proofs.TableLaws.{names_are}
use Rattle.egl_names.proofs.names.code_of_word.Goals as goal

pub returns-in-Some : goal.returns-in-Some
unfolding code_of
returns-in-Some c = ap (option_map (λ k. 3000000000 + k)) (c.in-Some.ensures ∙ ap (λ (x : List (List ℕ)). place_of x c.args.word.now) names_are)

pub returns-in-None : goal.returns-in-None
unfolding code_of
returns-in-None c = ap (option_map (λ k. 3000000000 + k)) (c.in-None.ensures ∙ ap (λ (x : List (List ℕ)). place_of x c.args.word.now) names_are)
