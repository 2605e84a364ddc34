use Rattle.std.proofs.Common.{◌≡◌, ◌++◌, drop}
use Rattle.std.specs.Prelude.{codes}
use Rattle.std.specs.List.{flat_map}
use Rattle.trace_outcomes.proofs.outcomes.put_answers.Given as goal

abbrev pub invariant-each : goal.invariant-each
invariant-each l = l.out ++ flat_map (λ a. a ++ codes "\n") (drop l.answer-index l.answers) ≡ l.fn.out ++ flat_map (λ a. a ++ codes "\n") l.answers
