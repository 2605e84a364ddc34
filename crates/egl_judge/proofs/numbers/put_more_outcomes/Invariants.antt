use Rattle.std.proofs.Common.{◌≡◌, ◌++◌, drop}
use Rattle.std.specs.Prelude.{codes}
use Rattle.std.specs.List.{flat_map}
use Rattle.egl_judge.specs.Numbers.{outcome_text}
use Rattle.egl_judge.proofs.numbers.put_more_outcomes.Given as goal

abbrev pub invariant-each : goal.invariant-each
invariant-each l = l.out ++ flat_map (λ x. codes "," ++ outcome_text x) (drop l.outcome-index l.outcomes) ≡ l.fn.out ++ flat_map (λ x. codes "," ++ outcome_text x) l.outcomes
