use Rattle.std.proofs.Common.{◌≡◌, ◌++◌, drop}
use Rattle.std.specs.Prelude.{codes, decimal}
use Rattle.std.specs.List.{flat_map}
use Rattle.egl_outcomes.proofs.texts.put_numbers.Given as goal

abbrev pub invariant-each : goal.invariant-each
invariant-each l = l.out ++ flat_map (λ n. codes " " ++ decimal n) (drop l.number-index l.numbers) ≡ l.fn.out ++ flat_map (λ n. codes " " ++ decimal n) l.numbers
