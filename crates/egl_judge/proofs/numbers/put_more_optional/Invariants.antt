use Rattle.std.proofs.Common.{◌≡◌, ◌++◌, drop}
use Rattle.std.specs.Prelude.{codes}
use Rattle.std.specs.List.{flat_map}
use Rattle.egl_judge.specs.Numbers.{optional_text}
use Rattle.egl_judge.proofs.numbers.put_more_optional.Given as goal

abbrev pub invariant-each : goal.invariant-each
invariant-each l = l.out ++ flat_map (λ x. codes "," ++ optional_text x) (drop l.z-index l.numbers) ≡ l.fn.out ++ flat_map (λ x. codes "," ++ optional_text x) l.numbers
