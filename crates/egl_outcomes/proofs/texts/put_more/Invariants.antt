use Rattle.std.proofs.Common.{◌≡◌, ◌++◌, drop}
use Rattle.std.specs.Prelude.{codes}
use Rattle.std.specs.List.{flat_map}
use Rattle.egl_outcomes.proofs.texts.put_more.Given as goal

abbrev pub invariant-each : goal.invariant-each
invariant-each l = l.out ++ flat_map (λ y. codes " | " ++ y) (drop l.text-index l.texts) ≡ l.fn.out ++ flat_map (λ y. codes " | " ++ y) l.texts
