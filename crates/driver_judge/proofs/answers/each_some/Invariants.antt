use Rattle.std.proofs.Common.{◌≡◌, ◌++◌, drop}
use Rattle.driver_judge.specs.Answers.{each_some}
use Rattle.driver_judge.proofs.answers.each_some.Given as goal

abbrev pub invariant-each : goal.invariant-each
invariant-each l = l.found ++ each_some (drop l.item-index l.items) ≡ each_some l.items
