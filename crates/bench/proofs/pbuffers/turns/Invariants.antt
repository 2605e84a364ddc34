use Rattle.std.proofs.Common.{◌≡◌}
use Rattle.bench.proofs.pbuffers.turns.Given as goal

abbrev pub invariant-each : goal.invariant-each
invariant-each l = l.driver.made ≡ l.fn.driver.made
