use Rattle.std.proofs.Common.{◌≡◌}
use Rattle.bench.proofs.threads.alone.play_all.Given as goal

abbrev pub invariant-calls : goal.invariant-calls
invariant-calls l = l.driver.made ≡ l.fn.driver.made
