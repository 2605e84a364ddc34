use Rattle.std.proofs.Common.{◌≡◌}
use Rattle.bench.proofs.exhausted.play_lines.Given as goal

abbrev pub invariant-lines : goal.invariant-lines
invariant-lines l = l.driver.made ≡ l.fn.driver.made
