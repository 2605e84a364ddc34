use Rattle.std.proofs.Common.{length}
use Rattle.egl_judge.proofs.explaining.lines_of.Given as goal

abbrev pub decreases-each : goal.decreases-each
decreases-each l = length l.rest
