use Rattle.std.proofs.Common.{length}
use Rattle.egl_explain.proofs.source_lines.is_returned.Given as goal

abbrev pub decreases-each : goal.decreases-each
decreases-each l = length l.rest
