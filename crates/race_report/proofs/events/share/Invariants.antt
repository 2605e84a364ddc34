use Rattle.std.proofs.Common.{◌≡◌, drop}
use Rattle.race_report.specs.Conflicts.{share}
use Rattle.race_report.proofs.events.share.Given as goal

abbrev pub invariant-each : goal.invariant-each
invariant-each l = share (drop l.number-index l.some) l.others ≡ share l.some l.others
