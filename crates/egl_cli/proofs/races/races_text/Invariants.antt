use Rattle.std.proofs.Common.{◌≡◌, ◌++◌, drop, length}
use Rattle.std.specs.Prelude.{codes, decimal}
use Rattle.std.specs.List.{flat_map}
use Rattle.egl_cli.specs.RaceLines.{race_line}
use Rattle.egl_cli.proofs.races.races_text.Given as goal

abbrev pub invariant-each : goal.invariant-each
invariant-each l = l.out ++ flat_map (race_line l.entries) (drop l.pair-index l.pairs) ≡ codes "races " ++ decimal (length l.pairs) ++ codes "\n" ++ flat_map (race_line l.entries) l.pairs
