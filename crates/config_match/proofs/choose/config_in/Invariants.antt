use Rattle.std.proofs.Common.{◌≡◌, drop}
use Rattle.config_match.specs.Table.{config_in}
use Rattle.config_match.proofs.choose.config_in.Given as goal

abbrev pub invariant-loop-config : goal.invariant-loop-config
invariant-loop-config l = config_in (drop l.config-index l.rows) l.id ≡ config_in l.rows l.id
