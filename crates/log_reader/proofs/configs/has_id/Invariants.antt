use Rattle.std.proofs.Common.{◌≡◌, drop}
use Rattle.std.specs.List.{list_any}
use Rattle.log_reader.specs.Configs.{has_id}
use Rattle.log_reader.proofs.configs.has_id.Given as goal

abbrev pub invariant-each : goal.invariant-each
invariant-each l = list_any (has_id l.id) (drop l.config-index l.configs) ≡ list_any (has_id l.id) l.configs
