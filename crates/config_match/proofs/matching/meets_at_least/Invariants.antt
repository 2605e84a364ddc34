use Rattle.std.proofs.Common.{◌≡◌, drop, pos}
use Rattle.std.specs.List.{list_all}
use Rattle.config_match.specs.Configs.{wanted, has_at_least}
use Rattle.config_match.proofs.matching.meets_at_least.Given as goal

abbrev pub invariant-loop-name : goal.invariant-loop-name
invariant-loop-name l = list_all (λ name. has_at_least l.config name (wanted l.list name (pos 0))) (drop l.name-index l.names) ≡ list_all (λ name. has_at_least l.config name (wanted l.list name (pos 0))) l.names
