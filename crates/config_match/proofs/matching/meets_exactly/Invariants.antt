use Rattle.std.proofs.Common.{◌≡◌, drop}
use Rattle.std.specs.List.{list_all}
use Rattle.config_match.specs.Configs.{wanted, has_exactly}
use Rattle.config_match.proofs.matching.meets_exactly.Given as goal

abbrev pub invariant-loop-entry : goal.invariant-loop-entry
invariant-loop-entry l = list_all (λ e. has_exactly l.config e.0 (wanted l.list e.0 e.1)) (drop l.entry-index l.names) ≡ list_all (λ e. has_exactly l.config e.0 (wanted l.list e.0 e.1)) l.names
