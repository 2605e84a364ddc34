use Rattle.std.proofs.Common.{◌≡◌, drop, find}
use Rattle.driver_judge.specs.Configs.{is_like}
use Rattle.driver_judge.proofs.configs.ours_like.Given as goal

abbrev pub invariant-each : goal.invariant-each
invariant-each l = find (is_like l.config) (drop l.id-index l.ids) ≡ find (is_like l.config) l.ids
