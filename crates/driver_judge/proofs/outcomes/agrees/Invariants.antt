use Rattle.std.proofs.Common.{◌≡◌, drop}
use Rattle.std.specs.List.{list_any}
use Rattle.driver_judge.specs.Outcomes.{is_same}
use Rattle.driver_judge.proofs.outcomes.agrees.Given as goal

abbrev pub invariant-each : goal.invariant-each
invariant-each l = list_any (is_same l.found) (drop l.outcome-index l.expected) ≡ list_any (is_same l.found) l.expected
