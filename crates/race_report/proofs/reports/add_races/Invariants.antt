use Rattle.std.proofs.Common.{ℕ, ◌+◌, ◌<◌, ◌≤◌, length, get_or}
use Rattle.race_report.specs.Found.{IsFound}
use Rattle.race_report.proofs.reports.add_races.Given as goal

abbrev pub invariant-each : goal.invariant-each
invariant-each l = record {
  found : IsFound l.events l.pairs l.first (l.behind + 1);
  behind : l.first ≤ l.behind;
  within : l.behind < length l.events;
  tried : (k : ℕ) → k < l.second-index → get_or l.seconds k 0 ≤ l.behind;
}
