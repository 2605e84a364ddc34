use Rattle.std.proofs.Common.{◌≡◌, ◌++◌, drop}
use Rattle.race_report.specs.Events.{events_in}
use Rattle.race_report.specs.Replays.{touched_from}
use Rattle.race_report.proofs.journals.events_of.Given as goal

abbrev pub invariant-each : goal.invariant-each
invariant-each l = record {
  made : l.driver.made ≡ l.fn.driver.made;
  events :
      l.events.items ++ events_in l.lines l.entries (drop l.entry-index l.entries) (touched_from l.driver.state (drop l.entry-index l.entries))
      ≡ events_in l.lines l.entries l.entries (touched_from l.fn.driver.state l.entries);
}
