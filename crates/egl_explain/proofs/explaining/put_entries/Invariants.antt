use Rattle.std.proofs.Common.{◌≡◌, drop}
use Rattle.egl_model.specs.History.{replay_from}
use Rattle.egl_explain.proofs.explaining.put_entries.Given as goal

abbrev pub invariant-each : goal.invariant-each
invariant-each g l = record {
  made : l.driver.made ≡ l.fn.driver.made;
  played : replay_from l.driver.state (drop l.entry-index l.entries) ≡ replay_from l.fn.driver.state l.entries;
}
