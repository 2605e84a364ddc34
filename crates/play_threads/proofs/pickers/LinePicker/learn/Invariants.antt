use Rattle.std.proofs.Common.{◌≡◌, ◌-◌, length}
use Rattle.shared_driver.specs.Cores.{of_number}
use Rattle.play_threads.specs.Picks.{HasLearnt}
use Rattle.play_threads.proofs.pickers.LinePicker.learn.Given as goal

abbrev pub invariant-each : goal.invariant-each
invariant-each l = record {
  thread : l.self.thread ≡ l.fn.self.thread;
  trace : l.self.session.trace ≡ l.fn.self.session.trace;
  told : (l.self.answered ≡ l.fn.self.answered) × (l.self.asked ≡ l.fn.self.asked);
  learnt : HasLearnt l.self (of_number l.fn.self.thread l.journal.entries) l.journal.entries;
}

abbrev pub decreases-each : goal.decreases-each
decreases-each l = length l.journal.entries - l.self.learnt
