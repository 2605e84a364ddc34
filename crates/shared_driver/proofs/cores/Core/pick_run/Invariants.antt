use Rattle.std.proofs.Common.{◌≡◌, ◌≤◌, ◌+◌, [], ℕ}
use Rattle.std.specs.Prelude.{slice_index, slice_set}
use Rattle.std.specs.VecDeque.{deque_capacity}
use Rattle.shared_driver.specs.Cores.{owed}
use Rattle.shared_driver.specs.Runs.{AreRounds}
use Rattle.shared_driver.proofs.cores.Core.pick_run.Given as goal

abbrev pub invariant-rounds : goal.invariant-rounds
invariant-rounds g l = record {
  rounds : (k : ℕ) × (k + 1 ≡ l._round) × AreRounds g.P.Picker.picks g.P.Runner.told l.fn.number k l.fn.self l.fn.picker l.self l.picker;
  few : l._round ≤ 64;
  made : l.self.driver.made ≡ l.fn.self.driver.made;
  rooms : l.self.rooms.items ≡ slice_set l.fn.self.rooms.items l.fn.number (slice_index l.fn.self.rooms.items l.fn.number + l.given);
  given : l.given ≤ l.fn.back;
  tail : l.tail.items ≡ [];
  capacity : deque_capacity l.tail ≡ deque_capacity l.fn.tail;
  tokens : l.self.tokens ≡ l.fn.self.tokens;
  owed : l.self.promised ≡ owed l.self.rooms.items;
  spare : l.self.promised ≤ l.self.journal.spare;
}
