use Rattle.std.proofs.Common.{◌≡◌, ◌+◌, ◌≤◌, ◌++◌, length}
use Rattle.std.specs.VecDeque.{deque_capacity, deque_len}
use Rattle.shared_driver.proofs.cores.move_entries.Given as goal

abbrev pub invariant-moving : goal.invariant-moving
invariant-moving l = record {
  entries : l.journal.entries ++ l.tail.items ≡ l.fn.journal.entries ++ l.fn.tail.items;
  spare : l.journal.spare + length l.fn.tail.items ≡ l.fn.journal.spare + length l.tail.items;
  room : length l.tail.items ≤ l.journal.spare;
  capacity : deque_capacity l.tail ≡ deque_capacity l.fn.tail;
}

abbrev pub decreases-moving : goal.decreases-moving
decreases-moving l = deque_len l.tail
