use Rattle.std.proofs.Common.{◌≡◌, ◌+◌, ◌-◌, ◌≤◌, length, take, vec_capacity, vec_len}
use Rattle.thread_part.proofs.replies.copied.Given as goal

abbrev pub invariant-each : goal.invariant-each
invariant-each l = record {
  items : l.copy.items ≡ take l.k l.numbers;
  room : length l.numbers ≤ (vec_capacity l.copy - vec_len l.copy) + l.k;
}
