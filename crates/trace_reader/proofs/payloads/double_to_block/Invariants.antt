use Rattle.std.proofs.Common.{◌≡◌, ◌-◌, ◌<◌, ◌≤◌}
use Rattle.trace_reader.specs.Payloads.{repeated}
use Rattle.trace_reader.proofs.payloads.double_to_block.Given as goal

abbrev pub invariant-doublings : goal.invariant-doublings
invariant-doublings l = record {
  bytes : l.bytes.items ≡ repeated l.times l.initial.bytes.items;
  some : 0 < l.times;
  few : l.times ≤ l.count;
}

abbrev pub decreases-doublings : goal.decreases-doublings
decreases-doublings l = l.count - l.times
