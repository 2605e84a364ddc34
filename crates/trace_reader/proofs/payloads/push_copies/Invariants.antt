use Rattle.std.proofs.Common.{◌≡◌, ◌++◌}
use Rattle.trace_reader.specs.Payloads.{repeated}
use Rattle.trace_reader.proofs.payloads.push_copies.Given as goal

abbrev pub invariant-copies : goal.invariant-copies
invariant-copies l = l.to ≡ l.initial.to ++ repeated l.counter l.bytes
