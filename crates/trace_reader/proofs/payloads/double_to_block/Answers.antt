use Rattle.std.proofs.Common.{arith}
use Rattle.trace_reader.proofs.PayloadLaws.{doubled}
use Rattle.trace_reader.proofs.payloads.double_to_block.Goals as goal

pub doublings-preserved : goal.doublings-preserved
doublings-preserved c = record {
  bytes = doubled c.doublings.times _ _ _ _ c.doublings.invariant.bytes c.doublings.bytes.ok.0 c.in-Ok.ensures.items;
  some = omega arith;
  few = omega arith;
}
