use Rattle.std.proofs.Common.{◌≡◌, take, length}
use Rattle.trace_reader.specs.Arguments.{padded}
use Rattle.trace_reader.proofs.line_calls.padded.Given as goal

abbrev pub invariant-loop-k : goal.invariant-loop-k
invariant-loop-k l = record {
  value : l.args ≡ padded (take l.k l.front);
  eight : length l.args ≡ 8;
}
