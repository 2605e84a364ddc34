use Rattle.std.proofs.Common.{◌≡◌, ◌+◌, drop}
use Rattle.std.specs.List.{prefix_len}
use Rattle.std.specs.Prelude.{is_some}
use Rattle.trace_outcomes.proofs.recordings.entry_count.Given as goal

abbrev pub invariant-each : goal.invariant-each
invariant-each l = record {
  count : l.count + prefix_len (λ x. is_some x.thread) (drop l.line-index l.lines) ≡ prefix_len (λ x. is_some x.thread) l.lines;
  at : l.count ≡ l.line-index;
}
