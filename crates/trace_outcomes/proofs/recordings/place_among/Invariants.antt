use Rattle.std.proofs.Common.{◌≡◌, ◌+◌, drop}
use Rattle.std.specs.List.{prefix_len}
use Rattle.std.specs.Prelude.{not}
use Rattle.std.specs.Str.{bytes_eq}
use Rattle.trace_outcomes.specs.Outcomes.{key_of}
use Rattle.trace_outcomes.proofs.recordings.place_among.Given as goal

abbrev pub invariant-each : goal.invariant-each
invariant-each l = record {
  place : l.place + prefix_len (λ p. not (bytes_eq (key_of p) (key_of l.outcome))) (drop l.other-index l.found) ≡ prefix_len (λ p. not (bytes_eq (key_of p) (key_of l.outcome))) l.found + 1;
  at : l.place ≡ l.other-index + 1;
}
