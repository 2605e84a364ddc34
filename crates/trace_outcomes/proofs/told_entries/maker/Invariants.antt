use Rattle.std.proofs.Common.{◌≡◌, drop}
use Rattle.std.specs.Prelude.{find}
use Rattle.journal_text.specs.Recorded.{parts}
use Rattle.trace_outcomes.specs.Recordings.{says_made}
use Rattle.trace_outcomes.proofs.told_entries.maker.Given as goal

abbrev pub invariant-each : goal.invariant-each
invariant-each l = find (λ x. says_made l.lines l.handle (parts x.text)) (drop l.entry-index l.entries) ≡ find (λ x. says_made l.lines l.handle (parts x.text)) l.entries
