use Rattle.std.proofs.Common.{◌≡◌, drop}
use Rattle.std.specs.Prelude.{option_copied}
use Rattle.std.specs.Option.{option_or}
use Rattle.trace_model.specs.Resolve.{answer_of}
use Rattle.trace_outcomes.proofs.answers.answer_of.Given as goal

abbrev pub invariant-each : goal.invariant-each
invariant-each l = option_or (answer_of (drop l.entry-index l.entries) l.thread l.number) (option_copied l.found) ≡ answer_of l.entries l.thread l.number
