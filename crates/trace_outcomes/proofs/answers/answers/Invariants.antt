use Rattle.std.proofs.Common.{◌≡◌, ◌++◌, drop, map}
use Rattle.trace_outcomes.specs.Outcomes.{answer_text}
use Rattle.trace_outcomes.proofs.answers.answers.Given as goal

abbrev pub invariant-each : goal.invariant-each
invariant-each l = l.texts.items ++ map (answer_text l.lines l.entries) (drop l.line-index l.lines) ≡ map (answer_text l.lines l.entries) l.lines
