use Rattle.std.proofs.Common.{◌≡◌, drop}
use Rattle.std.specs.Prelude.{fold}
use Rattle.trace_outcomes.specs.Outcomes.{answer_at}
use Rattle.egl_outcomes.specs.Columns.{with_text, answers_at}
use Rattle.egl_outcomes.proofs.columns.answers_at.Given as goal

abbrev pub invariant-each : goal.invariant-each
invariant-each l = fold (λ texts o. with_text texts (answer_at o l.place)) l.texts.items (drop l.outcome-index l.outcomes) ≡ answers_at l.outcomes l.place
