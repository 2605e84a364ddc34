use Rattle.std.proofs.Common.{◌≡◌, drop}
use Rattle.std.specs.Prelude.{fold}
use Rattle.egl_outcomes.specs.Columns.{with_text, rests_of}
use Rattle.egl_outcomes.proofs.columns.rests_of.Given as goal

abbrev pub invariant-each : goal.invariant-each
invariant-each l = fold (λ texts o. with_text texts o.rest) l.texts.items (drop l.outcome-index l.outcomes) ≡ rests_of l.outcomes
