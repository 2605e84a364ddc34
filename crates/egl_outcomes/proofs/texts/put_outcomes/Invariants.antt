use Rattle.std.proofs.Common.{◌≡◌, ◌++◌, ◌+◌, drop}
use Rattle.egl_outcomes.specs.Texts.{outcome_texts}
use Rattle.egl_outcomes.proofs.texts.put_outcomes.Given as goal

abbrev pub invariant-each : goal.invariant-each
invariant-each l = record {
  place : l.place ≡ l.outcome-index + 1;
  put : l.out ++ outcome_texts l.several l.columns l.place (drop l.outcome-index l.outcomes) ≡ l.fn.out ++ outcome_texts l.several l.columns 1 l.outcomes;
}
