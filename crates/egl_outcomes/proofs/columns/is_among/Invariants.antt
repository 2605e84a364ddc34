use Rattle.std.proofs.Common.{◌≡◌, drop}
use Rattle.trace_outcomes.specs.Outcomes.{is_among}
use Rattle.egl_outcomes.proofs.columns.is_among.Given as goal

abbrev pub invariant-each : goal.invariant-each
invariant-each l = is_among (drop l.other-index l.texts) l.text ≡ is_among l.texts l.text
