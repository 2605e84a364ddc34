use Rattle.std.proofs.Common.{◌≡◌, ◌++◌, drop}
use Rattle.egl_outcomes.specs.Texts.{differing_lines}
use Rattle.egl_outcomes.proofs.texts.put_all_differing.Given as goal

abbrev pub invariant-each : goal.invariant-each
invariant-each l = l.out ++ differing_lines l.outcome l.place (drop l.place l.columns) ≡ l.fn.out ++ differing_lines l.outcome 0 l.columns
