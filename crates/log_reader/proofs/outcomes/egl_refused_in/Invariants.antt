use Rattle.std.proofs.Common.{◌≡◌, drop}
use Rattle.std.specs.Prelude.{◌==◌, find}
use Rattle.egl_calls.specs.Errors.{egl_code}
use Rattle.log_reader.proofs.outcomes.egl_refused_in.Given as goal

abbrev pub invariant-each : goal.invariant-each
invariant-each l = find (λ e. egl_code e == l.code) (drop l.error-index l.errors) ≡ find (λ e. egl_code e == l.code) l.errors
