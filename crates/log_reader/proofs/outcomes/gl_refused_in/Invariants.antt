use Rattle.std.proofs.Common.{◌≡◌, drop}
use Rattle.std.specs.Prelude.{◌==◌, find}
use Rattle.egl_calls.specs.Errors.{gl_code}
use Rattle.log_reader.proofs.outcomes.gl_refused_in.Given as goal

abbrev pub invariant-each : goal.invariant-each
invariant-each l = find (λ e. gl_code e == l.code) (drop l.error-index l.errors) ≡ find (λ e. gl_code e == l.code) l.errors
