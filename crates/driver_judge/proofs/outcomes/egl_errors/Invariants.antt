use Rattle.std.proofs.Common.{◌≡◌, [], drop, map}
use Rattle.std.specs.Prelude.{fold}
use Rattle.log_reader.specs.declared.outcomes.LogOutcome.TheVariants.{Egl}
use Rattle.driver_judge.specs.Outcomes.{errors_in, with_outcome}
use Rattle.driver_judge.proofs.outcomes.egl_errors.Given as goal

abbrev pub invariant-each : goal.invariant-each
invariant-each l = fold with_outcome l.found (map Egl (errors_in (drop l.error-index l.errors))) ≡ fold with_outcome [] (map Egl (errors_in l.errors))
