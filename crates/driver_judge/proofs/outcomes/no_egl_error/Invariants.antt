use Rattle.std.proofs.Common.{◌≡◌, drop, map}
use Rattle.log_reader.specs.declared.outcomes.LogOutcome.TheVariants.{Egl}
use Rattle.driver_judge.specs.Outcomes.{are_none, errors_in}
use Rattle.driver_judge.proofs.outcomes.no_egl_error.Given as goal

abbrev pub invariant-each : goal.invariant-each
invariant-each l = are_none (map Egl (errors_in (drop l.error-index l.errors))) ≡ are_none (map Egl (errors_in l.errors))
