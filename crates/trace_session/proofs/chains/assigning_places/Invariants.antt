use Rattle.std.proofs.Common.{◌≡◌, ◌++◌, drop}
use Rattle.trace_session.specs.Chains.{assigning_from}
use Rattle.trace_session.proofs.chains.assigning_places.Given as goal

abbrev pub invariant-each : goal.invariant-each
invariant-each l = l.places.items ++ assigning_from l.place (drop l.place l.lines) ≡ assigning_from 0 l.lines
