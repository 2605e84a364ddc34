use Rattle.std.proofs.Common.{◌≡◌, drop}
use Rattle.egl_calls.specs.Ranges.{AreArguments}
use Rattle.egl_calls.specs.declared.kinds.Kind.{Kind}
use Rattle.trace_model.specs.Resolve.{put_arguments}
use Rattle.driver_judge.specs.Variables.{stands_for}
use Rattle.driver_judge.proofs.variables.put_arguments.Given as goal

abbrev pub invariant-each : goal.invariant-each
invariant-each l = record {
  value : put_arguments (stands_for l.variables) l.put (drop l.reference-index l.uses) ≡ put_arguments (stands_for l.variables) l.args l.uses;
  fit : (kind : Kind) → AreArguments kind 0 l.args → AreArguments kind 0 l.put;
}
