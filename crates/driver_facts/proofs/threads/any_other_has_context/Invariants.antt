use Rattle.std.proofs.Common.{◌≡◌, drop}
use Rattle.std.specs.List.{list_any}
use Rattle.egl_model.specs.Currents.{has_context, others}
use Rattle.driver_facts.proofs.threads.any_other_has_context.Given as goal

-- what passes in the rest passes in all
abbrev pub invariant-each : goal.invariant-each
invariant-each l = list_any (has_context l.object) (drop l.k (others l.records l.thread)) ≡ list_any (has_context l.object) (others l.records l.thread)
