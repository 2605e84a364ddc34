use Rattle.std.proofs.Common.{◌≡◌, drop}
use Rattle.std.specs.List.{list_any}
use Rattle.egl_model.specs.Currents.{has_surface, others}
use Rattle.driver_facts.proofs.threads.any_other_has_surface.Given as goal

-- what passes in the rest passes in all
abbrev pub invariant-each : goal.invariant-each
invariant-each l = list_any (has_surface l.object) (drop l.k (others l.records l.thread)) ≡ list_any (has_surface l.object) (others l.records l.thread)
