use Rattle.std.proofs.Common.{◌≡◌, drop}
use Rattle.std.specs.List.{list_any}
use Rattle.egl_model.specs.Contexts.{draws_with}
use Rattle.driver_facts.proofs.threads.any_draws_with.Given as goal

-- what passes in the rest passes in all
abbrev pub invariant-each : goal.invariant-each
invariant-each l = list_any (draws_with l.object) (drop l.kept-index l.records) ≡ list_any (draws_with l.object) l.records
