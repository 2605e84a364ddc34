use Rattle.std.proofs.Common.{◌≡◌, ◌++◌, drop}
use Rattle.egl_explain.specs.References.{object_references}
use Rattle.egl_explain.proofs.references.push_objects.Given as goal

abbrev pub invariant-each : goal.invariant-each
invariant-each l = l.list.items ++ object_references l.number (drop l.number l.driver.state.objects) ≡ l.fn.list.items ++ object_references 0 l.driver.state.objects
