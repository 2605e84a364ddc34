use Rattle.std.proofs.Common.{◌≡◌, ◌++◌, drop, map}
use Rattle.driver_objects.specs.Objects.{edges_of}
use Rattle.egl_explain.specs.References.{name_reference}
use Rattle.egl_explain.proofs.references.push_names.Given as goal

abbrev pub invariant-each : goal.invariant-each
invariant-each l = l.list.items ++ map (name_reference l.number) (drop l.k (edges_of l.group)) ≡ l.fn.list.items ++ map (name_reference l.number) (edges_of l.group)
