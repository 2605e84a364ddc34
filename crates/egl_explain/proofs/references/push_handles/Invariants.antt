use Rattle.std.proofs.Common.{◌≡◌, ◌++◌, drop, map}
use Rattle.egl_explain.specs.References.{handle_reference}
use Rattle.egl_explain.proofs.references.push_handles.Given as goal

abbrev pub invariant-each : goal.invariant-each
invariant-each l = l.list.items ++ map handle_reference (drop l.handle-index l.handles) ≡ l.fn.list.items ++ map handle_reference l.handles
