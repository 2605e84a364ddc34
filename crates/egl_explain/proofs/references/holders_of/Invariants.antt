use Rattle.std.proofs.Common.{◌≡◌, ◌++◌, drop}
use Rattle.egl_explain.specs.References.{holders_of}
use Rattle.egl_explain.proofs.references.holders_of.Given as goal

abbrev pub invariant-each : goal.invariant-each
invariant-each l = l.list.items ++ holders_of l.object (drop l.reference-index l.references) ≡ holders_of l.object l.references
