use Rattle.std.proofs.Common.{◌≡◌, ◌++◌, drop}
use Rattle.egl_explain.specs.References.{level_references}
use Rattle.egl_explain.proofs.references.push_levels.Given as goal

abbrev pub invariant-each : goal.invariant-each
invariant-each l = record {
  left : l.list.items ++ level_references l.number l.place (drop l.level-index l.levels) ≡ l.fn.list.items ++ level_references l.number 0 l.levels;
  place : l.place ≡ l.level-index;
}
