use Rattle.std.proofs.Common.{◌≡◌, ◌+◌, ◌≤◌}
use Rattle.egl_model.specs.Objects.{change_texture}
use Rattle.object_table.specs.Links.{IsLeft}
use Rattle.object_table.specs.Sources.{emptied}
use Rattle.object_table.specs.Tables.{weight_of}
use Rattle.object_table.proofs.table.ObjectTable.drop_levels.Given as goal

-- the levels so far have lost their storages
abbrev pub invariant-each : goal.invariant-each
invariant-each g l = record {
  few : l.k ≤ 10;
  left : IsLeft (change_texture (emptied l.k) l.n l.fn.self.objects) l.self.objects;
  holds : l.self.holds ≡ l.fn.self.holds;
  steps : l.steps + weight_of l.self.objects ≤ l.fn.steps + weight_of l.fn.self.objects;
}
