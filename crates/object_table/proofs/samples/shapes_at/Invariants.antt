use Rattle.std.proofs.Common.{◌≡◌, ◌<◌, ℕ, get_or, length, None}
use Rattle.object_table.specs.Samples.{shape_by, stored_in}
use Rattle.object_table.proofs.samples.shapes_at.Given as goal

-- the levels so far have their shapes
abbrev pub invariant-levels : goal.invariant-levels
invariant-levels l = record {
  long : length l.shapes ≡ 11;
  each : (j : ℕ) → j < l.k → get_or l.shapes j None ≡ shape_by (stored_in l.store.nodes) (get_or l.levels j None);
}
