use Rattle.std.proofs.Common.{◌≡◌, ◌++◌, drop}
use Rattle.std.specs.List.{flat_map}
use Rattle.egl_outcomes.specs.Texts.{column_text}
use Rattle.egl_outcomes.proofs.texts.put_columns.Given as goal

abbrev pub invariant-each : goal.invariant-each
invariant-each l = l.out ++ flat_map column_text (drop l.column-index l.columns) ≡ l.fn.out ++ flat_map column_text l.columns
