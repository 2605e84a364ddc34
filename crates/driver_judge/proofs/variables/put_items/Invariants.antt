use Rattle.std.proofs.Common.{◌≡◌, drop}
use Rattle.std.specs.Prelude.{All}
use Rattle.egl_calls.specs.Ranges.{IsNumber}
use Rattle.trace_model.specs.Resolve.{put_items}
use Rattle.driver_judge.specs.Variables.{stands_for}
use Rattle.driver_judge.proofs.variables.put_items.Given as goal

abbrev pub invariant-each : goal.invariant-each
invariant-each l = record {
  value : put_items (stands_for l.variables) l.list.items (drop l.reference-index l.uses) ≡ put_items (stands_for l.variables) l.fn.list.items l.uses;
  numbers : All IsNumber l.list.items;
}
