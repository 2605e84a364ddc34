use Rattle.std.proofs.Common.{◌≡◌, ◌++◌, ◌&&◌, length, drop}
use Rattle.std.specs.Prelude.{All}
use Rattle.std.specs.List.{list_all}
use Rattle.trace_reader.specs.Arguments.{is_known, item_references}
use Rattle.trace_reader.specs.Lists.{comma_parts, items}
use Rattle.trace_reader.specs.Order.{LeadsToOne}
use Rattle.trace_reader.proofs.uses.push_items.Given as goal

abbrev pub invariant-items : goal.invariant-items
invariant-items l = record {
  added : l.uses ++ item_references l.variables l.place (drop (length l.yielded) (comma_parts l.text)) ≡ l.initial.uses ++ item_references l.variables 0 (items l.text);
  known : l.known && list_all (is_known l.variables) (drop (length l.yielded) (comma_parts l.text)) ≡ list_all (is_known l.variables) (items l.text);
  all : All (LeadsToOne (length l.variables)) l.initial.uses → All (LeadsToOne (length l.variables)) l.uses;
}
