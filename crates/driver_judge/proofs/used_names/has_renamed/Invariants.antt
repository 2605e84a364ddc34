use Rattle.std.proofs.Common.{◌≡◌, drop}
use Rattle.std.specs.List.{list_any}
use Rattle.driver_judge.specs.UsedNames.{is_renamed_in}
use Rattle.driver_judge.proofs.used_names.has_renamed.Given as goal

abbrev pub invariant-each : goal.invariant-each
invariant-each l = list_any (is_renamed_in l.names l.group l.kind) (drop l.item-index l.items) ≡ list_any (is_renamed_in l.names l.group l.kind) l.items
