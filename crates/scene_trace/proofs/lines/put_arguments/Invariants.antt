use Rattle.std.proofs.Common.{◌≡◌, ◌≤◌, ◌++◌, drop}
use Rattle.std.specs.List.{flat_map}
use Rattle.scene_trace.specs.Lines.{argument_words, place_behind_all, spaced}
use Rattle.scene_trace.proofs.lines.put_arguments.Given as goal

abbrev pub invariant-each : goal.invariant-each
invariant-each l = record {
  text : l.out ++ flat_map spaced (argument_words l.place (drop l.form-index l.forms) l.call) ≡ l.fn.out ++ flat_map spaced (argument_words 0 l.forms l.call);
  room : place_behind_all l.place (drop l.form-index l.forms) ≤ 8;
}
