use Rattle.std.proofs.Common.{◌≡◌, ◌++◌, drop}
use Rattle.std.specs.List.{flat_map}
use Rattle.scene_trace.specs.Lines.{call_line}
use Rattle.scene_trace.proofs.writing.put_lines.Given as goal

abbrev pub invariant-each : goal.invariant-each
invariant-each l = l.out ++ flat_map call_line (drop l.call-index l.calls) ≡ l.fn.out ++ flat_map call_line l.calls
