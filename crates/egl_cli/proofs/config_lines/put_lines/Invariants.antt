use Rattle.std.proofs.Common.{◌≡◌, ◌++◌, drop}
use Rattle.std.specs.List.{flat_map}
use Rattle.egl_cli.specs.ConfigLines.{line_with_id}
use Rattle.egl_cli.proofs.config_lines.put_lines.Given as goal

abbrev pub invariant-each : goal.invariant-each
invariant-each l = l.out ++ flat_map (line_with_id) (drop l.id-index l.ids) ≡ l.fn.out ++ flat_map (line_with_id) l.ids
