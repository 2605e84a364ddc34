use Rattle.std.proofs.Common.{◌≡◌, ◌++◌, drop}
use Rattle.std.specs.Prelude.{codes}
use Rattle.std.specs.List.{flat_map}
use Rattle.egl_cli.specs.ConfigLines.{attribute_text}
use Rattle.egl_cli.proofs.config_lines.put_attributes.Given as goal

abbrev pub invariant-each : goal.invariant-each
invariant-each l = l.out ++ flat_map (λ name. codes " " ++ attribute_text l.id name) (drop l.name-index l.names) ≡ l.fn.out ++ flat_map (λ name. codes " " ++ attribute_text l.id name) l.names
