use Rattle.std.proofs.Common.{◌≡◌, drop}
use Rattle.scene_reader.specs.Items.{atlas_with}
use Rattle.scene_reader.proofs.placing.atlas_with.Given as goal

abbrev pub invariant-each : goal.invariant-each
invariant-each l = atlas_with (drop l.item-index l.items) l.id ≡ atlas_with l.items l.id
