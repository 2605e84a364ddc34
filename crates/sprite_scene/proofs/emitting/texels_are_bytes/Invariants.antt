use Rattle.std.proofs.Common.{take}
use Rattle.std.specs.Prelude.{All}
use Rattle.sprite_scene.specs.Parts.{HasBytes}
use Rattle.sprite_scene.proofs.emitting.texels_are_bytes.Given as goal

abbrev pub invariant-each : goal.invariant-each
invariant-each l = All HasBytes (take l.item-index l.items)
