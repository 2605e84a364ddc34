use Rattle.std.proofs.Common.{◌≡◌, ◌++◌, [], drop, take}
use Rattle.sprite_scene.specs.Calls.{calls_from}
use Rattle.sprite_scene.proofs.emitting.push_items.Given as goal

abbrev pub invariant-each : goal.invariant-each
invariant-each l = l.calls ++ calls_from l.scene.width l.scene.height (take l.k l.items) (drop l.k l.items) ≡ l.fn.calls ++ calls_from l.scene.width l.scene.height [] l.items
