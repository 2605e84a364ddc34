use Rattle.std.proofs.Common.{◌≡◌, drop}
use Rattle.screen_compose.specs.Changes.{is_changed}
use Rattle.screen_compose.proofs.layers.is_changed.Given as goal

abbrev pub invariant-each : goal.invariant-each
invariant-each l = is_changed (drop l.k l.olds) (drop l.k l.news) l.y ≡ is_changed l.olds l.news l.y
