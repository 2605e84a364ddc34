use Rattle.std.proofs.Common.{sym, ◌∙◌}
use Rattle.texture_objects.specs.Levels.{are_enough}
use Rattle.texture_objects.proofs.GreatestLaws.{tries-failed, tries-from, tries-passed}
use Rattle.texture_objects.proofs.levels.greatest_level.Goals as goal
use Rattle.texture_objects.proofs.levels.greatest_level.Goals.{then-are_enough, else-are_enough}

pub levels-init : goal.levels-init
levels-init c = tries-from (are_enough c.args.cut c.args.drawn)

pub levels-preserved : goal.levels-preserved
levels-preserved c = elim c.if-are_enough.branch [
  | then-are_enough w ↦ w.level-is ∙ tries-passed (are_enough c.args.cut c.args.drawn) c.levels.k c.levels.auto.k (sym c.are_enough.ensures ∙ w.if-are_enough.true)
  | else-are_enough w ↦ w.level-is ∙ tries-failed (are_enough c.args.cut c.args.drawn) c.levels.k c.levels.level c.levels.auto.k (sym c.are_enough.ensures ∙ w.if-are_enough.false) c.levels.invariant
]
