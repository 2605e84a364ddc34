use Rattle.std.proofs.Common.{◌∙◌, ap}
use Rattle.screen_compose.specs.Changes.{changed_rows}
use Rattle.screen_compose.proofs.ScreenLaws.{few_rows, rows_long}
use Rattle.screen_compose.proofs.screens.Screen.update.Goals as goal

pub recompose-changed-requires-clause-few : goal.recompose-changed-requires-clause-few
recompose-changed-requires-clause-few g c = few_rows _ _ _ _ _ c.self.invariant

pub returns-clause-changed : goal.returns-clause-changed
returns-clause-changed g c = rw (← c.self.view_is) (c.recompose-changed.ensures.count ∙ ap (changed_rows c.self.inside.fronts.layers c.args.fronts.layers) (rows_long _ _ _ _ _ c.self.invariant))
