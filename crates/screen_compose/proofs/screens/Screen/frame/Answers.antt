use Rattle.screen_compose.proofs.ScreenLaws.{few_bytes}
use Rattle.screen_compose.proofs.screens.Screen.frame.Goals as goal

pub returns-clause-few : goal.returns-clause-few
returns-clause-few c = rw (← c.self.view_is) (few_bytes _ _ _ _ _ c.self.invariant)

pub returns-in_err-picture-clause-few : goal.returns-in_err-picture-clause-few
returns-in_err-picture-clause-few c = rw (← c.self.view_is) (few_bytes _ _ _ _ _ c.self.invariant)
