use Rattle.screen_compose.proofs.ScreenLaws.{bare_screen, shows_nothing}
use Rattle.screen_compose.proofs.screens.Screen.new.Goals as goal

pub returns-in_err-list_of-clause-black : goal.returns-in_err-list_of-clause-black
returns-in_err-list_of-clause-black c = bare_screen c.args.placed.now c.args.w c.args.h

pub returns-in_err-none-clause-black : goal.returns-in_err-none-clause-black
returns-in_err-none-clause-black c = bare_screen c.args.placed.now c.args.w c.args.h

pub returns-in_err-black_rows-clause-black : goal.returns-in_err-black_rows-clause-black
returns-in_err-black_rows-clause-black c = bare_screen c.args.placed.now c.args.w c.args.h

pub returns-clause-black : goal.returns-clause-black
returns-clause-black c = bare_screen c.args.placed.now c.args.w c.args.h

pub invariant_of-result : goal.invariant_of-result
invariant_of-result c = shows_nothing _ _ _ _ _ _ c.requires c.in_ok-list_of.ensures c.in_ok-none.ensures c.in_ok-black_rows.ensures
