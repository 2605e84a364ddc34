use Rattle.std.proofs.Common.{arith}
use Rattle.display_table.proofs.RiseLaws.{rise_apart, rise_few}
use Rattle.display_table.proofs.displays.Displays.handles_rise.Goals as goal

pub returns-clause-apart : goal.returns-clause-apart
returns-clause-apart c = rw (← c.self.view_is) (rise_apart 3 _ _ c.rising_in.ensures.rise)

pub returns-clause-few : goal.returns-clause-few
returns-clause-few c =
    let a = rise_few 3 _ _ c.rising_in.ensures.rise in
    let b = c.rising_in.ensures.end in
    rw (← c.self.view_is) (omega (arith, a, b))
