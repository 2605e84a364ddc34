use Rattle.std.proofs.Common.{sym, ap, ◌∙◌}
use Rattle.driver_core.specs.Contents.{below}
use Rattle.driver_core.specs.Machine.{Machine}
use Rattle.driver_core.proofs.ContentsLaws.{next_below}
use Rattle.driver_core.proofs.machine.Driver.handles.Goals as goal

pub numbers-preserved : goal.numbers-preserved
numbers-preserved c =
    let so_far = c.numbers.invariant ∙ ap (λ (m : Machine). below c.numbers.number m.state.handles) (sym c.self.view_is) in
    rw (← c.self.view_is) (next_below c.numbers.number _ c.self.inside.tables.displays.handles c.handle_numbered.result c.numbers.list.items c.push_found.new.list.items c.handles_rise.ensures.rise c.handle_numbered.ensures c.in_ok-push_found.ensures so_far)
