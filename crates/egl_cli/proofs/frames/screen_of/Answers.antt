use Rattle.std.proofs.Common.{◌∙◌, List, ap}
use Rattle.screen_compose.specs.Placing.{screen_ok}
use Rattle.screen_compose.specs.declared.placed.Placed.{Placed}
use Rattle.egl_cli.proofs.StackLaws.{stacked_ok}
use Rattle.egl_cli.proofs.frames.screen_of.Goals as goal

pub new-requires : goal.new-requires
new-requires c =
    let w = c.args.width in
    let h = c.args.height in
    ap (λ (list : List Placed). screen_ok w h list) (c.deref.ensures.value ∙ c.in_ok-placed.ensures) ∙ stacked_ok w h c.windows.result.now c.requires.wide.0 c.requires.wide.1 c.requires.high.0 c.requires.high.1 c.windows.ensures.distinct
