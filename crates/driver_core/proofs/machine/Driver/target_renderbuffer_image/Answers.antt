use Rattle.std.proofs.Common.{sym, ◌∙◌}
use Rattle.driver_facts.proofs.ImageLaws.{image_stored}
use Rattle.driver_core.proofs.machine.Driver.target_renderbuffer_image.Goals as goal

pub share_with_renderbuffer-requires : goal.share_with_renderbuffer-requires
share_with_renderbuffer-requires g c = image_stored c.args.self.now.state c.args.thread c.args.context c.args.call.now c.in-Some.image c.requires.kind c.requires.allowed (rw (← c.self.view_is) (sym c.target_image.ensures.value ∙ c.in-Some.is))
