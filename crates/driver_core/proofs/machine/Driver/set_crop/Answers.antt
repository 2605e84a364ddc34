use Rattle.driver_core.proofs.LevelLaws.{crop_four}
use Rattle.driver_core.proofs.machine.Driver.set_crop.Goals as goal

pub set_crop_of-requires : goal.set_crop_of-requires
set_crop_of-requires c = crop_four c.args.self.now.state c.args.thread c.args.context c.args.call.now c.requires.kind c.requires.allowed
