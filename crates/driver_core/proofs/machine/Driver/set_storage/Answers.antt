use Rattle.driver_core.proofs.RenderbufferLaws.{few_sides, internal_format}
use Rattle.driver_core.proofs.machine.Driver.set_storage.Goals as goal

pub new_pixels-requires : goal.new_pixels-requires
new_pixels-requires g c = record {
  format = internal_format c.args.self.now.state c.args.thread c.args.context c.args.call.now c.requires.kind c.requires.allowed;
  sides = few_sides c.args.self.now.state c.args.thread c.args.context c.args.call.now c.requires.kind c.requires.allowed;
}
