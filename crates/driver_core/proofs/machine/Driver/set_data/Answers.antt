use Rattle.std.proofs.Common.{ap, ◌∙◌}
use Rattle.buffer_objects.specs.Buffers.{BufferValue}
use Rattle.egl_model.specs.Buffers.{target_buffer}
use Rattle.egl_model.specs.State.{State}
use Rattle.driver_core.specs.Uploads.{refilled}
use Rattle.driver_core.proofs.UploadLaws.{data_is}
use Rattle.driver_core.proofs.machine.Driver.set_data.Goals as goal

pub returns-clause-ok : goal.returns-clause-ok
returns-clause-ok c =
    let s = c.args.self.now.state in
    let o = target_buffer s c.args.context c.args.call.now in
    c.put_contents.ensures
    ∙ ap (λ (b : BufferValue). record c.args.self.now { state = refilled b o s }) c.in_ok-contents.ensures
    ∙ ap (λ (x : State). record c.args.self.now { state = x }) (data_is c.args.call.now o s)
