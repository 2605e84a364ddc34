use Rattle.egl_cli.proofs.HeldLaws.{recording_holds}
use Rattle.egl_cli.proofs.laws.a_recording_behind_its_trace_holds.Goals as goal

pub returns : goal.returns
returns c front t journal h is p e sized short = recording_holds front t journal h is p e sized short
