use Rattle.trace_check.proofs.FrontLaws.{front_other}
use Rattle.trace_check.proofs.laws.no_line_of_a_trace_begins_a_recording.Goals as goal

pub returns : goal.returns
returns c front t h = front_other front t h
