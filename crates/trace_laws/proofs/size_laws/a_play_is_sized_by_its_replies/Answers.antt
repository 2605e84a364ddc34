use Rattle.trace_laws.proofs.SizeLaws.{play_marks, play_sized, play_windows}
use Rattle.trace_laws.proofs.size_laws.a_play_is_sized_by_its_replies.Goals as goal

pub returns-clause-marks : goal.returns-clause-marks
returns-clause-marks c = play_marks

pub returns-clause-windows : goal.returns-clause-windows
returns-clause-windows c = play_windows

pub returns-clause-sized : goal.returns-clause-sized
returns-clause-sized c = play_sized
