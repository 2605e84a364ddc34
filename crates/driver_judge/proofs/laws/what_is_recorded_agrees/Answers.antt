use Rattle.driver_judge.proofs.RecordLaws.{log_recorded, play_recorded, serial_recorded}
use Rattle.driver_judge.proofs.laws.what_is_recorded_agrees.Goals as goal

pub returns-clause-history : goal.returns-clause-history
returns-clause-history c = log_recorded

pub returns-clause-serial : goal.returns-clause-serial
returns-clause-serial c = serial_recorded

pub returns-clause-play : goal.returns-clause-play
returns-clause-play c = play_recorded
