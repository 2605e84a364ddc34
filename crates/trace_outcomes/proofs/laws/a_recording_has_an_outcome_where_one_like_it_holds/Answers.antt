use Rattle.trace_outcomes.proofs.RecordedLaws.{is_of_one, one_outcome}
use Rattle.trace_outcomes.proofs.laws.a_recording_has_an_outcome_where_one_like_it_holds.Goals as goal

pub returns-clause-sound : goal.returns-clause-sound
returns-clause-sound c t lines o is h = is_of_one t is lines o h

pub returns-clause-complete : goal.returns-clause-complete
returns-clause-complete c t lines others h a = one_outcome t lines others h a
