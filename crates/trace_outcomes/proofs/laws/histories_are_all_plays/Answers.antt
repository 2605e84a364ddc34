use Rattle.trace_outcomes.proofs.DistinctLaws.{no_two_same}
use Rattle.trace_outcomes.proofs.PlayLaws.{each_plays, each_is_among}
use Rattle.trace_outcomes.proofs.laws.histories_are_all_plays.Goals as goal

pub returns-clause-sound : goal.returns-clause-sound
returns-clause-sound c t journal is h = each_plays t is journal h

pub returns-clause-complete : goal.returns-clause-complete
returns-clause-complete c t journal is h = each_is_among t is journal h

pub returns-clause-once : goal.returns-clause-once
returns-clause-once c t = no_two_same t
