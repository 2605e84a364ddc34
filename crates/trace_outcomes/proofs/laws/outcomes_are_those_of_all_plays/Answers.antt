use Rattle.trace_outcomes.proofs.OutcomeLaws.{sound, complete, once, rise}
use Rattle.trace_outcomes.proofs.laws.outcomes_are_those_of_all_plays.Goals as goal

pub returns-clause-sound : goal.returns-clause-sound
returns-clause-sound c t o is h = sound t o is h

pub returns-clause-complete : goal.returns-clause-complete
returns-clause-complete c t journal is h = complete t journal is h

pub returns-clause-once : goal.returns-clause-once
returns-clause-once c t = once t

pub returns-clause-rising : goal.returns-clause-rising
returns-clause-rising c t = rise t
