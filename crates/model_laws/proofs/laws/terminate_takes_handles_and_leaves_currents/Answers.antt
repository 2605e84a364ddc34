use Rattle.model_laws.proofs.Handles.DisplayLaws.{context_stays, draw_stays, no_handle_left, read_stays}
use Rattle.model_laws.proofs.laws.terminate_takes_handles_and_leaves_currents.Goals as goal

pub returns-clause-handles : goal.returns-clause-handles
returns-clause-handles c = no_handle_left

pub returns-clause-context : goal.returns-clause-context
returns-clause-context c = context_stays

pub returns-clause-draw : goal.returns-clause-draw
returns-clause-draw c = draw_stays

pub returns-clause-read : goal.returns-clause-read
returns-clause-read c = read_stays
