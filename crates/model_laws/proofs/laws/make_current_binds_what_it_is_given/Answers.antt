use Rattle.model_laws.proofs.Handles.CurrentLaws.{context_is_bound, draw_is_bound, handles_stay, no_draw, no_read, none_current, read_is_bound, waits_for_nothing}
use Rattle.model_laws.proofs.laws.make_current_binds_what_it_is_given.Goals as goal

pub returns-clause-released : goal.returns-clause-released
returns-clause-released c = none_current

pub returns-clause-context : goal.returns-clause-context
returns-clause-context c = context_is_bound

pub returns-clause-draw : goal.returns-clause-draw
returns-clause-draw c = draw_is_bound

pub returns-clause-no_draw : goal.returns-clause-no_draw
returns-clause-no_draw c = no_draw

pub returns-clause-read : goal.returns-clause-read
returns-clause-read c = read_is_bound

pub returns-clause-no_read : goal.returns-clause-no_read
returns-clause-no_read c = no_read

pub returns-clause-handles : goal.returns-clause-handles
returns-clause-handles c = handles_stay

pub returns-clause-wait : goal.returns-clause-wait
returns-clause-wait c = waits_for_nothing
