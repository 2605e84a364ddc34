use Rattle.model_laws.proofs.Handles.FirstUse.{keeps_sides, takes_none, takes_sides}
use Rattle.model_laws.proofs.laws.a_context_takes_the_sides_of_its_first_surface.Goals as goal

pub returns-clause-sides : goal.returns-clause-sides
returns-clause-sides c = takes_sides

pub returns-clause-none : goal.returns-clause-none
returns-clause-none c = takes_none

pub returns-clause-later : goal.returns-clause-later
returns-clause-later c = keeps_sides
