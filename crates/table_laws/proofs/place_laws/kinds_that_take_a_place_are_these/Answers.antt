use Rattle.table_laws.proofs.PlaceLaws.{egl_placed, gl_placed, inner_placed, own_placed}
use Rattle.table_laws.proofs.place_laws.kinds_that_take_a_place_are_these.Goals as goal

pub returns-clause-egl : goal.returns-clause-egl
returns-clause-egl c = egl_placed

pub returns-clause-gl : goal.returns-clause-gl
returns-clause-gl c = gl_placed

pub returns-clause-own : goal.returns-clause-own
returns-clause-own c = own_placed

pub returns-clause-inner : goal.returns-clause-inner
returns-clause-inner c = inner_placed
