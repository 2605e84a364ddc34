use Rattle.call_table.proofs.RowLaws.{egl_own, gl_own, own_own}
use Rattle.call_table.proofs.laws.rows_stand_at_their_kinds.Goals as goal

pub returns-clause-egl : goal.returns-clause-egl
returns-clause-egl c = egl_own

pub returns-clause-gl : goal.returns-clause-gl
returns-clause-gl c = gl_own

pub returns-clause-own : goal.returns-clause-own
returns-clause-own c = own_own
