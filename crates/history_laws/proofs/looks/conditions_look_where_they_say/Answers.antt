use Rattle.history_laws.proofs.LookLaws.{egl_looked, gl_looked}
use Rattle.history_laws.proofs.looks.conditions_look_where_they_say.Goals as goal

pub returns-clause-egl : goal.returns-clause-egl
returns-clause-egl c = egl_looked

pub returns-clause-gl : goal.returns-clause-gl
returns-clause-gl c = gl_looked
