use Rattle.model_laws.proofs.Steps.RefusalLaws.{note_error-first, note_error-later, note_error-others, note_error-rest, refused_gl_reply, refused_gl_state}
use Rattle.model_laws.proofs.laws.a_refused_gl_call_sets_its_error_alone.Goals as goal

pub returns-clause-reply : goal.returns-clause-reply
returns-clause-reply c = refused_gl_reply

pub returns-clause-state : goal.returns-clause-state
returns-clause-state c = refused_gl_state

pub returns-clause-first : goal.returns-clause-first
returns-clause-first c = note_error-first

pub returns-clause-later : goal.returns-clause-later
returns-clause-later c = note_error-later

pub returns-clause-others : goal.returns-clause-others
returns-clause-others c = note_error-others

pub returns-clause-rest : goal.returns-clause-rest
returns-clause-rest c = note_error-rest
