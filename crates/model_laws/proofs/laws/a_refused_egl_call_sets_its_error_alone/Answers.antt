use Rattle.model_laws.proofs.Steps.RefusalLaws.{other-set_error, record_of-set_error, refused_egl_reply, refused_egl_state, rest-set_error}
use Rattle.model_laws.proofs.laws.a_refused_egl_call_sets_its_error_alone.Goals as goal

pub returns-clause-reply : goal.returns-clause-reply
returns-clause-reply c = refused_egl_reply

pub returns-clause-state : goal.returns-clause-state
returns-clause-state c = refused_egl_state

pub returns-clause-thread : goal.returns-clause-thread
returns-clause-thread c = record_of-set_error

pub returns-clause-others : goal.returns-clause-others
returns-clause-others c = other-set_error

pub returns-clause-rest : goal.returns-clause-rest
returns-clause-rest c = rest-set_error
