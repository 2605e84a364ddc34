use Rattle.model_laws.proofs.Pixels.WantLaws.{refusal_of_reply, reply_of_refusal, gl_refusal_of_reply, reply_of_gl_refusal, egl_is_done, gl_is_done}
use Rattle.model_laws.proofs.laws.a_reply_tells_its_refusal.Goals as goal

pub returns-clause-egl : goal.returns-clause-egl
returns-clause-egl c = λ s t k call e h. (refusal_of_reply s t k call e h, reply_of_refusal s t k call e h)

pub returns-clause-gl : goal.returns-clause-gl
returns-clause-gl c = λ s t n k call e h current. (gl_refusal_of_reply s t n k call e h current, reply_of_gl_refusal s t n k call e h current)

pub returns-clause-egl_done : goal.returns-clause-egl_done
returns-clause-egl_done c = egl_is_done

pub returns-clause-gl_done : goal.returns-clause-gl_done
returns-clause-gl_done c = gl_is_done
