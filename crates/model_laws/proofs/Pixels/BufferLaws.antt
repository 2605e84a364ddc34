-- Where the bytes of buffers want.
use Rattle.std.proofs.Common.{◌≡◌, ℕ, Some}
use Rattle.egl_calls.specs.Calls.{CallValue}
use Rattle.egl_calls.specs.declared.kinds.GlKind.TheVariants.{BufferData}
use Rattle.egl_calls.specs.declared.errors.GlError.TheVariants.{OutOfMemory}
use Rattle.call_rules.specs.GlAllowed.{DataAsked}
use Rattle.call_rules.proofs.GlLaws.{data_wants, wanting_data}
use Rattle.egl_model.specs.Currents.{current_context}
use Rattle.egl_model.specs.GlCalls.{gl_refusal}
use Rattle.egl_model.specs.GlFacts.{gl_facts_of}
use Rattle.egl_model.specs.State.{State}
use Rattle.model_laws.specs.Laws.{IsGlCall}
use Rattle.model_laws.specs.Wants.{AnswersGl, WantsData}
use Rattle.model_laws.proofs.Pixels.WantLaws.{gl_refusal_of_reply, reply_of_gl_refusal}

pub data_is_refused : (s : State) (t n : ℕ) (c : CallValue) → IsGlCall s t BufferData c → current_context s t ≡ Some n → AnswersGl s t c OutOfMemory → DataAsked c (gl_facts_of s t n c) × WantsData s c
unfolding gl_refusal
data_is_refused s t n c h i a = data_wants c (gl_facts_of s t n c) h.kind (gl_refusal_of_reply s t n BufferData c OutOfMemory h i a)

pub buffer_wants_bytes : (s : State) (t n : ℕ) (c : CallValue) → IsGlCall s t BufferData c → current_context s t ≡ Some n → DataAsked c (gl_facts_of s t n c) × WantsData s c → AnswersGl s t c OutOfMemory
unfolding gl_refusal
buffer_wants_bytes s t n c h i w = reply_of_gl_refusal s t n BufferData c OutOfMemory h i (wanting_data c (gl_facts_of s t n c) h.kind w)
