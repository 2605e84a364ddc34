-- Where the pixels of renderbuffers want.
use Rattle.std.proofs.Common.{◌≡◌, ℕ, Some}
use Rattle.egl_calls.specs.Calls.{CallValue}
use Rattle.egl_calls.specs.declared.kinds.GlKind.TheVariants.{RenderbufferStorage}
use Rattle.egl_calls.specs.declared.errors.GlError.TheVariants.{OutOfMemory}
use Rattle.call_rules.specs.GlAllowed.{StorageAsked}
use Rattle.call_rules.proofs.GlLaws.{storage_wants, wanting_storage}
use Rattle.egl_model.specs.Currents.{current_context}
use Rattle.egl_model.specs.GlCalls.{gl_refusal}
use Rattle.egl_model.specs.GlFacts.{gl_facts_of}
use Rattle.egl_model.specs.State.{State}
use Rattle.model_laws.specs.Laws.{IsGlCall}
use Rattle.model_laws.specs.Wants.{AnswersGl, WantsStorage}
use Rattle.model_laws.proofs.Pixels.WantLaws.{gl_refusal_of_reply, reply_of_gl_refusal}

pub storage_is_refused : (s : State) (t n : ℕ) (c : CallValue) → IsGlCall s t RenderbufferStorage c → current_context s t ≡ Some n → AnswersGl s t c OutOfMemory → StorageAsked c (gl_facts_of s t n c) × WantsStorage s c
unfolding gl_refusal
storage_is_refused s t n c h i a = storage_wants c (gl_facts_of s t n c) h.kind (gl_refusal_of_reply s t n RenderbufferStorage c OutOfMemory h i a)

pub renderbuffer_wants_pixels : (s : State) (t n : ℕ) (c : CallValue) → IsGlCall s t RenderbufferStorage c → current_context s t ≡ Some n → StorageAsked c (gl_facts_of s t n c) × WantsStorage s c → AnswersGl s t c OutOfMemory
unfolding gl_refusal
renderbuffer_wants_pixels s t n c h i w = reply_of_gl_refusal s t n RenderbufferStorage c OutOfMemory h i (wanting_storage c (gl_facts_of s t n c) h.kind w)
