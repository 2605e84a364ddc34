-- What a reply tells of refusals, and where EGL_BAD_ALLOC comes.
use Rattle.std.proofs.Common.{◌≡◌, ◌≢◌, ℕ, ◌⊎◌, inl, inr, refl, sym, ap, ◌∙◌, Bool, true, false, cond, Option, None, Some}
use Rattle.std.proofs.lemmas.Bool.{leb-true, le-leb}
use Rattle.egl_calls.specs.Calls.{CallValue, ReplyValue}
use Rattle.egl_calls.specs.declared.kinds.EglKind.{EglKind}
use Rattle.egl_calls.specs.declared.kinds.EglKind.TheVariants.{CreatePbufferSurface, CreateContext, CreateImage, ClientWaitSync}
use Rattle.egl_calls.specs.declared.kinds.GlKind.{GlKind}
use Rattle.egl_calls.specs.declared.kinds.GlKind.TheVariants.{ReadPixels}
use Rattle.egl_calls.specs.declared.errors.EglError.{EglError}
use Rattle.egl_calls.specs.declared.errors.EglError.TheVariants.{BadAlloc}
use Rattle.egl_calls.specs.declared.errors.GlError.{GlError}
use Rattle.egl_calls.specs.declared.errors.Outcome.{Outcome}
use Rattle.egl_calls.specs.declared.errors.Outcome.TheVariants.{Done, Egl as RefusedEgl, Gl as RefusedGl, Waiting}
use Rattle.call_rules.specs.EglAllowed.{PbufferWants, makes_handle}
use Rattle.call_rules.proofs.EglLaws.{pbuffer_wants, wanting_pbuffer, context_wants, wanting_context, image_wants, wanting_image, creations_want}
use Rattle.egl_model.specs.State.{State}
use Rattle.egl_model.specs.Effects.{Effect}
use Rattle.egl_model.specs.EglCalls.{egl_effect, egl_refusal}
use Rattle.egl_model.specs.Facts.{facts_of}
use Rattle.egl_model.specs.GlCalls.{gl_effect, gl_refusal}
use Rattle.egl_model.specs.Currents.{current_context}
use Rattle.egl_model.specs.Handles.{are_used_up}
use Rattle.egl_model.specs.Step.{Stepped, after_egl_rules, after_gl_rules, bare, egl_step, step}
use Rattle.model_laws.specs.Laws.{IsEglCall, IsGlCall}
use Rattle.model_laws.specs.Wants.{Answers, AnswersGl, AsksTooLarge, IsFaultlessContext, IsFaultlessImage, IsFaultlessPbuffer, WantsNumber, WantsVideo}
use Rattle.model_laws.proofs.Steps.FrameLaws.{is_done}
use Rattle.model_laws.proofs.Steps.RefusalLaws.{egl_call, gl_call, refused_egl_reply, refused_gl_reply}
use Rattle.model_laws.proofs.Steps.StepLaws.{egl_done, gl_done, gl_with_context}

error_or : Outcome → Option EglError
error_or (RefusedEgl e) = Some e
error_or o = None

same_refusal : (s : State) (t : ℕ) (o : Option EglError) (f : Effect) (e : EglError) → (after_egl_rules s t o f).reply ≡ bare (RefusedEgl e) → o ≡ Some e
unfolding error_or
same_refusal s t None f e h = no_error f.waits e (ap (λ (r : ReplyValue). error_or r.outcome) h)
  where
    no_error : (b : Bool) (e : EglError) → error_or (cond b Waiting Done) ≡ Some e → None ≡ Some e
    no_error true e h = h
    no_error false e h = h
same_refusal s t (Some x) f e h = ap (λ (r : ReplyValue). error_or r.outcome) h

-- a reply that is an error tells the refusal
pub refusal_of_reply : (s : State) (t : ℕ) (k : EglKind) (c : CallValue) (e : EglError) → IsEglCall s t k c → Answers s t c e → egl_refusal s t k c ≡ Some e
unfolding egl_step
refusal_of_reply s t k c e h a = same_refusal s t (egl_refusal s t k c) (egl_effect s t k c) e (sym (ap (λ (x : Stepped). x.reply) (egl_call s t k c h)) ∙ a)

pub reply_of_refusal : (s : State) (t : ℕ) (k : EglKind) (c : CallValue) (e : EglError) → IsEglCall s t k c → egl_refusal s t k c ≡ Some e → Answers s t c e
reply_of_refusal s t k c e h r = refused_egl_reply s t k c e (record { call = h; refused = r })

gl_error_or : Outcome → Option GlError
gl_error_or (RefusedGl e) = Some e
gl_error_or o = None

same_gl_refusal : (s : State) (n : ℕ) (o : Option GlError) (f : Effect) (e : GlError) → (after_gl_rules s n o f).reply ≡ bare (RefusedGl e) → o ≡ Some e
unfolding gl_error_or
same_gl_refusal s n None f e h = no_error f.waits e (ap (λ (r : ReplyValue). gl_error_or r.outcome) h)
  where
    no_error : (b : Bool) (e : GlError) → gl_error_or (cond b Waiting Done) ≡ Some e → None ≡ Some e
    no_error true e h = h
    no_error false e h = h
same_gl_refusal s n (Some x) f e h = ap (λ (r : ReplyValue). gl_error_or r.outcome) h

pub gl_refusal_of_reply : (s : State) (t n : ℕ) (k : GlKind) (c : CallValue) (e : GlError) → IsGlCall s t k c → current_context s t ≡ Some n → AnswersGl s t c e → gl_refusal s t n k c ≡ Some e
gl_refusal_of_reply s t n k c e h current a =
    same_gl_refusal s n (gl_refusal s t n k c) (gl_effect s t n k c) e (sym (ap (λ (x : Stepped). x.reply) (gl_call s t k c h ∙ gl_with_context s t n k c current)) ∙ a)

pub reply_of_gl_refusal : (s : State) (t n : ℕ) (k : GlKind) (c : CallValue) (e : GlError) → IsGlCall s t k c → current_context s t ≡ Some n → gl_refusal s t n k c ≡ Some e → AnswersGl s t c e
reply_of_gl_refusal s t n k c e h current r = refused_gl_reply s t n k c e (record { call = h; current = current; refused = r })

-- ---- A call that isn't refused is done, but that a wait of the client may begin.
pub egl_is_done : (s : State) (t : ℕ) (k : EglKind) (c : CallValue) → IsEglCall s t k c → k ≢ ClientWaitSync → egl_refusal s t k c ≡ None → (step s t c).reply.outcome ≡ Done
egl_is_done s t k c h e n = ap (λ (x : Stepped). x.reply.outcome) (egl_call s t k c h ∙ egl_done s t k c n) ∙ ap (λ b. cond b Waiting Done) (is_done s t c k e)

gl_done_as : (s : State) (t n : ℕ) (c : CallValue) (k : GlKind) → (gl_effect s t n k c).waits ≡ false
gl_done_as s t n c ReadPixels = refl
gl_done_as s t n c k = refl

pub gl_is_done : (s : State) (t n : ℕ) (k : GlKind) (c : CallValue) → IsGlCall s t k c → current_context s t ≡ Some n → gl_refusal s t n k c ≡ None → (step s t c).reply.outcome ≡ Done
gl_is_done s t n k c h i r = ap (λ (x : Stepped). x.reply.outcome) (gl_call s t k c h ∙ gl_done s t n k c i r) ∙ ap (λ b. cond b Waiting Done) (gl_done_as s t n c k)

-- ---- EGL_BAD_ALLOC.
abbrev pub is_bad_alloc : EglError → Bool
is_bad_alloc BadAlloc = true
is_bad_alloc e = false

pub creations_answer : (s : State) (t : ℕ) (k : EglKind) (c : CallValue) → IsEglCall s t k c → Answers s t c BadAlloc → makes_handle k ≡ true
unfolding egl_refusal
creations_answer s t k c h a = creations_want c (facts_of s t c) k h.kind (refusal_of_reply s t k c BadAlloc h a)

pub to_number : (s : State) → are_used_up s ≡ true → WantsNumber s
to_number s h = leb-true 2147483648 s.next_handle h

pub from_number : (s : State) → WantsNumber s → are_used_up s ≡ true
from_number s h = le-leb 2147483648 s.next_handle h

to_wants : (s : State) (t : ℕ) (c : CallValue) → PbufferWants (facts_of s t c) → AsksTooLarge c ⊎ (WantsVideo s c ⊎ WantsNumber s)
to_wants s t c (inl l) = inl l
to_wants s t c (inr (inl v)) = inr (inl v)
to_wants s t c (inr (inr n)) = inr (inr (to_number s n))

from_wants : (s : State) (t : ℕ) (c : CallValue) → AsksTooLarge c ⊎ (WantsVideo s c ⊎ WantsNumber s) → PbufferWants (facts_of s t c)
from_wants s t c (inl l) = inl l
from_wants s t c (inr (inl v)) = inr (inl v)
from_wants s t c (inr (inr n)) = inr (inr (from_number s n))

pub pbuffer_is_refused : (s : State) (t : ℕ) (c : CallValue) → IsEglCall s t CreatePbufferSurface c → Answers s t c BadAlloc → IsFaultlessPbuffer s t c × (AsksTooLarge c ⊎ (WantsVideo s c ⊎ WantsNumber s))
unfolding egl_refusal
pbuffer_is_refused s t c h a =
    let w = pbuffer_wants c (facts_of s t c) h.kind (refusal_of_reply s t CreatePbufferSurface c BadAlloc h a) in (w.0, to_wants s t c w.1)

pub pbuffer_wants_something : (s : State) (t : ℕ) (c : CallValue) → IsEglCall s t CreatePbufferSurface c → IsFaultlessPbuffer s t c × (AsksTooLarge c ⊎ (WantsVideo s c ⊎ WantsNumber s)) → Answers s t c BadAlloc
unfolding egl_refusal
pbuffer_wants_something s t c h w = reply_of_refusal s t CreatePbufferSurface c BadAlloc h (wanting_pbuffer c (facts_of s t c) h.kind (w.0, from_wants s t c w.1))

pub context_is_refused : (s : State) (t : ℕ) (c : CallValue) → IsEglCall s t CreateContext c → Answers s t c BadAlloc → IsFaultlessContext s t c × WantsNumber s
unfolding egl_refusal
context_is_refused s t c h a =
    let w = context_wants c (facts_of s t c) h.kind (refusal_of_reply s t CreateContext c BadAlloc h a) in (w.0, to_number s w.1)

pub context_wants_number : (s : State) (t : ℕ) (c : CallValue) → IsEglCall s t CreateContext c → IsFaultlessContext s t c × WantsNumber s → Answers s t c BadAlloc
unfolding egl_refusal
context_wants_number s t c h w = reply_of_refusal s t CreateContext c BadAlloc h (wanting_context c (facts_of s t c) h.kind (w.0, from_number s w.1))

pub image_is_refused : (s : State) (t : ℕ) (c : CallValue) → IsEglCall s t CreateImage c → Answers s t c BadAlloc → IsFaultlessImage s t c × WantsNumber s
unfolding egl_refusal
image_is_refused s t c h a =
    let w = image_wants c (facts_of s t c) h.kind (refusal_of_reply s t CreateImage c BadAlloc h a) in (w.0, to_number s w.1)

pub image_wants_number : (s : State) (t : ℕ) (c : CallValue) → IsEglCall s t CreateImage c → IsFaultlessImage s t c × WantsNumber s → Answers s t c BadAlloc
unfolding egl_refusal
image_wants_number s t c h w = reply_of_refusal s t CreateImage c BadAlloc h (wanting_image c (facts_of s t c) h.kind (w.0, from_number s w.1))
