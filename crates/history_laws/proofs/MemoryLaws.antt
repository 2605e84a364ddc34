-- A step that answers GL_OUT_OF_MEMORY is one of four calls.
use Rattle.std.proofs.Common.{◌≡◌, ◌⊎◌, inl, inr, ℕ, Bool, true, false, cond, refl, sym, ap, ◌∙◌, Option, None, Some}
use Rattle.std.proofs.lemmas.Option.{none-some}
use Rattle.egl_calls.specs.Calls.{CallValue, ReplyValue}
use Rattle.egl_calls.specs.declared.errors.EglError.{EglError}
use Rattle.egl_calls.specs.declared.errors.GlError.{GlError}
use Rattle.egl_calls.specs.declared.errors.GlError.TheVariants.{OutOfMemory}
use Rattle.egl_calls.specs.declared.errors.Outcome.{Outcome}
use Rattle.egl_calls.specs.declared.errors.Outcome.TheVariants.{Done, Gl as RefusedGl, Waiting}
use Rattle.egl_calls.specs.declared.kinds.GlKind.{GlKind}
use Rattle.egl_calls.specs.declared.kinds.Kind.{Kind}
use Rattle.egl_calls.specs.declared.kinds.Kind.TheVariants.{Egl, Gl, Own}
use Rattle.egl_calls.specs.declared.kinds.OwnKind.{OwnKind}
use Rattle.egl_calls.specs.declared.kinds.OwnKind.TheVariants.{WaitEnd}
use Rattle.call_table.specs.Rows.{gl_role}
use Rattle.call_table.specs.declared.roles.Role.TheVariants.{Copies, Specifies}
use Rattle.share_group.specs.declared.names.NameKind.TheVariants.{Buffer, Renderbuffer, Texture}
use Rattle.egl_model.specs.Currents.{current_context}
use Rattle.egl_model.specs.Effects.{Effect}
use Rattle.egl_model.specs.EglCalls.{egl_effect, egl_refusal}
use Rattle.egl_model.specs.GlCalls.{gl_effect, gl_refusal}
use Rattle.egl_model.specs.GlFacts.{gl_facts_of}
use Rattle.egl_model.specs.OwnCalls.{buffer_effect, buffer_refusal}
use Rattle.egl_model.specs.State.{State, record_of}
use Rattle.egl_model.specs.Step.{Stepped, after_egl_rules, after_gl_rules, buffer_step_on, egl_step, gl_step, gl_step_on, own_step, step, step_by, step_in, wait_step}
use Rattle.egl_model.specs.Waits.{is_signalled, is_wait_end}
use Rattle.model_laws.specs.Laws.{IsGlCall}
use Rattle.model_laws.specs.Wants.{AnswersGl, WantsCopy, WantsData, WantsImage, WantsStorage}
use Rattle.model_laws.proofs.Pixels.BufferLaws.{buffer_wants_bytes, data_is_refused}
use Rattle.model_laws.proofs.Pixels.RenderbufferLaws.{renderbuffer_wants_pixels, storage_is_refused}
use Rattle.model_laws.proofs.Pixels.TextureLaws.{copy_is_refused, copy_wants_pixels, image_is_refused, image_wants_pixels}
use Rattle.history_laws.specs.Memory.{IsFaultlessCopy, IsFaultlessData, IsFaultlessLevel, IsFaultlessStorage, may_want_bytes, wants_bytes}
use Rattle.history_laws.proofs.MemoryRows.{copy_asked, copy_faultless, data_asked, data_faultless, four_want, level_asked, level_faultless, of_role, own_wants_none, storage_asked, storage_faultless}

-- the error of OpenGL ES that an outcome tells
told : Outcome → Option GlError
told (RefusedGl e) = Some e
told o = None

untold : (b : Bool) → told (cond b Waiting Done) ≡ None
unfolding told
untold true = refl
untold false = refl

-- a call that is done doesn't tell one
done_tells : {X : Type 0} (f : Effect) → told (cond f.waits Waiting Done) ≡ Some OutOfMemory → X
done_tells f h = absurd (none-some OutOfMemory (sym (untold f.waits) ∙ h))

egl_tells : {X : Type 0} (s : State) (t : ℕ) (o : Option EglError) (f : Effect) → told (after_egl_rules s t o f).reply.outcome ≡ Some OutOfMemory → X
unfolding told
egl_tells s t (Some e) f h = absurd (none-some OutOfMemory h)
egl_tells s t None f h = done_tells f h

gl_tells : {X : Type 0} (s : State) (n : ℕ) (o : Option GlError) (f : Effect) → (o ≡ Some OutOfMemory → X) → told (after_gl_rules s n o f).reply.outcome ≡ Some OutOfMemory → X
unfolding told
gl_tells s n (Some e) f k h = k h
gl_tells s n None f k h = done_tells f h

gl_wants : (s : State) (t n : ℕ) (k : GlKind) (c : CallValue) → c.kind ≡ Gl k → gl_refusal s t n k c ≡ Some OutOfMemory → wants_bytes (gl_role k) ≡ true
unfolding gl_refusal
gl_wants s t n k c e h = four_want c (gl_facts_of s t n c) k e h

by_context : (s : State) (t : ℕ) (k : GlKind) (c : CallValue) (o : Option ℕ) → c.kind ≡ Gl k → told (gl_step_on s t o k c).reply.outcome ≡ Some OutOfMemory → wants_bytes (gl_role k) ≡ true
unfolding told
by_context s t k c None e h = absurd (none-some OutOfMemory h)
by_context s t k c (Some n) e h = gl_tells s n (gl_refusal s t n k c) (gl_effect s t n k c) (gl_wants s t n k c e) h

buffer_wants : (s : State) (t n : ℕ) (k : OwnKind) (c : CallValue) → c.kind ≡ Own k → buffer_refusal s t n c ≡ Some OutOfMemory → ⊥
unfolding buffer_refusal
buffer_wants s t n k c e h = own_wants_none c (gl_facts_of s t n c) k e h

by_buffer : {X : Type 0} (s : State) (t : ℕ) (k : OwnKind) (c : CallValue) (o : Option ℕ) → c.kind ≡ Own k → told (buffer_step_on s t o c).reply.outcome ≡ Some OutOfMemory → X
unfolding told
by_buffer s t k c None e h = absurd (none-some OutOfMemory h)
by_buffer s t k c (Some n) e h = gl_tells s n (buffer_refusal s t n c) (buffer_effect s t n c) (λ r. absurd (buffer_wants s t n k c e r)) h

-- a call of this project tells no such error, or is refused as a call of OpenGL ES
own_tells : (s : State) (t : ℕ) (k : OwnKind) (c : CallValue) → (told (own_step s t k c).reply.outcome ≡ None) ⊎ (own_step s t k c ≡ buffer_step_on s t (current_context s t) c)
unfolding told
own_tells s t WaitEnd c = inl refl
own_tells s t k c = search (inl, inr)

by_own : {X : Type 0} (s : State) (t : ℕ) (k : OwnKind) (c : CallValue) → c.kind ≡ Own k → told (own_step s t k c).reply.outcome ≡ Some OutOfMemory → X
by_own s t k c e h = elim (own_tells s t k c) [
  | inl none ↦ absurd (none-some OutOfMemory (sym none ∙ h))
  | inr same ↦ by_buffer s t k c (current_context s t) e (sym (ap (λ (x : Stepped). told x.reply.outcome) same) ∙ h)
]

by_kind : (s : State) (t : ℕ) (k : Kind) (c : CallValue) → c.kind ≡ k → told (step_by s t k c).reply.outcome ≡ Some OutOfMemory → may_want_bytes k ≡ true
unfolding egl_step gl_step
by_kind s t (Egl k) c e h = egl_tells s t (egl_refusal s t k c) (egl_effect s t k c) h
by_kind s t (Gl k) c e h = by_context s t k c (current_context s t) e h
by_kind s t (Own k) c e h = by_own s t k c e h

by_end : {X : Type 0} (s : State) (t : ℕ) (is_end signalled : Bool) → told (wait_step s t is_end signalled).reply.outcome ≡ Some OutOfMemory → X
unfolding told
by_end s t false signalled h = absurd (none-some OutOfMemory h)
by_end s t true false h = absurd (none-some OutOfMemory h)
by_end s t true true h = absurd (none-some OutOfMemory h)

by_wait : (s : State) (t : ℕ) (c : CallValue) (o : Option ℕ) → told (step_in o s t c).reply.outcome ≡ Some OutOfMemory → may_want_bytes c.kind ≡ true
by_wait s t c (Some sync) h = by_end s t (is_wait_end c.kind) (is_signalled s sync) h
by_wait s t c None h = by_kind s t c.kind c refl h

pub four_alone : (s : State) (t : ℕ) (c : CallValue) → AnswersGl s t c OutOfMemory → may_want_bytes c.kind ≡ true
unfolding step told
four_alone s t c a = by_wait s t c (record_of s t).wait (ap (λ (r : ReplyValue). told r.outcome) a)

-- ---- Where each of the four answers it.
pub image_wants : (s : State) (t n : ℕ) (k : GlKind) (c : CallValue) → gl_role k ≡ Specifies Texture → IsGlCall s t k c → current_context s t ≡ Some n → AnswersGl s t c OutOfMemory → IsFaultlessLevel c × WantsImage s c
image_wants s t n k c r h i a = of_role (Specifies Texture) (λ k. IsGlCall s t k c → IsFaultlessLevel c × WantsImage s c) k r (λ h. let w = image_is_refused s t n c h i a in (level_faultless c w.0, w.1)) h

pub wanting_image : (s : State) (t n : ℕ) (k : GlKind) (c : CallValue) → gl_role k ≡ Specifies Texture → IsGlCall s t k c → current_context s t ≡ Some n → IsFaultlessLevel c × WantsImage s c → AnswersGl s t c OutOfMemory
wanting_image s t n k c r h i w = of_role (Specifies Texture) (λ k. IsGlCall s t k c → AnswersGl s t c OutOfMemory) k r (λ h. image_wants_pixels s t n c h i (level_asked c w.0, w.1)) h

pub copy_wants : (s : State) (t n : ℕ) (k : GlKind) (c : CallValue) → gl_role k ≡ Copies → IsGlCall s t k c → current_context s t ≡ Some n → AnswersGl s t c OutOfMemory → IsFaultlessCopy s t c × WantsCopy s c
copy_wants s t n k c r h i a = of_role Copies (λ k. IsGlCall s t k c → IsFaultlessCopy s t c × WantsCopy s c) k r (λ h. let w = copy_is_refused s t n c h i a in (copy_faultless s t n c w.0, w.1)) h

pub wanting_copy : (s : State) (t n : ℕ) (k : GlKind) (c : CallValue) → gl_role k ≡ Copies → IsGlCall s t k c → current_context s t ≡ Some n → IsFaultlessCopy s t c × WantsCopy s c → AnswersGl s t c OutOfMemory
wanting_copy s t n k c r h i w = of_role Copies (λ k. IsGlCall s t k c → AnswersGl s t c OutOfMemory) k r (λ h. copy_wants_pixels s t n c h i (copy_asked s t n c w.0, w.1)) h

pub data_wants : (s : State) (t n : ℕ) (k : GlKind) (c : CallValue) → gl_role k ≡ Specifies Buffer → IsGlCall s t k c → current_context s t ≡ Some n → AnswersGl s t c OutOfMemory → IsFaultlessData s n c × WantsData s c
data_wants s t n k c r h i a = of_role (Specifies Buffer) (λ k. IsGlCall s t k c → IsFaultlessData s n c × WantsData s c) k r (λ h. let w = data_is_refused s t n c h i a in (data_faultless s t n c w.0, w.1)) h

pub wanting_data : (s : State) (t n : ℕ) (k : GlKind) (c : CallValue) → gl_role k ≡ Specifies Buffer → IsGlCall s t k c → current_context s t ≡ Some n → IsFaultlessData s n c × WantsData s c → AnswersGl s t c OutOfMemory
wanting_data s t n k c r h i w = of_role (Specifies Buffer) (λ k. IsGlCall s t k c → AnswersGl s t c OutOfMemory) k r (λ h. buffer_wants_bytes s t n c h i (data_asked s t n c w.0, w.1)) h

pub storage_wants : (s : State) (t n : ℕ) (k : GlKind) (c : CallValue) → gl_role k ≡ Specifies Renderbuffer → IsGlCall s t k c → current_context s t ≡ Some n → AnswersGl s t c OutOfMemory → IsFaultlessStorage s n c × WantsStorage s c
storage_wants s t n k c r h i a = of_role (Specifies Renderbuffer) (λ k. IsGlCall s t k c → IsFaultlessStorage s n c × WantsStorage s c) k r (λ h. let w = storage_is_refused s t n c h i a in (storage_faultless s t n c w.0, w.1)) h

pub wanting_storage : (s : State) (t n : ℕ) (k : GlKind) (c : CallValue) → gl_role k ≡ Specifies Renderbuffer → IsGlCall s t k c → current_context s t ≡ Some n → IsFaultlessStorage s n c × WantsStorage s c → AnswersGl s t c OutOfMemory
wanting_storage s t n k c r h i w = of_role (Specifies Renderbuffer) (λ k. IsGlCall s t k c → AnswersGl s t c OutOfMemory) k r (λ h. renderbuffer_wants_pixels s t n c h i (storage_asked s t n c w.0, w.1)) h
