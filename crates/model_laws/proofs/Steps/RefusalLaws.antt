-- What a refusal, a wait and a missing context change.
use Rattle.std.proofs.Common.{◌≡◌, ◌≢◌, ℕ, zero, suc, ◌<◌, refl, sym, ap, ◌∙◌, Option, None, Some, List, [], ◌∷◌, Bool, true, false}
use Rattle.std.specs.Option.{option_and_then}
use Rattle.std.proofs.lemmas.List.{get_or-set_other, get_or-set_same, get_or_past, set-get_or}
use Rattle.std.proofs.lemmas.Bool.{cases_lt}
use Rattle.std.proofs.Common.{inl, inr, length, set}
use Rattle.egl_calls.specs.Calls.{CallValue}
use Rattle.egl_calls.specs.declared.kinds.Kind.{Kind}
use Rattle.egl_calls.specs.declared.kinds.Kind.TheVariants.{Egl, Gl, Own}
use Rattle.egl_calls.specs.declared.kinds.EglKind.{EglKind}
use Rattle.egl_calls.specs.declared.kinds.GlKind.{GlKind}
use Rattle.egl_calls.specs.declared.kinds.OwnKind.{OwnKind}
use Rattle.egl_calls.specs.declared.kinds.OwnKind.TheVariants.{ReadBuffer, WaitEnd}
use Rattle.egl_calls.specs.declared.errors.EglError.{EglError}
use Rattle.egl_calls.specs.declared.errors.EglError.TheVariants.{Success}
use Rattle.egl_calls.specs.declared.errors.GlError.{GlError}
use Rattle.egl_calls.specs.declared.errors.GlError.TheVariants.{NoError, InvalidEnum, InvalidValue, InvalidOperation, OutOfMemory, InvalidFramebufferOperation}
use Rattle.egl_calls.specs.declared.errors.Outcome.TheVariants.{Done, Egl as RefusedEgl, Gl as RefusedGl, InWait, NoWait, Waiting}
use Rattle.refusal_rows.specs.Rows.{AllOff, Row}
use Rattle.context_state.specs.Parts.{PartValue, kept, noted}
use Rattle.driver_objects.specs.declared.contexts.Context.{Context as ContextObject}
use Rattle.driver_objects.specs.declared.objects.Object.{Object}
use Rattle.driver_objects.specs.declared.objects.Object.TheVariants.{Context, Group, Texture, Buffer, Renderbuffer, Framebuffer, Surface, Storage, Image, Sync}
use Rattle.egl_model.specs.State.{State, initial, object_at, record_of, set_error}
use Rattle.egl_model.specs.Objects.{as_context, with_part, change_part}
use Rattle.egl_model.specs.Currents.{current_context, part_of_context}
use Rattle.egl_model.specs.Sweep.{sweep}
use Rattle.egl_model.specs.Waits.{ended, is_signalled, is_wait_end}
use Rattle.egl_model.specs.Step.{Stepped, bare, done, egl_step, gl_step, note_error, own_step, step, step_by, step_in, wait_step}
use Rattle.egl_model.specs.EglCalls.{egl_effect}
use Rattle.model_laws.specs.Laws.{IsAllowedEgl, IsEglCall, IsGlCall, IsRefusedEgl, IsRefusedGl}
use Rattle.model_laws.proofs.Steps.StepLaws.{egl_done, egl_refused, gl_refused, gl_without_context, step_goes, step_waits}

pub egl_call : (s : State) (t : ℕ) (k : EglKind) (c : CallValue) → IsEglCall s t k c → step s t c ≡ egl_step s t k c
egl_call s t k c h = step_goes s t c h.goes ∙ ap (λ (kind : Kind). step_by s t kind c) h.kind

pub gl_call : (s : State) (t : ℕ) (k : GlKind) (c : CallValue) → IsGlCall s t k c → step s t c ≡ gl_step s t k c
gl_call s t k c h = step_goes s t c h.goes ∙ ap (λ (kind : Kind). step_by s t kind c) h.kind

-- a call of EGL that no rule refuses
pub allowed_egl : (s : State) (t : ℕ) (k : EglKind) (c : CallValue) → IsAllowedEgl s t k c →
    step s t c ≡ record { reply = done (egl_effect s t k c); state = sweep (set_error (egl_effect s t k c).state t Success) }
allowed_egl s t k c h = egl_call s t k c h.call ∙ egl_done s t k c h.allowed

pub allowed_egl_state : (s : State) (t : ℕ) (k : EglKind) (c : CallValue) → IsAllowedEgl s t k c → (step s t c).state ≡ sweep (set_error (egl_effect s t k c).state t Success)
allowed_egl_state s t k c h = ap (λ (x : Stepped). x.state) (allowed_egl s t k c h)

-- the condition of the row at a place
abbrev pub row_at : {E : Type 0} → ℕ → List (Row E) → Bool
row_at n [] = false
row_at zero (r ∷ rs) = r.0
row_at (suc n) (r ∷ rs) = row_at n rs

pub row_off : {E : Type 0} (n : ℕ) (rows : List (Row E)) → AllOff rows → row_at n rows ≡ false
row_off n [] a = refl
row_off zero (r ∷ rs) a = a.0
row_off (suc n) (r ∷ rs) a = row_off n rs a.1

-- ---- Refused calls of EGL.
pub refused_egl : (s : State) (t : ℕ) (k : EglKind) (c : CallValue) (e : EglError) → IsRefusedEgl s t k c e →
    step s t c ≡ record { reply = bare (RefusedEgl e); state = set_error s t e }
refused_egl s t k c e h = egl_call s t k c h.call ∙ egl_refused s t k c e h.refused

pub refused_egl_reply : (s : State) (t : ℕ) (k : EglKind) (c : CallValue) (e : EglError) → IsRefusedEgl s t k c e → (step s t c).reply ≡ bare (RefusedEgl e)
refused_egl_reply s t k c e h = ap (λ (x : Stepped). x.reply) (refused_egl s t k c e h)

pub refused_egl_state : (s : State) (t : ℕ) (k : EglKind) (c : CallValue) (e : EglError) → IsRefusedEgl s t k c e → (step s t c).state ≡ set_error s t e
refused_egl_state s t k c e h = ap (λ (x : Stepped). x.state) (refused_egl s t k c e h)

pub record_of-set_error : (s : State) (t : ℕ) (e : EglError) → t < length s.threads → record_of (set_error s t e) t ≡ record (record_of s t) { error = e }
record_of-set_error s t e h = get_or-set_same s.threads t _ initial h

pub other-set_error : (s : State) (t u : ℕ) (e : EglError) → u ≢ t → record_of (set_error s t e) u ≡ record_of s u
other-set_error s t u e ne = get_or-set_other s.threads t u _ initial ne

pub rest-set_error : (s : State) (t : ℕ) (e : EglError) → record (set_error s t e) { threads = s.threads } ≡ s
rest-set_error s t e = refl

-- ---- Refused calls of OpenGL ES.
pub refused_gl : (s : State) (t n : ℕ) (k : GlKind) (c : CallValue) (e : GlError) → IsRefusedGl s t n k c e →
    step s t c ≡ record { reply = bare (RefusedGl e); state = note_error s n e }
refused_gl s t n k c e h = gl_call s t k c h.call ∙ gl_refused s t n k c e h.current h.refused

pub refused_gl_reply : (s : State) (t n : ℕ) (k : GlKind) (c : CallValue) (e : GlError) → IsRefusedGl s t n k c e → (step s t c).reply ≡ bare (RefusedGl e)
refused_gl_reply s t n k c e h = ap (λ (x : Stepped). x.reply) (refused_gl s t n k c e h)

pub refused_gl_state : (s : State) (t n : ℕ) (k : GlKind) (c : CallValue) (e : GlError) → IsRefusedGl s t n k c e → (step s t c).state ≡ note_error s n e
refused_gl_state s t n k c e h = ap (λ (x : Stepped). x.state) (refused_gl s t n k c e h)

kept_former : (e former : GlError) → former ≢ NoError → kept e former ≡ former
kept_former e NoError ne = absurd (ne refl)
kept_former e InvalidEnum ne = refl
kept_former e InvalidValue ne = refl
kept_former e InvalidOperation ne = refl
kept_former e OutOfMemory ne = refl
kept_former e InvalidFramebufferOperation ne = refl

part_in : Option Object → Option PartValue
part_in o = option_and_then (λ c. c.part) (as_context o)

noted_before : (e : GlError) (p : PartValue) → p.error ≢ NoError → noted e p ≡ p
noted_before e p ne = ap (λ (x : GlError). record p { error = x }) (kept_former e p.error ne)

with_part_before : (e : GlError) (o : Option Object) (p : PartValue) → part_in o ≡ Some p → p.error ≢ NoError → with_part (noted e) o ≡ o
unfolding part_in
with_part_before e None p h ne = refl
with_part_before e (Some (Context c)) p h ne = part_before e c c.part p refl h ne
  where
    part_before : (e : GlError) (c : ContextObject) (q : Option PartValue) (p : PartValue) → c.part ≡ q → q ≡ Some p → p.error ≢ NoError → with_part (noted e) (Some (Context c)) ≡ Some (Context c)
    part_before e c q p a b ne =
        let w : c.part ≡ Some p = a ∙ b in
        rw w (rw (noted_before e p ne) refl)
with_part_before e (Some (Group a)) p h ne = refl
with_part_before e (Some (Texture a)) p h ne = refl
with_part_before e (Some (Buffer x)) p h ne = refl
with_part_before e (Some (Renderbuffer x)) p h ne = refl
with_part_before e (Some (Framebuffer x)) p h ne = refl
with_part_before e (Some (Surface x)) p h ne = refl
with_part_before e (Some (Storage x)) p h ne = refl
with_part_before e (Some (Image x)) p h ne = refl
with_part_before e (Some (Sync x)) p h ne = refl

-- a context that keeps an error already keeps it, and nothing changes
pub note_error-later : (s : State) (n : ℕ) (e : GlError) (p : PartValue) → part_of_context s n ≡ Some p → p.error ≢ NoError → note_error s n e ≡ s
unfolding change_part part_in
note_error-later s n e p h ne =
    ap (λ (os : List (Option Object)). record s { objects = os })
    (ap (λ (o : Option Object). set s.objects n o) (with_part_before e (object_at s n) p h ne) ∙ set-get_or s.objects n None)

with_part_first : (e : GlError) (o : Option Object) (p : PartValue) → part_in o ≡ Some p → p.error ≡ NoError → part_in (with_part (noted e) o) ≡ Some (record p { error = e })
unfolding part_in
with_part_first e None p h z = absurd (let f : None ≡ Some p = h in cc)
with_part_first e (Some (Context c)) p h z = let w : c.part ≡ Some p = h in rw w (rw z refl)
with_part_first e (Some (Group a)) p h z = absurd (let f : None ≡ Some p = h in cc)
with_part_first e (Some (Texture a)) p h z = absurd (let f : None ≡ Some p = h in cc)
with_part_first e (Some (Buffer x)) p h z = absurd (let f : None ≡ Some p = h in cc)
with_part_first e (Some (Renderbuffer x)) p h z = absurd (let f : None ≡ Some p = h in cc)
with_part_first e (Some (Framebuffer x)) p h z = absurd (let f : None ≡ Some p = h in cc)
with_part_first e (Some (Surface x)) p h z = absurd (let f : None ≡ Some p = h in cc)
with_part_first e (Some (Storage x)) p h z = absurd (let f : None ≡ Some p = h in cc)
with_part_first e (Some (Image x)) p h z = absurd (let f : None ≡ Some p = h in cc)
with_part_first e (Some (Sync x)) p h z = absurd (let f : None ≡ Some p = h in cc)

-- only what exists has a part, so its number is below the count of places
part_within : (s : State) (n : ℕ) (p : PartValue) → part_of_context s n ≡ Some p → n < length s.objects
part_within s n p h = elim (cases_lt n (length s.objects)) [
  | inl l ↦ l
  | inr l ↦ absurd (let none : part_of_context s n ≡ None = ap (λ (o : Option Object). option_and_then (λ c. c.part) (as_context o)) (get_or_past s.objects n None l) in let e : None ≡ Some p = sym none ∙ h in cc)
]

-- a context that keeps no error keeps this one
pub note_error-first : (s : State) (n : ℕ) (e : GlError) (p : PartValue) → part_of_context s n ≡ Some p → p.error ≡ NoError → part_of_context (note_error s n e) n ≡ Some (record p { error = e })
unfolding change_part part_in
note_error-first s n e p h z =
    ap part_in (get_or-set_same s.objects n (with_part (noted e) (object_at s n)) None (part_within s n p h)) ∙ with_part_first e (object_at s n) p h z

pub note_error-others : (s : State) (n m : ℕ) (e : GlError) → m ≢ n → object_at (note_error s n e) m ≡ object_at s m
unfolding change_part
note_error-others s n m e ne = get_or-set_other s.objects n m _ None ne

pub note_error-rest : (s : State) (n : ℕ) (e : GlError) → record (note_error s n e) { objects = s.objects } ≡ s
note_error-rest s n e = refl

-- ---- Calls that change nothing.
pub without_context : (s : State) (t : ℕ) (k : GlKind) (c : CallValue) → IsGlCall s t k c → current_context s t ≡ None → step s t c ≡ record { reply = bare Done; state = s }
without_context s t k c h none = gl_call s t k c h ∙ gl_without_context s t k c none

-- ---- This project's own calls, but for readBuffer and the end of a wait.
own_stays : (s : State) (t : ℕ) (k : OwnKind) (c : CallValue) → k ≢ ReadBuffer → (own_step s t k c).state ≡ s
own_stays s t ReadBuffer c b = absurd (b refl)
own_stays s t k c b = refl

no_end : (k : OwnKind) → k ≢ WaitEnd → is_wait_end (Own k) ≡ false
no_end WaitEnd h = absurd (h refl)
no_end k h = refl

own_in : (s : State) (t : ℕ) (k : OwnKind) (c : CallValue) (w : Option ℕ) → c.kind ≡ Own k → k ≢ ReadBuffer → k ≢ WaitEnd → (step_in w s t c).state ≡ s
own_in s t k c None h b e = ap (λ (kind : Kind). (step_by s t kind c).state) h ∙ own_stays s t k c b
own_in s t k c (Some sync) h b e = ap (λ i. (wait_step s t i (is_signalled s sync)).state) (ap is_wait_end h ∙ no_end k e)

pub own_state : (s : State) (t : ℕ) (k : OwnKind) (c : CallValue) → c.kind ≡ Own k → k ≢ ReadBuffer → k ≢ WaitEnd → (step s t c).state ≡ s
unfolding step
own_state s t k c h b e = own_in s t k c (record_of s t).wait h b e

-- ---- Waits.
not_end : (k : Kind) → k ≢ Own WaitEnd → is_wait_end k ≡ false
not_end (Egl k) h = refl
not_end (Gl k) h = refl
not_end (Own k) h = no_end k (λ e. h (ap Own e))

pub held_up : (s : State) (t : ℕ) (c : CallValue) (sync : ℕ) → (record_of s t).wait ≡ Some sync → c.kind ≢ Own WaitEnd → step s t c ≡ record { reply = bare InWait; state = s }
held_up s t c sync h e = step_waits s t c sync h ∙ ap (λ i. wait_step s t i (is_signalled s sync)) (not_end c.kind e)

pub still_waits : (s : State) (t : ℕ) (c : CallValue) (sync : ℕ) → (record_of s t).wait ≡ Some sync → c.kind ≡ Own WaitEnd → is_signalled s sync ≡ false → step s t c ≡ record { reply = bare Waiting; state = s }
still_waits s t c sync h e u = step_waits s t c sync h ∙ ap (λ k. wait_step s t (is_wait_end k) (is_signalled s sync)) e ∙ ap (wait_step s t true) u

pub wait_ends : (s : State) (t : ℕ) (c : CallValue) (sync : ℕ) → (record_of s t).wait ≡ Some sync → c.kind ≡ Own WaitEnd → is_signalled s sync ≡ true → step s t c ≡ record { reply = done (ended s t); state = sweep (ended s t).state }
wait_ends s t c sync h e u = step_waits s t c sync h ∙ ap (λ k. wait_step s t (is_wait_end k) (is_signalled s sync)) e ∙ ap (wait_step s t true) u

pub no_wait : (s : State) (t : ℕ) (c : CallValue) → (record_of s t).wait ≡ None → c.kind ≡ Own WaitEnd → step s t c ≡ record { reply = bare NoWait; state = s }
no_wait s t c h e = step_goes s t c h ∙ ap (λ (kind : Kind). step_by s t kind c) e
