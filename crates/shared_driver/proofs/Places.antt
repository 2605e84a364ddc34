-- Calls that use a place take no memory, and begin no wait.
use Rattle.std.proofs.Common.{◌≡◌, ℕ, true, false, cond, refl, ap}
use Rattle.egl_calls.specs.Errors.{is_waiting}
use Rattle.std.specs.Prelude.{not, ◌||◌, Bool, Option, None, Some}
use Rattle.egl_calls.specs.Calls.{CallValue}
use Rattle.egl_calls.specs.declared.errors.EglError.{EglError}
use Rattle.egl_calls.specs.declared.errors.GlError.{GlError}
use Rattle.egl_calls.specs.declared.errors.Outcome.TheVariants.{Done, Waiting}
use Rattle.egl_calls.specs.declared.kinds.Kind.{Kind}
use Rattle.egl_calls.specs.declared.kinds.Kind.TheVariants.{Egl, Gl, Own}
use Rattle.egl_calls.specs.declared.kinds.EglKind.{EglKind}
use Rattle.egl_calls.specs.declared.kinds.EglKind.TheVariants.{ClientWaitSync}
use Rattle.egl_calls.specs.declared.kinds.GlKind.{GlKind}
use Rattle.egl_calls.specs.declared.kinds.GlKind.TheVariants.{ReadPixels}
use Rattle.egl_calls.specs.declared.kinds.OwnKind.TheVariants.{Halt}
use Rattle.call_table.specs.Roles.{lets_go}
use Rattle.call_table.specs.Rows.{egl_role, gl_role}
use Rattle.egl_model.specs.Currents.{current_context}
use Rattle.egl_model.specs.Effects.{Effect}
use Rattle.egl_model.specs.EglCalls.{egl_effect, egl_refusal}
use Rattle.egl_model.specs.GlCalls.{gl_effect, gl_refusal}
use Rattle.egl_model.specs.State.{State, record_of}
use Rattle.egl_model.specs.Step.{after_egl_rules, after_gl_rules, egl_step, gl_step, gl_step_on, step, step_by, step_in, wait_step}
use Rattle.egl_model.specs.Waits.{is_signalled, is_wait_end}
use Rattle.driver_facts.proofs.TouchLaws.{gl_never_waits}
use Rattle.driver_facts.specs.Memory.{egl_takes_no_memory, gl_takes_no_memory, takes_no_memory}
use Rattle.shared_driver.specs.Cores.{takes_place}

egl_waits : (s : State) (t : ℕ) (o : Option EglError) (f : Effect) → f.waits ≡ false → is_waiting (after_egl_rules s t o f).reply.outcome ≡ false
egl_waits s t (Some e) f h = refl
egl_waits s t None f h = ap (λ b. is_waiting (cond b Waiting Done)) h

of_egl : (s : State) (t : ℕ) (k : EglKind) (c : CallValue) → (egl_effect s t k c).waits ≡ false → is_waiting (egl_step s t k c).reply.outcome ≡ false
unfolding egl_step
of_egl s t k c h = egl_waits s t (egl_refusal s t k c) (egl_effect s t k c) h

gl_waits : (s : State) (n : ℕ) (o : Option GlError) (f : Effect) → f.waits ≡ false → is_waiting (after_gl_rules s n o f).reply.outcome ≡ false
gl_waits s n (Some e) f h = refl
gl_waits s n None f h = ap (λ b. is_waiting (cond b Waiting Done)) h

gl_on : (s : State) (t : ℕ) (o : Option ℕ) (k : GlKind) (c : CallValue) → ((n : ℕ) → (gl_effect s t n k c).waits ≡ false) → is_waiting (gl_step_on s t o k c).reply.outcome ≡ false
gl_on s t None k c h = refl
gl_on s t (Some n) k c h = gl_waits s n (gl_refusal s t n k c) (gl_effect s t n k c) (h n)

of_gl : (s : State) (t : ℕ) (k : GlKind) (c : CallValue) → ((n : ℕ) → (gl_effect s t n k c).waits ≡ false) → is_waiting (gl_step s t k c).reply.outcome ≡ false
unfolding gl_step
of_gl s t k c h = gl_on s t (current_context s t) k c h

-- of EGL one call alone may wait, and it uses no place
by_kind : (s : State) (t : ℕ) (k : Kind) (c : CallValue) → takes_place k ≡ true → is_waiting (step_by s t k c).reply.outcome ≡ false
by_kind s t (Egl ClientWaitSync) c h = absurd (let e : false ≡ true = h in cc)
by_kind s t (Egl k) c h = of_egl s t k c refl
by_kind s t (Gl k) c h = of_gl s t k c (λ n. gl_never_waits s t n c k)
by_kind s t (Own Halt) c h = refl
by_kind s t (Own k) c h = absurd (let e : false ≡ true = h in cc)

not_end : (k : Kind) → takes_place k ≡ true → is_wait_end k ≡ false
not_end (Egl k) h = refl
not_end (Gl k) h = refl
not_end (Own Halt) h = refl
not_end (Own k) h = absurd (let e : false ≡ true = h in cc)

in_wait : (w : Option ℕ) (s : State) (t : ℕ) (c : CallValue) → takes_place c.kind ≡ true → is_waiting (step_in w s t c).reply.outcome ≡ false
in_wait None s t c h = by_kind s t c.kind c h
in_wait (Some x) s t c h = ap (λ b. is_waiting (wait_step s t b (is_signalled s x)).reply.outcome) (not_end c.kind h)

pub never_waits : (s : State) (t : ℕ) (c : CallValue) → takes_place c.kind ≡ true → is_waiting (step s t c).reply.outcome ≡ false
unfolding step
never_waits s t c h = in_wait (record_of s t).wait s t c h

-- ---- Where a role lets go, no memory is taken.
implied : (a b : Bool) → (not a || b) ≡ true → a ≡ true → b ≡ true
implied true b e h = e
implied false b e h = absurd (let f : false ≡ true = h in cc)

egl_memory : (k : EglKind) → (not (lets_go (egl_role k)) || egl_takes_no_memory k) ≡ true
egl_memory ClientWaitSync = refl
egl_memory k = refl

gl_memory : (k : GlKind) → (not (lets_go (gl_role k)) || gl_takes_no_memory k) ≡ true
gl_memory ReadPixels = refl
gl_memory k = refl

pub place_memory : (k : Kind) → takes_place k ≡ true → takes_no_memory k ≡ true
place_memory (Egl k) h = implied (lets_go (egl_role k)) (egl_takes_no_memory k) (egl_memory k) h
place_memory (Gl k) h = implied (lets_go (gl_role k)) (gl_takes_no_memory k) (gl_memory k) h
place_memory (Own Halt) h = refl
place_memory (Own k) h = absurd (let e : false ≡ true = h in cc)
