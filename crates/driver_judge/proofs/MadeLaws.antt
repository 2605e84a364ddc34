-- Calls that make a handle, and what a step leaves of handles.
use Rattle.std.proofs.Common.{◌≡◌, ℕ, ◌≤◌, ◌<◌, true, false, List, [], ◌∷◌, map, refl, sym, ap, subst, ◌∙◌, arith, is_some, if◌then◌else◌, Option, None, Some}
use Rattle.std.specs.Prelude.{nat_le}
use Rattle.std.specs.Option.{option_map_or}
use Rattle.std.proofs.lemmas.Bool.{not-false}
use Rattle.std.proofs.lemmas.Bool.Decides.{nat_tests}
use Rattle.call_rules.proofs.EglLaws.{refused_not, rows_off}
use Rattle.call_rules.specs.EglRules.{egl_rows, egl_rows_by}
use Rattle.call_rules.specs.declared.egl_facts.EglFacts.{EglFacts}
use Rattle.display_table.specs.declared.TheConstants.{HANDLES_END}
use Rattle.display_table.specs.declared.handles.HandleKind.{HandleKind}
use Rattle.driver_facts.specs.Verdicts.{refusals, refusals_by}
use Rattle.driver_facts.specs.declared.verdicts.Refusals.TheVariants.{Unjudged}
use Rattle.egl_calls.specs.Calls.{CallValue}
use Rattle.egl_calls.specs.declared.errors.EglError.{EglError}
use Rattle.egl_calls.specs.declared.kinds.EglKind.{EglKind}
use Rattle.egl_calls.specs.declared.kinds.EglKind.TheVariants.{CreateContext, CreateImage, CreatePbufferSurface, CreateSync, CreateWindowSurface}
use Rattle.egl_calls.specs.declared.kinds.Kind.{Kind}
use Rattle.egl_calls.specs.declared.kinds.Kind.TheVariants.{Egl, Gl, Own}
use Rattle.egl_model.specs.EglCalls.{egl_refusal}
use Rattle.egl_model.specs.Facts.{facts_of}
use Rattle.egl_model.specs.State.{State, record_of}
use Rattle.egl_model.specs.Step.{Stepped, bare, step, wait_step}
use Rattle.egl_model.specs.Waits.{is_signalled, is_wait_end}
use Rattle.egl_calls.specs.declared.errors.Outcome.TheVariants.{InWait}
use Rattle.model_laws.specs.Extents.{extent_of_kind, made_handle}
use Rattle.model_laws.specs.Laws.{IsAllowedEgl}
use Rattle.model_laws.proofs.Handles.NewHandleLaws.{gets_handle}
use Rattle.model_laws.proofs.Steps.RefusalLaws.{refused_egl_state}
use Rattle.model_laws.proofs.Steps.StepKeeps.{next-step}
use Rattle.model_laws.proofs.Steps.StepLaws.{step_waits}
use Rattle.refusal_rows.specs.Rows.{AllOff, held}
use Rattle.log_reader.specs.declared.outcomes.LogOutcome.TheVariants.{Egl as Refused}
use Rattle.driver_judge.specs.Outcomes.{errors_in, errors_of}
use Rattle.driver_judge.proofs.CameLaws.{few_egl}
use Rattle.driver_judge.proofs.RowLaws.{none_in}

-- ---- What a call that makes a handle asks first, and last.
pub record MayMake (f : EglFacts) : Type 0 where
  pub display : f.is_display ≡ true
  pub initialized : f.is_initialized ≡ true
  pub left : f.are_handles_used_up ≡ false

may_make : (k : EglKind) (kind : HandleKind) (c : CallValue) (f : EglFacts) → made_handle k ≡ Some kind → AllOff (egl_rows k c f) → MayMake f
may_make CreateWindowSurface kind c f e a = record { display = not-false _ a.0; initialized = not-false _ a.1.0; left = a.1.1.1.1.1.1.1.1.0 }
may_make CreatePbufferSurface kind c f e a = record { display = not-false _ a.0; initialized = not-false _ a.1.0; left = a.1.1.1.1.1.1.1.0 }
may_make CreateContext kind c f e a = record { display = not-false _ a.0; initialized = not-false _ a.1.0; left = a.1.1.1.1.1.1.1.1.0 }
may_make CreateSync kind c f e a = record { display = not-false _ a.0; initialized = not-false _ a.1.0; left = a.1.1.1.1.1.0 }
may_make CreateImage kind c f e a = record { display = not-false _ a.0; initialized = not-false _ a.1.0; left = a.1.1.1.1.1.1.1.1.1.0 }
may_make k kind c f e a = absurd (cc e)

-- where no row of such a call holds, no rule refuses it
no_more : (es : List EglError) → map Refused es ≡ [] → es ≡ []
no_more [] h = refl
no_more (e ∷ es) h = cc

rows_are_off : (s : State) (t : ℕ) (k : EglKind) (c : CallValue) → c.kind ≡ Egl k → (record_of s t).wait ≡ None → errors_of (refusals s t c) ≡ [] → AllOff (egl_rows k c (facts_of s t c))
unfolding refusals
rows_are_off s t k c h w none =
    let f : EglFacts = facts_of s t c in
    let goes : errors_of (refusals s t c) ≡ errors_of (refusals_by s t c.kind c) = ap (λ (o : Option ℕ). errors_of (if is_some o then Unjudged else refusals_by s t c.kind c)) w in
    let judged : errors_of (refusals_by s t c.kind c) ≡ errors_of (refusals_by s t (Egl k) c) = ap (λ (x : Kind). errors_of (refusals_by s t x c)) h in
    let rows : errors_of (refusals_by s t (Egl k) c) ≡ map Refused (errors_in (held 16 (egl_rows k c f))) = ap (λ (x : Kind). map Refused (errors_in (held 16 (egl_rows_by x c f)))) h in
    none_in 16 (egl_rows k c f) (few_egl (Egl k) c f) (no_more (errors_in (held 16 (egl_rows k c f))) (sym (goes ∙ judged ∙ rows) ∙ none))

pub made_is_allowed : (s : State) (t : ℕ) (k : EglKind) (kind : HandleKind) (c : CallValue) → c.kind ≡ Egl k → made_handle k ≡ Some kind → (record_of s t).wait ≡ None → errors_of (refusals s t c) ≡ [] → IsAllowedEgl s t k c × MayMake (facts_of s t c)
unfolding egl_refusal
made_is_allowed s t k kind c h e w none =
    let off = rows_are_off s t k c h w none in (
      record { call = record { kind = h; goes = w }; allowed = refused_not c (facts_of s t c) k h off },
      may_make k kind c (facts_of s t c) e off,
    )

-- ---- Numbers of handles end where they have to.
room : (n : ℕ) → nat_le HANDLES_END n ≡ false → n < HANDLES_END
room n h = grind (arith, nat_tests, h)

quiet_most : (s : State) (t : ℕ) (c : CallValue) → (extent_of_kind c.kind).handles ≡ 0 → s.next_handle ≤ HANDLES_END → (step s t c).state.next_handle ≤ HANDLES_END
quiet_most s t c q m = let e = next-step s t c q in omega (arith, e, m)

pub held_up : (s : State) (t : ℕ) (k : EglKind) (c : CallValue) (sync : ℕ) → c.kind ≡ Egl k → (record_of s t).wait ≡ Some sync → step s t c ≡ record { reply = bare InWait; state = s }
held_up s t k c sync h w = step_waits s t c sync w ∙ ap (λ b. wait_step s t b (is_signalled s sync)) (ap is_wait_end h)

allowed_most : (s : State) (t : ℕ) (k : EglKind) (kind : HandleKind) (c : CallValue) → made_handle k ≡ Some kind → IsAllowedEgl s t k c → s.next_handle ≤ HANDLES_END → (step s t c).state.next_handle ≤ HANDLES_END
unfolding egl_refusal
allowed_most s t k kind c e a m =
    let next = (gets_handle s t k c kind a e).next in
    let left = room s.next_handle (may_make k kind c (facts_of s t c) e (rows_off c (facts_of s t c) k a.call.kind a.allowed)).left in
    omega (arith, next, left)

going_most : (s : State) (t : ℕ) (k : EglKind) (kind : HandleKind) (c : CallValue) (o : Option EglError) → c.kind ≡ Egl k → made_handle k ≡ Some kind → (record_of s t).wait ≡ None → egl_refusal s t k c ≡ o → s.next_handle ≤ HANDLES_END → (step s t c).state.next_handle ≤ HANDLES_END
going_most s t k kind c None h e w r m = allowed_most s t k kind c e (record { call = record { kind = h; goes = w }; allowed = r }) m
going_most s t k kind c (Some x) h e w r m = subst (λ (a : State). a.next_handle ≤ HANDLES_END) (sym (refused_egl_state s t k c x (record { call = record { kind = h; goes = w }; refused = r }))) m

making_most : (s : State) (t : ℕ) (k : EglKind) (kind : HandleKind) (c : CallValue) (w : Option ℕ) → c.kind ≡ Egl k → made_handle k ≡ Some kind → (record_of s t).wait ≡ w → s.next_handle ≤ HANDLES_END → (step s t c).state.next_handle ≤ HANDLES_END
making_most s t k kind c None h e w m = going_most s t k kind c (egl_refusal s t k c) h e w refl m
making_most s t k kind c (Some sync) h e w m = subst (λ (x : Stepped). x.state.next_handle ≤ HANDLES_END) (sym (held_up s t k c sync h w)) m

egl_most : (s : State) (t : ℕ) (k : EglKind) (o : Option HandleKind) (c : CallValue) → c.kind ≡ Egl k → made_handle k ≡ o → s.next_handle ≤ HANDLES_END → (step s t c).state.next_handle ≤ HANDLES_END
egl_most s t k None c h e m = quiet_most s t c (ap (λ (x : Kind). (extent_of_kind x).handles) h ∙ ap (λ (o : Option HandleKind). option_map_or (λ x. 1) o 0) e) m
egl_most s t k (Some kind) c h e m = making_most s t k kind c (record_of s t).wait h e refl m

by_kind_most : (s : State) (t : ℕ) (k : Kind) (c : CallValue) → c.kind ≡ k → s.next_handle ≤ HANDLES_END → (step s t c).state.next_handle ≤ HANDLES_END
by_kind_most s t (Egl k) c h m = egl_most s t k (made_handle k) c h refl m
by_kind_most s t (Gl k) c h m = quiet_most s t c (ap (λ (x : Kind). (extent_of_kind x).handles) h) m
by_kind_most s t (Own k) c h m = quiet_most s t c (ap (λ (x : Kind). (extent_of_kind x).handles) h) m

pub step_most : (s : State) (t : ℕ) (c : CallValue) → s.next_handle ≤ HANDLES_END → (step s t c).state.next_handle ≤ HANDLES_END
step_most s t c m = by_kind_most s t c.kind c refl m
