-- What a client wait answers.
use Rattle.std.proofs.Common.{◌≡◌, ℕ, pos, Bool, true, false, cond, ◌&&◌, not, [], Option, Some, refl, ap, ◌∙◌}
use Rattle.egl_calls.specs.Calls.{CallValue, ReplyValue}
use Rattle.egl_calls.specs.declared.kinds.EglKind.TheVariants.{ClientWaitSync}
use Rattle.egl_calls.specs.declared.errors.Outcome.TheVariants.{Done, Waiting}
use Rattle.egl_names.specs.declared.codes.TheConstants.{EGL_CONDITION_SATISFIED, EGL_TIMEOUT_EXPIRED}
use Rattle.display_table.specs.declared.handles.Handle.{Handle}
use Rattle.egl_model.specs.State.{State}
use Rattle.egl_model.specs.Step.{Stepped, bare, done, step}
use Rattle.egl_model.specs.Syncs.{client_waited, flush_for, sync_handle, waits_forever}
use Rattle.egl_model.specs.Waits.{is_signalled}
use Rattle.model_laws.specs.Laws.{IsAllowedEgl}
use Rattle.model_laws.proofs.Steps.RefusalLaws.{egl_call}
use Rattle.model_laws.proofs.Steps.StepLaws.{egl_done}

-- what comes out, by whether the sync is signalled and whether the wait is for ever
abbrev outcome_by : Bool → Bool → ReplyValue
outcome_by signalled forever = record {
  outcome = cond (forever && not signalled) Waiting Done;
  value = cond signalled (pos EGL_CONDITION_SATISFIED) (cond forever (pos 0) (pos EGL_TIMEOUT_EXPIRED));
  list = [];
  bytes = [];
}

pub reply_is : (s : State) (t : ℕ) (c : CallValue) (h : Handle) → IsAllowedEgl s t ClientWaitSync c → sync_handle s c ≡ Some h →
    (step s t c).reply ≡ outcome_by (is_signalled (flush_for c t h.object s) h.object) (waits_forever c)
reply_is s t c h a e =
    ap (λ (x : Stepped). x.reply) (egl_call s t ClientWaitSync c a.call ∙ egl_done s t ClientWaitSync c a.allowed)
    ∙ ap (λ (o : Option Handle). done (client_waited c t o s)) e

pub by_tests : (s : State) (t : ℕ) (c : CallValue) (h : Handle) (signalled forever : Bool) → IsAllowedEgl s t ClientWaitSync c → sync_handle s c ≡ Some h →
    is_signalled (flush_for c t h.object s) h.object ≡ signalled → waits_forever c ≡ forever → (step s t c).reply ≡ outcome_by signalled forever
by_tests s t c h signalled forever a e i f = reply_is s t c h a e ∙ ap (λ b. outcome_by b (waits_forever c)) i ∙ ap (outcome_by signalled) f

pub is_satisfied : (s : State) (t : ℕ) (c : CallValue) (h : Handle) → IsAllowedEgl s t ClientWaitSync c → sync_handle s c ≡ Some h → is_signalled (flush_for c t h.object s) h.object ≡ true →
    (step s t c).reply ≡ record (bare Done) { value = pos EGL_CONDITION_SATISFIED }
is_satisfied s t c h a e i = by_forever (waits_forever c) refl
  where
    by_forever : (b : Bool) → waits_forever c ≡ b → (step s t c).reply ≡ record (bare Done) { value = pos EGL_CONDITION_SATISFIED }
    by_forever true f = by_tests s t c h true true a e i f
    by_forever false f = by_tests s t c h true false a e i f
