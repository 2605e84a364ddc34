-- Fences that another driver signals earlier than ours (EGL 1.5, section 3.8.1).
use Rattle.std.specs.Prelude.{ℕ, pos, Bool, false, ◌&&◌, ◌||◌, ◌==◌, if◌then◌else◌}
use Rattle.std.specs.Ordering.{int_eq}
use Rattle.egl_calls.specs.Arguments.{number}
use Rattle.egl_calls.specs.Calls.{CallValue}
use Rattle.egl_calls.specs.declared.kinds.Kind.{Kind}
use Rattle.egl_calls.specs.declared.kinds.Kind.TheVariants.{Egl}
use Rattle.egl_calls.specs.declared.kinds.EglKind.TheVariants.{ClientWaitSync, GetSyncAttrib}
use Rattle.egl_calls.specs.declared.places.TheConstants.{ATTRIBUTE}
use Rattle.egl_names.specs.declared.codes.TheConstants.{EGL_CONDITION_SATISFIED, EGL_SIGNALED, EGL_SYNC_STATUS}
use Rattle.egl_model.specs.State.{State}
use Rattle.egl_model.specs.Step.{Stepped, step}
use Rattle.egl_model.specs.Syncs.{serve, sync_handle, waits_forever}
use Rattle.log_reader.specs.declared.answers.Answer.{Answer}

-- whether theirs answers as if the fence were signalled: a wait without a limit that came back, or one that says so, or a question after the status
abbrev pub is_signaled_by : Kind → CallValue → Answer → Bool
is_signaled_by (Egl ClientWaitSync) c a = waits_forever c || int_eq a.value (pos EGL_CONDITION_SATISFIED)
is_signaled_by (Egl GetSyncAttrib) c a = (number c ATTRIBUTE == EGL_SYNC_STATUS) && int_eq a.value (pos EGL_SIGNALED)
is_signaled_by kind c a = false

-- the fence is served first then; of one that is signalled already it changes no answer
abbrev pub served_beside : State → CallValue → Answer → State
served_beside s c a = if is_signaled_by c.kind c a then serve (sync_handle s c) s else s

-- our step for a call that theirs carried out
unfoldable pub step_beside : State → ℕ → CallValue → Answer → Stepped
step_beside s t c a = step (served_beside s c a) t c
