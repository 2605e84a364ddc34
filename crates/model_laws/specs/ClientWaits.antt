-- Where an eglClientWaitSync is satisfied, in the words of the state before the call (EGL 1.5, section 3.8.1.1).
use Rattle.std.specs.Prelude.{◌≡◌, ◌⊎◌, ℕ, true, Some}
use Rattle.egl_calls.specs.Calls.{CallValue}
use Rattle.driver_objects.specs.declared.fences.Fence.{Fence}
use Rattle.egl_model.specs.State.{State}
use Rattle.egl_model.specs.Currents.{current_context}
use Rattle.egl_model.specs.Objects.{fence_in}
use Rattle.egl_model.specs.Syncs.{asks_for_flush}
use Rattle.egl_model.specs.Waits.{is_signalled}

-- the fence was made in the context that is current to the thread
pub record IsOfCurrent (s : State) (t n : ℕ) : Type 0 where
  pub fence : Fence
  pub there : fence_in s.objects n ≡ Some fence
  pub current : current_context s t ≡ Some fence.context

-- the call asks for a flush, and the flush signals the fence
pub record IsFlushed (s : State) (t : ℕ) (c : CallValue) (n : ℕ) : Type 0 where
  pub asked : asks_for_flush c ≡ true
  pub own : IsOfCurrent s t n

abbrev pub IsSatisfied : State → ℕ → CallValue → ℕ → Type 0
IsSatisfied s t c n = (is_signalled s n ≡ true) ⊎ IsFlushed s t c n

abbrev pub IsUnsatisfied : State → ℕ → CallValue → ℕ → Type 0
IsUnsatisfied s t c n = IsSatisfied s t c n → ⊥
