-- Which calls turn no flag of a display, and which may wait.
use Rattle.std.proofs.Common.{◌≡◌, ◌≢◌, ◌⊎◌, inl, inr, ℕ, false, refl}
use Rattle.egl_calls.specs.Calls.{CallValue}
use Rattle.egl_calls.specs.declared.kinds.Kind.{Kind}
use Rattle.egl_calls.specs.declared.kinds.Kind.TheVariants.{Egl}
use Rattle.egl_calls.specs.declared.kinds.EglKind.{EglKind}
use Rattle.egl_calls.specs.declared.kinds.EglKind.TheVariants.{Initialize, Terminate, ClientWaitSync}
use Rattle.model_laws.specs.Extents.{extent_of_kind, egl_extent}
use Rattle.egl_model.specs.State.{State}
use Rattle.egl_model.specs.EglCalls.{egl_effect}

pub turns_no_flag : (k : Kind) → k ≢ Egl Initialize → k ≢ Egl Terminate → (extent_of_kind k).flags ≡ false
turns_no_flag (Egl Initialize) i e = absurd (i refl)
turns_no_flag (Egl Terminate) i e = absurd (e refl)
turns_no_flag k i e = refl

-- one call may wait, and makes no handle
pub done_or_quiet : (s : State) (t : ℕ) (c : CallValue) (k : EglKind) → ((egl_effect s t k c).waits ≡ false) ⊎ ((egl_extent k).handles ≡ 0)
done_or_quiet s t c ClientWaitSync = inr refl
done_or_quiet s t c k = inl refl

pub is_done : (s : State) (t : ℕ) (c : CallValue) (k : EglKind) → k ≢ ClientWaitSync → (egl_effect s t k c).waits ≡ false
is_done s t c ClientWaitSync e = absurd (e refl)
is_done s t c k e = refl
