-- A wait that is ready ends.
use Rattle.std.proofs.Common.{◌≡◌, ℕ, true, false, ap}
use Rattle.std.specs.Prelude.{Option, None, Some}
use Rattle.std.specs.Option.{option_map_or}
use Rattle.egl_model.specs.State.{State, record_of}
use Rattle.egl_model.specs.Step.{step, step_in, wait_step}
use Rattle.egl_model.specs.Waits.{is_ready, is_signalled}
use Rattle.shared_driver.specs.Cores.{wait_end_call, wait_ended}

ends_in : (w : Option ℕ) (s : State) (t : ℕ) → option_map_or (is_signalled s) w false ≡ true → (step_in w s t wait_end_call).reply ≡ wait_ended
ends_in None s t h = absurd (let g : false ≡ true = h in cc)
ends_in (Some x) s t h = ap (λ b. (wait_step s t true b).reply) h

pub ready_ends : (s : State) (t : ℕ) → is_ready s t ≡ true → (step s t wait_end_call).reply ≡ wait_ended
unfolding step
ready_ends s t h = ends_in (record_of s t).wait s t h
