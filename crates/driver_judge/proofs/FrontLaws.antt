-- What a window shows changes nothing.
use Rattle.std.proofs.Common.{◌≡◌, ℕ, refl}
use Rattle.std.specs.Prelude.{Option, None, Some}
use Rattle.egl_model.specs.State.{State}
use Rattle.log_reader.specs.declared.items.Shown.{Shown}
use Rattle.driver_judge.specs.Judging.{KeptValue, Setting, adrift_at, front_by, judge_front}

state_by : (set : Setting) (x : Shown) (o : Option ℕ) (s : State) (k : KeptValue) → s ≡ (front_by set x o s k).after.state
state_by set x None s k = refl
state_by set x (Some line) s k = refl

kept_by : (set : Setting) (x : Shown) (o : Option ℕ) (s : State) (k : KeptValue) → k ≡ (front_by set x o s k).after.kept
kept_by set x None s k = refl
kept_by set x (Some line) s k = refl

pub front_state : (set : Setting) (x : Shown) (s : State) (k : KeptValue) → s ≡ (judge_front set x s k).after.state
unfolding judge_front
front_state set x s k = state_by set x (adrift_at k x.thread) s k

pub front_kept : (set : Setting) (x : Shown) (s : State) (k : KeptValue) → k ≡ (judge_front set x s k).after.kept
unfolding judge_front
front_kept set x s k = kept_by set x (adrift_at k x.thread) s k
