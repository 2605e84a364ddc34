use Rattle.std.proofs.Common.{◌≡◌, ℕ, ◌<◌, get_or, false}
use Rattle.egl_names.specs.Joined.{is_bar}
use Rattle.egl_names.proofs.joined.bar_at.Given as goal

abbrev pub invariant-loop-i : goal.invariant-loop-i
invariant-loop-i l = (k : ℕ) → k < l.i → is_bar (get_or l.word k 0) ≡ false
