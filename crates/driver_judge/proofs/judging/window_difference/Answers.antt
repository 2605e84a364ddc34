use Rattle.std.proofs.Common.{◌≡◌, ◌∙◌, ap, ℤ, w64}
use Rattle.std.specs.Prelude.{option_copied}
use Rattle.std.proofs.lemmas.Int.{to_z-of_z}
use Rattle.egl_calls.specs.Ranges.{unsigned}
use Rattle.egl_model.specs.Windows.{front_of}
use Rattle.driver_judge.proofs.judging.window_difference.Goals as goal

pub returns : goal.returns
returns c =
    let e : option_copied c.front-front.result ≡ front_of (unsigned c.args.window) c.args.driver.now.state = c.front-front.ensures ∙ ap (λ (w : ℤ). front_of (unsigned w) c.args.driver.now.state) (to_z-of_z w64 c.args.window c.ranges.window) in
    simp e at c.front_difference.ensures
