use Rattle.std.proofs.Common.{◌≡◌, ℕ, List, subst}
use Rattle.std.specs.Prelude.{IfOk}
use Rattle.egl_calls.specs.declared.errors.Outcome.TheVariants.{Done}
use Rattle.egl_model.specs.Step.{bare}
use Rattle.driver_core.proofs.machine.Driver.plain_effect.Goals as goal

pub returns-in_ok-read_pixels-in-ReadPixels-clause-reply : goal.returns-in_ok-read_pixels-in-ReadPixels-clause-reply
returns-in_ok-read_pixels-in-ReadPixels-clause-reply g c =
    let P : List ℕ → Type 0 = λ bytes. IfOk c.read.result (λ r. g.R.Replies.reply r ≡ record (bare Done) { bytes = bytes }) in
    rw (← c.self.view_is) (rw c.in-ReadPixels.is (subst P c.in_ok-read_pixels-in-ReadPixels.ensures c.read.ensures))
