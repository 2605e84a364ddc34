use Rattle.std.proofs.Common.{ℕ, subst}
use Rattle.model_laws.specs.Frame.{AreOf}
use Rattle.egl_model.specs.History.{replay_from}
use Rattle.turn_lock.specs.Passes.{view_of}
use Rattle.shared_driver.specs.Cores.{start_in}
use Rattle.shared_driver.proofs.Histories.{of_thread}
use Rattle.shared_driver.proofs.laws.a_token_keeps_its_own_calls.Goals as goal

pub returns : goal.returns
returns c =
    let t = c.args.thread.now in
    let P : ℕ → Type 0 = λ n. AreOf n t.hold.tail.items in
    subst P t.numbered (of_thread (replay_from (start_in (view_of t.hold.pass).first) (view_of t.hold.pass).seen) t.hold.number t.hold.tail.items t.local)
