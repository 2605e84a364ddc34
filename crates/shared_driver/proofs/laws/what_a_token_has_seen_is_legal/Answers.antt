use Rattle.std.proofs.Common.{ap, subst, ◌++◌}
use Rattle.egl_model.specs.History.{IsLegalFrom}
use Rattle.egl_model.specs.State.{State}
use Rattle.turn_lock.specs.Passes.{view_of}
use Rattle.shared_driver.specs.Cores.{start_in}
use Rattle.shared_driver.proofs.Histories.{legal_from}
use Rattle.shared_driver.proofs.laws.what_a_token_has_seen_is_legal.Goals as goal

pub returns : goal.returns
returns c =
    let t = c.args.thread.now in
    let v = view_of t.hold.pass in
    subst (λ (s : State). IsLegalFrom s (v.seen ++ t.hold.tail.items)) (ap start_in c.requires.owns.0.1) (legal_from (start_in v.first) (v.seen ++ t.hold.tail.items) t.legal)
