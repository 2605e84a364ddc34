use Rattle.std.proofs.Common.{◌++◌, ◌∙◌, ap, refl, Some}
use Rattle.egl_model.specs.History.{replay_from}
use Rattle.egl_model.specs.Parts.{Private}
use Rattle.turn_lock.specs.Passes.{first_of}
use Rattle.shared_driver.specs.Cores.{origin}
use Rattle.shared_driver.proofs.Histories.{ready_replay}
use Rattle.shared_driver.proofs.Turning.{held_again, lent_ends, returned}
use Rattle.shared_driver.proofs.tokens.Shared.end_turn.Goals as goal

pub give_back-requires-clause-value : goal.give_back-requires-clause-value
give_back-requires-clause-value c =
    let f = (first_of c.args.self.now.turns).value in
    let u = c.args.hold.now in
    let y = c.core_of.result.now in
    let k = lent_ends f u c.args.held.value y c.core_of.ensures.value c.requires.ends in
    let es = y.journal.entries ++ u.tail.items in
    returned f u y c.part_out-part.new.self k (c.part_out-part.ensures.outside (replay_from (origin f) es) (ready_replay (origin f) u.number es k.turn.ready) k.turn.driver).1 c.part_out-part.ensures.driver c.part_out-part.ensures.kept

pub returns-clause-holds : goal.returns-clause-holds
returns-clause-holds c =
    let f = first_of c.args.self.now.turns in
    let u = c.args.hold.now in
    let y = c.core_of.result.now in
    let k = lent_ends f.value u c.args.held.value y c.core_of.ensures.value c.requires.ends in
    let es = y.journal.entries ++ u.tail.items in
    held_again f u _ y c.part_out-part.new.self k c.requires.lock.0.1 c.give_back.ensures.free c.give_back.ensures.view (refl, refl)
    (c.replace.ensures.after ∙ ap (λ (p : Private). Some p) (c.part_out-part.ensures.outside (replay_from (origin f.value) es) (ready_replay (origin f.value) u.number es k.turn.ready) k.turn.driver).0) c.part_out-part.ensures.kept
