use Rattle.std.proofs.Common.{◌∙◌, ap, refl, Some}
use Rattle.egl_model.specs.Parts.{Private}
use Rattle.turn_lock.specs.Passes.{first_of}
use Rattle.shared_driver.proofs.LateTurns.{held_with, lent_with, owned_with, returned_with}
use Rattle.shared_driver.proofs.tokens.Shared.end_turn_with.Goals as goal

pub give_back-requires-clause-value : goal.give_back-requires-clause-value
give_back-requires-clause-value c =
    let f = (first_of c.args.self.now.turns).value in
    let u = c.args.hold.now in
    let y = c.core_of.result.now in
    let left = c.args.drawing.now in
    let k = lent_with f u c.args.held.value y left c.core_of.ensures.value c.requires.ends in
    returned_with f u y c.part_out-part.new.self c.part_out-part.result left k c.part_out-part.ensures.outside c.part_out-part.ensures.driver c.part_out-part.ensures.kept

pub draw_left-requires : goal.draw_left-requires
draw_left-requires c =
    let f = (first_of c.args.self.now.turns).value in
    let u = c.args.hold.now in
    let y = c.core_of.result.now in
    let left = c.args.drawing.now in
    let k = lent_with f u c.args.held.value y left c.core_of.ensures.value c.requires.ends in
    record { owned = owned_with f u y c.part_out-part.new.self c.part_out-part.result left k c.part_out-part.ensures.outside }

pub returns-clause-holds : goal.returns-clause-holds
returns-clause-holds c =
    let f = first_of c.args.self.now.turns in
    let u = c.args.hold.now in
    let y = c.core_of.result.now in
    let left = c.args.drawing.now in
    let k = lent_with f.value u c.args.held.value y left c.core_of.ensures.value c.requires.ends in
    held_with f u _ y c.part_out-part.new.self c.part_out-part.result left k c.part_out-part.ensures.outside c.requires.lock.0.1 c.give_back.ensures.free c.give_back.ensures.view (refl, refl)
    (c.replace.ensures.after ∙ ap (λ (p : Private). Some p) c.draw_left.ensures) c.part_out-part.ensures.kept
