use Rattle.std.proofs.Common.{◌≡◌, ℕ, ◌-◌, ◌<◌, ◌∙◌, List, ap, sym, subst, get_or, set, length, length-set}
use Rattle.std.proofs.lemmas.Grind.{get_or_default_zero}
use Rattle.shared_driver.proofs.Rooms.{set_less}
use Rattle.shared_driver.proofs.cores.Core.add.Goals as goal

pub returns-clause-rooms : goal.returns-clause-rooms
returns-clause-rooms c =
    let n = c.args.number in
    let rooms = c.args.self.now.rooms.items in
    let room = get_or rooms n 0 - length c.args.tail.now.items in
    let handed = c.hand_in.new.self.rooms.items in
    let its = c.hand_in.ensures.rooms in
    let inside : n < length handed = subst (λ m. n < m) (sym (ap length its ∙ length-set rooms n room)) c.requires.number.1 in
    let is : c.index-room.result.now ≡ get_or handed n 0 = c.index-room.ensures ∙ get_or_default_zero handed n c.index-room.result.now inside in
    c.set_room.ensures.rooms ∙ ap (λ r. set handed n (r - 1)) is ∙ ap (λ (l : List ℕ). set l n (get_or l n 0 - 1)) its ∙ set_less rooms n room 1 c.requires.number.1
