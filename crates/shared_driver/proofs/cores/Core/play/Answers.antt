use Rattle.std.proofs.Common.{ℕ, ◌+◌, ◌-◌, ◌∙◌, List, ap, get_or, set, length}
use Rattle.shared_driver.proofs.Rooms.{set_more}
use Rattle.shared_driver.proofs.cores.Core.play.Goals as goal

pub returns-clause-rooms : goal.returns-clause-rooms
returns-clause-rooms c =
    let n = c.args.number in
    let rooms = c.args.self.now.rooms.items in
    c.promise.ensures.rooms ∙ ap (λ (l : List ℕ). set l n (get_or l n 0 + c.args.more)) c.hand_in.ensures.rooms ∙ set_more rooms n (get_or rooms n 0 - length c.args.tail.now.items) c.args.more c.requires.number.1
