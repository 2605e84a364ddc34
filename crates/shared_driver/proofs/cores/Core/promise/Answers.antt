use Rattle.std.proofs.Common.{◌≡◌, ◌∙◌, arith, get_or}
use Rattle.std.proofs.lemmas.Grind.{get_or_default_zero}
use Rattle.shared_driver.proofs.Rooms.{room_small}
use Rattle.shared_driver.proofs.cores.Core.promise.Goals as goal

pub overflow_add-room : goal.overflow_add-room
overflow_add-room c =
    let n = c.args.number in
    let rooms = c.args.self.now.rooms.items in
    let is : c.index-room.result.now ≡ get_or rooms n 0 = c.index-room.ensures ∙ get_or_default_zero rooms n c.index-room.result.now c.requires.number in
    omega (arith, is, room_small rooms n c.args.self.now.promised c.requires.number c.requires.owed, c.requires.fits)
