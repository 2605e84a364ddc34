use Rattle.std.proofs.Common.{◌∙◌, ◌+◌, length, ap}
use Rattle.shared_driver.specs.Cores.{place_for, room_for}
use Rattle.shared_driver.proofs.Turning.{no_place, unused}
use Rattle.shared_driver.proofs.laws.a_token_has_the_room_it_needs.Goals as goal

pub returns-clause-room : goal.returns-clause-room
returns-clause-room c =
    let t = c.args.thread.now in
    t.room ∙ no_place (room_for t.halt_used + t.places + length t.hold.tail.items) (place_for t.end_kept) (ap place_for c.requires.owns.1)

pub returns-clause-halt : goal.returns-clause-halt
returns-clause-halt c none =
    let t = c.args.thread.now in
    unused t.halt_used t.halted t.used (t.halts ∙ none)
