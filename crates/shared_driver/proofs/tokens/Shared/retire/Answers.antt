use Rattle.std.proofs.Common.{arith}
use Rattle.turn_lock.specs.Passes.{first_of}
use Rattle.shared_driver.proofs.Turning.{lent_begun, retired, retired_returns}
use Rattle.shared_driver.proofs.tokens.Shared.retire.Goals as goal

pub give_back-requires-clause-value : goal.give_back-requires-clause-value
give_back-requires-clause-value g c =
    let h = c.args.hold in
    let f = (first_of c.args.self.now.turns).value in
    let u = c.begin_turn-held.new.hold in
    let z = c.core_of-core.result.now in
    let b = lent_begun f h u c.begin_turn-held.result.value z c.core_of-core.ensures.value c.begin_turn-held.ensures.begun in
    let p = c.hand_in.ensures in
    let q = c.leave.ensures in
    retired_returns f h u z c.hand_in.new.self c.leave.new.self _ b p.kept.0 p.entries p.rooms p.owed (omega (arith, p.promised, p.spare, b.turn.spare)) p.kept.1 q.rooms q.owed q.spare q.kept

pub returns-clause-retires : goal.returns-clause-retires
returns-clause-retires g c =
    let h = c.args.hold in
    let f = (first_of c.args.self.now.turns).value in
    let u = c.begin_turn-held.new.hold in
    let z = c.core_of-core.result.now in
    let b = lent_begun f h u c.begin_turn-held.result.value z c.core_of-core.ensures.value c.begin_turn-held.ensures.begun in
    retired f h u z c.hand_in.new.self c.leave.new.self c.give_back.new.pass b c.hand_in.ensures.entries c.leave.ensures.kept.1 c.give_back.ensures.view
