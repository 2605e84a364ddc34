use Rattle.std.proofs.Common.{rules, ap, ◌∙◌}
use Rattle.turn_lock.proofs.Joining.{joins, tells, told_joined}
use Rattle.turn_lock.proofs.turns.Turns.join.Goals as goal

pub join_seat-requires : goal.join_seat-requires
join_seat-requires g c =
    let t = c.requires.turn.0 in
    let f = c.requires.turn.1 in
    (c.requires.lock.0.0, c.requires.lock.1.0, f.3, search rules, joins _ _ _ _ _ _ t.0 t.1 f.0 f.1 f.2 c.requires.empty)

pub load-requires : goal.load-requires
load-requires g c =
    let j = c.join_seat.ensures in
    (j.0 ∙ c.requires.lock.0.0, search rules, tells _ _ _ _ _ (ap (λ me. me.0.live) j.2 ∙ c.requires.turn.0.0))

pub returns-clause-includes : goal.returns-clause-includes
returns-clause-includes g c =
    (told_joined g.S.Replays.meaning c.args.self.now.table.shared.key c.args.into.now.seat.me.0 c.args.other.seat.me.0 c.join_seat.new.seat.me.0 (ap (λ me. me.0) c.join_seat.ensures.2) c.load.ensures.2.1).0

pub returns-clause-disjoint : goal.returns-clause-disjoint
returns-clause-disjoint g c =
    (told_joined g.S.Replays.meaning c.args.self.now.table.shared.key c.args.into.now.seat.me.0 c.args.other.seat.me.0 c.join_seat.new.seat.me.0 (ap (λ me. me.0) c.join_seat.ensures.2) c.load.ensures.2.1).1
