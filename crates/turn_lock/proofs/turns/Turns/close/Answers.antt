use Rattle.std.proofs.Common.{sym, ap, subst, ◌∙◌}
use Rattle.turn_lock.specs.Values.{Leaves}
use Rattle.turn_lock.proofs.Lists.{no_value, value_or}
use Rattle.turn_lock.proofs.Ends.{ends}
use Rattle.turn_lock.proofs.turns.Turns.close.Goals as goal

pub unreachable-requires : goal.unreachable-requires
unreachable-requires g c =
    let e = ends g.S.Replays.meaning c.args.self.table.shared.key _ c.args.pass.seat.me.0 _ _ c.take-found.result c.requires.free.0 c.requires.free.2 c.requires.sole c.close_with-closed.ensures.values.2 c.take-found.ensures.value in
    no_value c.take-found.result e.value c.in_default.is e.is

pub returns : goal.returns
returns g c =
    let e = ends g.S.Replays.meaning c.args.self.table.shared.key _ c.args.pass.seat.me.0 _ _ c.take-found.result c.requires.free.0 c.requires.free.2 c.requires.sole c.close_with-closed.ensures.values.2 c.take-found.ensures.value in
    subst (λ x. Leaves g.S.Replays.meaning c.args.self.table.shared.key.value c.args.pass.seat.me.0 x) (ap (value_or e.value) (sym e.is ∙ c.in-Some.is)) e.leaves
