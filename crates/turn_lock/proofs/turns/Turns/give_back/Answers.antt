use Rattle.std.proofs.Common.{rules, ap, ◌∙◌, ◌∷◌, Some}
use Rattle.atomic_table.specs.Table.{rest}
use Rattle.turn_lock.proofs.Passing.{passes_as}
use Rattle.turn_lock.proofs.turns.Turns.give_back.Goals as goal

pub fetch_add-served-requires : goal.fetch_add-served-requires
fetch_add-served-requires g c =
    let e = c.exchange-nothing.ensures in
    let v = c.args.pass.now.seat.me.0 in
    (e.0 ∙ c.requires.lock.0.0, search rules, passes_as _ _ _ _ _ v c.args.held.value (e.3 ∙ ap (λ l. (v, (0, Some c.args.held.value) ∷ rest l)) c.requires.turn.2) c.requires.turn.0 c.requires.turn.1 c.requires.value)
