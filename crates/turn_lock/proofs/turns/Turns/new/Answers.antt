use Rattle.std.proofs.Common.{sym, ap, subst, ◌∙◌, ◌∷◌, ◌++◌, [], Some}
use Rattle.atomic_table.specs.Table.{opening}
use Rattle.turn_lock.specs.Rule.{Ruled}
use Rattle.turn_lock.specs.Moves.{newcomer}
use Rattle.turn_lock.proofs.Ends.{opens}
use Rattle.turn_lock.proofs.turns.Turns.new.Goals as goal

pub new-requires : goal.new-requires
new-requires g c =
    let k = c.of-first.result in
    let items = c.in-Ok.ensures.items ∙ ap (λ l. l ++ Some c.args.value ∷ []) c.new-slots.ensures.items in
    subst (λ xs. Ruled g.S.Replays.meaning k (opening (0 ∷ 0 ∷ []) xs (newcomer g.S.Replays.meaning k))) (sym items) (opens _ k c.args.value c.of-first.ensures c.requires)
