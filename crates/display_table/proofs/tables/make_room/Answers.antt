use Rattle.std.proofs.Common.{ℕ, Option, is_some, rules}
use Rattle.std.proofs.lemmas.Map.Made.{filter_same_pairs}
use Rattle.display_table.specs.declared.handles.Handle.{Handle}
use Rattle.display_table.proofs.PlaceLaws.{at_number-filter, rises-filter}
use Rattle.display_table.proofs.tables.make_room.Goals as goal

pub returns-then-handles-len-clause-same : goal.returns-then-handles-len-clause-same
returns-then-handles-len-clause-same c n =
    let kept = filter_same_pairs _ (λ (e : ℕ × Option Handle). is_some e.1) _ (λ k v b w f' t. search rules) _ _ c.retain.ensures.filtered in
    rw kept (at_number-filter _ c.len.ensures.unique n)

pub returns-then-handles-len-clause-rise : goal.returns-then-handles-len-clause-rise
returns-then-handles-len-clause-rise c end r =
    let kept = filter_same_pairs _ (λ (e : ℕ × Option Handle). is_some e.1) _ (λ k v b w f' t. search rules) _ _ c.retain.ensures.filtered in
    rw kept (rises-filter _ end r)
