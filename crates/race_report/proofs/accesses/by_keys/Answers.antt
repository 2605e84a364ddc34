use Rattle.std.proofs.Common.{rules}
use Rattle.std.proofs.lemmas.List.Sorted.{IsNonDecreasingBy-from_sort_by_key}
use Rattle.race_report.specs.declared.accesses.Access.{Access}
use Rattle.race_report.proofs.accesses.by_keys.Goals as goal

pub returns-in-Ok-clause-rising : goal.returns-in-Ok-clause-rising
returns-in-Ok-clause-rising c = rw c.from_vec.ensures (IsNonDecreasingBy-from_sort_by_key (λ (a : Access). a.key) _ c.in-Ok.ensures.sorted (λ a r q k. search rules))
