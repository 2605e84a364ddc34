use Rattle.std.proofs.Common.{ltb, leb, List, subst, sym, rules}
use Rattle.std.proofs.lemmas.List.Sorted.{IsPartitionPoint-from_clause, IsPartitionedBy-ltb, IsPartitionedBy-leb, IsNonDecreasingBy-drop}
use Rattle.std.specs.List.Sorted.{IsNonDecreasingBy}
use Rattle.race_report.specs.declared.accesses.Access.{Access}
use Rattle.race_report.proofs.AccessLaws.{found_by_key}
use Rattle.race_report.proofs.accesses.with_key.Goals as goal

pub returns : goal.returns
returns c =
    let xs = c.args.accesses.now in
    let ys = c.split_at.result.1.now in
    let key = c.args.key in
    let front = IsPartitionPoint-from_clause (λ (a : Access). ltb a.key key) xs c.partition_point-from.result c.partition_point-from.ensures.partitioned (IsPartitionedBy-ltb (λ (a : Access). a.key) xs key c.requires) (λ a r q k. search rules) in
    let P : List Access → Type 0 = λ y. IsNonDecreasingBy (λ (a : Access). a.key) y in
    let rising : P ys = subst P (sym c.split_at.ensures.back) (IsNonDecreasingBy-drop (λ (a : Access). a.key) c.partition_point-from.result xs c.requires) in
    let back = IsPartitionPoint-from_clause (λ (a : Access). leb a.key key) ys c.partition_point-to.result c.partition_point-to.ensures.partitioned (IsPartitionedBy-leb (λ (a : Access). a.key) ys key rising) (λ a r q k. search rules) in
    found_by_key key xs ys _ c.partition_point-from.result c.partition_point-to.result c.partition_point-from.ensures.bound c.partition_point-to.ensures.bound c.split_at.ensures.back c.split_at-2.ensures.front front.0 front.1 back.0 back.1
