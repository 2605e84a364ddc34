use Rattle.std.proofs.Common.{ap, List, arith}
use Rattle.share_group.specs.declared.names.Name.{Name}
use Rattle.share_group.specs.Trees.{TreeValue}
use Rattle.share_group.proofs.ForkLaws.{fork_put-lower, fork_put-upper, names_put-lower, names_put-upper}
use Rattle.share_group.proofs.trees.Tree.+put.Goals as goal

pub invariant_of-self-then-entry-middle : goal.invariant_of-self-then-entry-middle
invariant_of-self-then-entry-middle t c =
    let f = rw c.in-Fork.is at c.self.invariant in
    fork_put-lower _ _ _ _ _ _ f _ _ c.put.new.self c.deref_mut.result.now c.deref.result.now c.deref-then-entry-middle.result.now c.args.entry (rw (← c.self.view_is) at c.requires).0 (omega (arith, c.middle.ensures.middle, c.if-entry-middle.true)) c.in_ok-put-in-Fork.ensures.put c.deref_mut.ensures.value c.deref.ensures c.deref-then-entry-middle.ensures c.counts-counts.ensures.names c.counts-counts.ensures.objects

pub returns-then-entry-middle-clause-put : goal.returns-then-entry-middle-clause-put
returns-then-entry-middle-clause-put t c =
    let f = rw c.in-Fork.is at c.self.invariant in
    rw (← c.self.view_is, c.in-Fork.is) (ap (λ (xs : List Name). let r : TreeValue = record { low = c.self.inside.low; last = c.self.inside.last; names = xs } in r) (names_put-lower _ _ _ _ _ _ f c.put.new.self c.deref_mut.result.now c.middle.result c.middle.ensures.middle c.args.entry c.if-entry-middle.true c.in_ok-put-in-Fork.ensures.put c.deref_mut.ensures.value))

pub invariant_of-self-in-Fork : goal.invariant_of-self-in-Fork
invariant_of-self-in-Fork t c =
    let f = rw c.in-Fork.is at c.self.invariant in
    fork_put-upper _ _ _ _ _ _ f _ _ c.put-in-Fork.new.self c.deref_mut-in-Fork.result.now c.deref-in-Fork.result.now c.deref-in-Fork-2.result.now c.args.entry (omega (arith, c.middle.ensures.middle, c.if-entry-middle.false)) (rw (← c.self.view_is) at c.requires).1 c.in_ok-put-in-Fork-2.ensures.put c.deref_mut-in-Fork.ensures.value c.deref-in-Fork.ensures c.deref-in-Fork-2.ensures c.counts-counts-in-Fork.ensures.names c.counts-counts-in-Fork.ensures.objects

pub returns-in_ok-put-in-Fork-2-clause-put : goal.returns-in_ok-put-in-Fork-2-clause-put
returns-in_ok-put-in-Fork-2-clause-put t c =
    let f = rw c.in-Fork.is at c.self.invariant in
    rw (← c.self.view_is, c.in-Fork.is) (ap (λ (xs : List Name). let r : TreeValue = record { low = c.self.inside.low; last = c.self.inside.last; names = xs } in r) (names_put-upper _ _ _ _ _ _ f c.put-in-Fork.new.self c.deref_mut-in-Fork.result.now c.middle.result c.middle.ensures.middle c.args.entry c.if-entry-middle.false c.in_ok-put-in-Fork-2.ensures.put c.deref_mut-in-Fork.ensures.value))
