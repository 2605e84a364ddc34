use Rattle.std.proofs.Common.{ap, List}
use Rattle.share_group.specs.declared.names.Name.{Name}
use Rattle.share_group.specs.Trees.{TreeValue}
use Rattle.share_group.proofs.ForkLaws.{fork_without-lower, fork_without-upper, names_without-lower, names_without-upper}
use Rattle.share_group.proofs.trees.Tree.+remove.Goals as goal

pub invariant_of-self-then-name-middle : goal.invariant_of-self-then-name-middle
invariant_of-self-then-name-middle t c =
    let f = rw c.in-Fork.is at c.self.invariant in
    fork_without-lower _ _ _ _ _ _ f _ _ c.remove.new.self c.deref_mut.result.now c.deref.result.now c.deref-then-name-middle.result.now c.args.name c.remove.ensures c.deref_mut.ensures.value c.deref.ensures c.deref-then-name-middle.ensures c.counts-counts.ensures.names c.counts-counts.ensures.objects

pub returns-then-name-middle : goal.returns-then-name-middle
returns-then-name-middle t c =
    let f = rw c.in-Fork.is at c.self.invariant in
    rw (← c.self.view_is, c.in-Fork.is) (ap (λ (xs : List Name). let r : TreeValue = record { low = c.self.inside.low; last = c.self.inside.last; names = xs } in r) (names_without-lower _ _ _ _ _ _ f c.remove.new.self c.deref_mut.result.now c.middle.result c.middle.ensures.middle c.args.name c.if-name-middle.true c.remove.ensures c.deref_mut.ensures.value))

pub invariant_of-self-in-Fork : goal.invariant_of-self-in-Fork
invariant_of-self-in-Fork t c =
    let f = rw c.in-Fork.is at c.self.invariant in
    fork_without-upper _ _ _ _ _ _ f _ _ c.remove-in-Fork.new.self c.deref_mut-in-Fork.result.now c.deref-in-Fork.result.now c.deref-in-Fork-2.result.now c.args.name c.remove-in-Fork.ensures c.deref_mut-in-Fork.ensures.value c.deref-in-Fork.ensures c.deref-in-Fork-2.ensures c.counts-counts-in-Fork.ensures.names c.counts-counts-in-Fork.ensures.objects

pub returns-else-counts-eq0-2 : goal.returns-else-counts-eq0-2
returns-else-counts-eq0-2 t c =
    let f = rw c.in-Fork.is at c.self.invariant in
    rw (← c.self.view_is, c.in-Fork.is) (ap (λ (xs : List Name). let r : TreeValue = record { low = c.self.inside.low; last = c.self.inside.last; names = xs } in r) (names_without-upper _ _ _ _ _ _ f c.remove-in-Fork.new.self c.deref_mut-in-Fork.result.now c.middle.result c.middle.ensures.middle c.args.name c.if-name-middle.false c.remove-in-Fork.ensures c.deref_mut-in-Fork.ensures.value))
