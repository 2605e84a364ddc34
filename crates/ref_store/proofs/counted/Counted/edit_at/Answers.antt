use Rattle.std.proofs.Common.{subst, sym}
use Rattle.ref_store.specs.Kept.{at}
use Rattle.ref_store.specs.Sums.{IsSummed}
use Rattle.ref_store.proofs.SumLaws.{summed_edited}
use Rattle.ref_store.proofs.counted.Counted.edit_at.Goals as goal

pub invariant_of-self : goal.invariant_of-self
invariant_of-self g c =
    let N = g.K.Node in
    let L = g.met.E.Edit.keeps c.args.edit in
    let s = c.self.inside in
    subst (IsSummed N.size N.kind N.mark s.bytes s.counts s.marked) (sym c.edit_at.ensures.others) (summed_edited N.size N.kind N.mark (g.E.Edit.does c.args.edit) (λ x y r d. (L x y r d).same_size) (λ x y r d. (L x y r d).same_kind) (λ x y r d. (L x y r d).same_mark) s.bytes s.counts s.marked s.cells.items c.args.id c.edit_at.result (at c.edit_at.new.cells.items c.args.id) c.self.invariant (rw (← c.self.view_is) at c.requires.inside) c.edit_at.ensures.edits)
