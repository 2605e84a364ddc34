use Rattle.std.proofs.Common.{None, arith, map, sym, ◌∙◌, inl, inr}
use Rattle.std.proofs.Math.ListN.{get_or-map}
use Rattle.std.proofs.lemmas.Bool.{cases_eq}
use Rattle.std.proofs.lemmas.List.{ext_get_or, get_or-set_other, get_or-set_same, length-map, length-set}
use Rattle.object_table.specs.Samples.{shape_by, stored_in}
use Rattle.object_table.proofs.samples.shapes_at.Goals as goal

pub levels-preserved : goal.levels-preserved
levels-preserved c = record {
  long = length-set c.levels.shapes c.levels.k c.shape_at.result ∙ c.levels.invariant.long;
  each = λ j h. elim (cases_eq j c.levels.k) [
    | inl e ↦ rw e (get_or-set_same c.levels.shapes c.levels.k c.shape_at.result None (let m = c.levels.invariant.long in let l = c.levels-test.true in omega (arith, m, l)) ∙ c.shape_at.ensures)
    | inr ne ↦ get_or-set_other c.levels.shapes c.levels.k j c.shape_at.result None ne ∙ c.levels.invariant.each j (omega arith)
  ];
}

pub returns : goal.returns
returns c =
    let m = c.levels.invariant.long in let n = c.told-levels in let far = c.levels-test.false in
    ext_get_or None c.levels.shapes (map (shape_by (stored_in c.args.store.now.nodes)) c.args.levels.now) (m ∙ sym n ∙ sym (length-map c.args.levels.now (shape_by (stored_in c.args.store.now.nodes))))
    (λ j h. c.levels.invariant.each j (omega (arith, m, far, h)) ∙ sym (get_or-map (shape_by (stored_in c.args.store.now.nodes)) c.args.levels.now j None))
