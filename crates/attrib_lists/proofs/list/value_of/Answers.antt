use Rattle.std.proofs.Common.{◌≡◌, ◌≤◌, ◌+◌, ◌-◌, ◌*◌, ◌/◌, pos, ap, ◌∙◌, sym, arith, rules, get_or, length, SFits, w64, to_z, of_z}
use Rattle.std.proofs.lemmas.Int.{to_z-of_z}
use Rattle.attrib_lists.proofs.PairLaws.{last_start, last_found, last_next, last_none}
use Rattle.attrib_lists.proofs.list.value_of.Goals as goal

pub pairs-init : goal.pairs-init
pairs-init c =
    let half : 2 * (length c.args.list.now / 2) ≤ length c.args.list.now = omega arith in
    record { found = last_start (to_z w64 (of_z w64 c.args.attribute)) c.args.list.now; within = half }

pub returns-then-list-left : goal.returns-then-list-left
returns-then-list-left c =
    let here : SFits w64 (get_or c.args.list.now (2 * (c.pairs.left - 1)) (pos 0)) = search rules in
    let next : SFits w64 (get_or c.args.list.now (2 * (c.pairs.left - 1) + 1) (pos 0)) = search rules in
    let asked : SFits w64 c.args.attribute = c.ranges.attribute in
    let same : get_or c.args.list.now (2 * (c.pairs.left - 1)) (pos 0) ≡ c.args.attribute = sym (to_z-of_z w64 _ here) ∙ ap (to_z w64) c.if-list-left.true ∙ to_z-of_z w64 _ asked in
    simp to_z-of_z (last_found c.args.attribute c.args.list.now c.pairs.left c.pairs-test.true c.pairs.invariant.within same ∙ (simp to_z-of_z at c.pairs.invariant.found))

pub pairs-preserved : goal.pairs-preserved
pairs-preserved c =
    let asked : SFits w64 c.args.attribute = c.ranges.attribute in
    let within : 2 * c.pairs.left ≤ length c.args.list.now = c.pairs.invariant.within in
    let less : 2 * (c.pairs.left - 1) ≤ length c.args.list.now = omega arith in
    record {
      found = simp to_z-of_z (last_next c.args.attribute c.args.list.now c.pairs.left c.pairs-test.true within (λ e. c.if-list-left.false (ap (of_z w64) e)) ∙ (simp to_z-of_z at c.pairs.invariant.found));
      within = less;
    }

pub returns : goal.returns
returns c =
    let asked : SFits w64 c.args.attribute = c.ranges.attribute in
    last_none c.args.attribute c.args.list.now c.pairs.left c.pairs-test.false ∙ (simp to_z-of_z at c.pairs.invariant.found)
