use Rattle.std.proofs.Common.{◌<◌, ◌+◌, ◌*◌, pos, ap, ◌∙◌, sym, arith, rules, get_or, length, SFits, w64}
use Rattle.std.specs.Option.{option_map}
use Rattle.std.proofs.lemmas.Int.{to_z-of_z}
use Rattle.attrib_lists.proofs.PairLaws.{bad_start, bad_found, bad_next, bad_none}
use Rattle.attrib_lists.proofs.list.bad_pair_place.Goals as goal

pub loop-k-init : goal.loop-k-init
loop-k-init c = bad_start c.args.allowed c.args.list.now

pub returns-then-not-is_allowed : goal.returns-then-not-is_allowed
returns-then-not-is_allowed c =
    let first : SFits w64 (get_or c.args.list.now (2 * c.loop-k.k) (pos 0)) = search rules in
    let second : SFits w64 (get_or c.args.list.now (2 * c.loop-k.k + 1) (pos 0)) = search rules in
    let within : 2 * c.loop-k.k + 1 < length c.args.list.now = omega arith in
    ap (option_map (λ k. 2 * k)) (bad_found c.args.allowed c.args.list.now c.loop-k.k within (sym (simp to_z-of_z at c.is_allowed.ensures) ∙ c.if-not-is_allowed.true) ∙ c.loop-k.invariant)

pub loop-k-preserved : goal.loop-k-preserved
loop-k-preserved c =
    let first : SFits w64 (get_or c.args.list.now (2 * c.loop-k.k) (pos 0)) = search rules in
    let second : SFits w64 (get_or c.args.list.now (2 * c.loop-k.k + 1) (pos 0)) = search rules in
    let within : 2 * c.loop-k.k + 1 < length c.args.list.now = omega arith in
    bad_next c.args.allowed c.args.list.now c.loop-k.k within (sym (simp to_z-of_z at c.is_allowed.ensures) ∙ c.if-not-is_allowed.false) ∙ c.loop-k.invariant

pub returns : goal.returns
returns c = ap (option_map (λ k. 2 * k)) (bad_none c.args.allowed c.args.list.now c.loop-k.k c.loop-k-test.false ∙ c.loop-k.invariant)
