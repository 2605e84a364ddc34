use Rattle.std.proofs.Common.{arith, ◌≡◌, ◌<◌, ◌+◌, length, map, take, suc, sym, ap, ◌∙◌, slice_set, Some}
use Rattle.refusal_rows.specs.Rows.{held, row_of}
use Rattle.refusal_rows.proofs.HeldLaws.{judged_on, judged_off}
use Rattle.refusal_rows.proofs.rows.HoldingVerdict.judge.Goals.{then-holds, else-holds}
use Rattle.refusal_rows.proofs.rows.HoldingVerdict.judge.Goals as goal

pub rules-preserved : goal.rules-preserved
rules-preserved g c =
    let rules = c.args.rules.now in
    let f = g.J.Judge.meets c.args.judge.now in
    let i = c.rules.place in
    let r = c.index-rules-place.result in
    let here : i < length rules = c.rules-test.true in
    let next : held 16 (take (suc i) (map (row_of f) rules)) ≡ held 16 (take (i + 1) (map (row_of f) rules)) = ap (λ n. held 16 (take n (map (row_of f) rules))) (let one : suc i ≡ i + 1 = omega arith in one) in
    let below : i < 16 = omega (arith, here, c.requires) in
    elim c.if-holds.branch [
      | then-holds w ↦ w.errors-is ∙ w.keep.ensures ∙ ap (λ es. slice_set es i (Some r.1)) c.rules.invariant ∙ judged_on f 16 rules i r below here c.index-rules-place.is (sym c.holds.ensures ∙ w.if-holds.true) ∙ next
      | else-holds w ↦ w.errors-is ∙ c.rules.invariant ∙ judged_off f 16 rules i r below here c.index-rules-place.is (sym c.holds.ensures ∙ w.if-holds.false) ∙ next
    ]
