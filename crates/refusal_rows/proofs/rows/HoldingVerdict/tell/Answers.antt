use Rattle.std.proofs.Common.{arith, ◌≡◌, ◌<◌, ◌+◌, length, take, suc, ap, ◌∙◌, slice_set, Some}
use Rattle.refusal_rows.specs.Rows.{held}
use Rattle.refusal_rows.proofs.HeldLaws.{held_on, held_off}
use Rattle.refusal_rows.proofs.rows.HoldingVerdict.tell.Goals.{then-holds, else-holds}
use Rattle.refusal_rows.proofs.rows.HoldingVerdict.tell.Goals as goal

pub rows-preserved : goal.rows-preserved
rows-preserved g c =
    let rows = c.args.rows.now in
    let i = c.rows.place in
    let r = c.index-rows-place.result in
    let here : i < length rows = c.rows-test.true in
    let next : held 16 (take (suc i) rows) ≡ held 16 (take (i + 1) rows) = ap (λ n. held 16 (take n rows)) (let one : suc i ≡ i + 1 = omega arith in one) in
    let below : i < 16 = omega (arith, here, c.requires) in
    elim c.if-holds.branch [
      | then-holds w ↦ w.errors-is ∙ ap (λ es. slice_set es i (Some r.1)) c.rows.invariant ∙ held_on 16 rows i r below here c.index-rows-place.is w.if-holds.true ∙ next
      | else-holds w ↦ w.errors-is ∙ c.rows.invariant ∙ held_off 16 rows i r below here c.index-rows-place.is w.if-holds.false ∙ next
    ]
