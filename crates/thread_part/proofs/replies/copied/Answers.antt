use Rattle.std.proofs.Common.{◌∙◌, ◌++◌, ◌∷◌, [], ap, sym, arith, rules, List, ℤ, get_or, pos, SFits, w64}
use Rattle.std.proofs.lemmas.Int.{to_z-of_z}
use Rattle.std.proofs.lemmas.List.{take_more}
use Rattle.thread_part.proofs.replies.copied.Goals as goal

pub each-preserved : goal.each-preserved
each-preserved c =
    let fits : SFits w64 c.number_at.result = search rules in
    record {
      items = (simp to_z-of_z at c.push_number.ensures.items) ∙ ap (λ (z : ℤ). c.each.copy.items ++ z ∷ []) c.number_at.ensures ∙ ap (λ (xs : List ℤ). xs ++ get_or c.args.numbers.now c.each.k (pos 0) ∷ []) c.each.invariant.items ∙ sym (take_more c.args.numbers.now c.each.k (pos 0) (let l = c.each-test.true in omega (arith, l)));
      room = omega (arith, c.push_number.ensures.room, c.each.invariant.room);
    }
