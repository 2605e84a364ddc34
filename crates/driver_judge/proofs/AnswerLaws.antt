-- Lists that are the same.
use Rattle.std.proofs.Common.{◌≡◌, ◌≢◌, ◌==◌, ◌&&◌, ℤ, Bool, true, false, List, [], ◌∷◌, length, refl, ap, ◌∙◌, arith}
use Rattle.std.specs.Ordering.{int_eq}
use Rattle.std.proofs.lemmas.Bool.Decides.{nat_tests}
use Rattle.driver_judge.specs.Answers.{are_same}

and_false : (b : Bool) → false ≡ (b && false)
and_false true = refl
and_false false = refl

-- lists of other lengths aren't the same
pub unlike : (es zs : List ℤ) → length es ≢ length zs → false ≡ are_same es zs
unlike [] [] h = absurd (h refl)
unlike [] (z ∷ zs) h = refl
unlike (e ∷ es) [] h = refl
unlike (e ∷ es) (z ∷ zs) h = let i : false ≡ are_same es zs = unlike es zs (λ p. h (omega arith)) in and_false (int_eq e z) ∙ ap (λ b. int_eq e z && b) i

-- a list is the same as none where it has nothing
pub none_same : (es : List ℤ) → (length es == 0) ≡ are_same es []
none_same [] = refl
none_same (e ∷ es) = grind (arith, nat_tests)
