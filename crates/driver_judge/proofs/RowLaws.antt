-- Rows that don't hold, and the errors that are told.
use Rattle.std.proofs.Common.{◌≡◌, ℕ, ◌≤◌, Bool, true, false, List, [], ◌∷◌, length, refl, ap, ◌∙◌, zero, suc, arith, if◌then◌else◌, Option, None, Some}
use Rattle.refusal_rows.specs.Rows.{AllOff, Row, held}
use Rattle.driver_judge.specs.Outcomes.{errors_in}

some_error : {E : Type 0} (b : Bool) (e : E) (es : List (Option E)) → errors_in ((if b then Some e else None) ∷ es) ≡ [] → (b ≡ false) × (errors_in es ≡ [])
some_error true e es h = cc
some_error false e es h = (refl, h)

pub none_in : {E : Type 0} (n : ℕ) (rs : List (Row E)) → length rs ≤ n → errors_in (held n rs) ≡ [] → AllOff rs
none_in n [] l h = tt
none_in zero (r ∷ rs) l h = absurd (omega arith)
none_in (suc n) (r ∷ rs) l h = let x = some_error r.0 r.1 (held n rs) h in (x.0, none_in n rs (omega arith) x.1)

pub no_errors : {E : Type 0} (n : ℕ) (rs : List (Row E)) → AllOff rs → errors_in (held n rs) ≡ []
no_errors zero rs a = refl
no_errors (suc n) [] a = no_errors n [] tt
no_errors (suc n) (r ∷ rs) a = ap (λ (b : Bool). errors_in ((if b then Some r.1 else None) ∷ held n rs)) a.0 ∙ no_errors n rs a.1
