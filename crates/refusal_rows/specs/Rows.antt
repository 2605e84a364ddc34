-- Rows of a table of refusals.
use Rattle.std.specs.Prelude.{ℕ, zero, suc, ◌≡◌, ◌⊎◌, Bool, true, false, List, [], ◌∷◌, if◌then◌else◌}
use Rattle.std.specs.declared.option.Option.{Option}
use Rattle.std.specs.declared.option.Option.TheVariants.{None, Some}

-- a condition, and the error that it makes
abbrev pub Row : Type 0 → Type 0
Row E = Bool × E

-- the row `condition ⇒ error`
infix 6 ◌⇒◌
abbrev pub ◌⇒◌ : {E : Type 0} → Bool → E → Row E
b ⇒ e = (b, e)

-- the row of a rule: its condition is tested
abbrev pub row_of : {C E : Type 0} → (C → Bool) → C × E → Row E
row_of holds r = (holds r.0, r.1)

-- the error of the first row that holds
abbrev pub first_error : {E : Type 0} → List (Row E) → Option E
first_error [] = None
first_error (r ∷ rs) = if r.0 then Some r.1 else first_error rs

-- the error of each row that holds at the row's place, and None at each other place below a number
abbrev pub held : {E : Type 0} → ℕ → List (Row E) → List (Option E)
held zero rs = []
held (suc n) [] = None ∷ held n []
held (suc n) (r ∷ rs) = (if r.0 then Some r.1 else None) ∷ held n rs

-- no row holds
abbrev pub AllOff : {E : Type 0} → List (Row E) → Type 0
AllOff [] = Unit {0}
AllOff (r ∷ rs) = (r.0 ≡ false) × AllOff rs

-- a row holds that has this error, and none before it does
abbrev pub IsFirst : {E : Type 0} → E → List (Row E) → Type 0
IsFirst e [] = ⊥
IsFirst e (r ∷ rs) = ((r.0 ≡ true) × (r.1 ≡ e)) ⊎ ((r.0 ≡ false) × IsFirst e rs)
