-- The outcomes that agree, by whether a row holds.
use Rattle.std.proofs.Common.{◌≡◌, true, false, List, [], ◌∷◌, refl}
use Rattle.log_reader.specs.declared.outcomes.LogOutcome.{LogOutcome}
use Rattle.log_reader.specs.declared.outcomes.LogOutcome.TheVariants.{Done}
use Rattle.driver_judge.specs.Outcomes.{are_none, once, or_done}

pub none_are : (es : List LogOutcome) → are_none es ≡ true → Done ∷ [] ≡ or_done es
none_are [] h = refl
none_are (e ∷ es) h = cc

pub some_are : (es : List LogOutcome) → are_none es ≡ false → once es ≡ or_done es
some_are [] h = cc
some_are (e ∷ es) h = refl
