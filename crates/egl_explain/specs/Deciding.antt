-- The row that decides: the first that holds.
use Rattle.std.specs.Prelude.{List, [], ◌∷◌, Option, None, Some}
use Rattle.std.specs.Option.{option_map}
use Rattle.egl_calls.specs.declared.errors.Outcome.{Outcome}
use Rattle.egl_calls.specs.declared.errors.Outcome.TheVariants.{Egl as RefusedEgl, Gl as RefusedGl}
use Rattle.driver_facts.specs.declared.verdicts.Refusals.{Refusals}
use Rattle.driver_facts.specs.declared.verdicts.Refusals.TheVariants.{Egl as EglRows, Gl as GlRows, Unjudged}

-- the first error of a list
abbrev pub first_of : {E : Type 0} → List (Option E) → Option E
first_of [] = None
first_of (None ∷ xs) = first_of xs
first_of (Some e ∷ xs) = Some e

-- how a call comes out by the first of its rows that holds; nothing where none does
abbrev pub deciding : Refusals → Option Outcome
deciding (EglRows h) = option_map RefusedEgl (first_of h.errors)
deciding (GlRows h) = option_map RefusedGl (first_of h.errors)
deciding Unjudged = None

-- how a call came out, where it was refused
abbrev pub refusal_in : Outcome → Option Outcome
refusal_in (RefusedEgl e) = Some (RefusedEgl e)
refusal_in (RefusedGl e) = Some (RefusedGl e)
refusal_in o = None
