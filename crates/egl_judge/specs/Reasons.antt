-- Why an outcome would have agreed, as it is told to people.
use Rattle.std.specs.Prelude.{ℕ, List, ◌++◌, codes, slice_index_or, Option, None, Some}
use Rattle.std.specs.Option.{option_map}
use Rattle.driver_facts.specs.declared.verdicts.Refusals.{Refusals}
use Rattle.driver_facts.specs.declared.verdicts.Refusals.TheVariants.{Egl as EglRows, Gl as GlRows, Unjudged}
use Rattle.log_reader.specs.declared.outcomes.LogOutcome.{LogOutcome}
use Rattle.log_reader.specs.declared.outcomes.LogOutcome.TheVariants.{Egl, Gl}
use Rattle.egl_judge.specs.Numbers.{outcome_text}

-- the outcome by which the row at a place refuses the call, where that row holds
abbrev pub held_at : Refusals → ℕ → Option LogOutcome
held_at (EglRows h) place = option_map (λ e. Egl e) (slice_index_or h.errors place None)
held_at (GlRows h) place = option_map (λ e. Gl e) (slice_index_or h.errors place None)
held_at Unjudged place = None

-- a line without a number, as it begins
abbrev pub begun_text : List ℕ → List ℕ
begun_text title = codes "       |   " ++ title

abbrev pub said_text : List ℕ → List ℕ
said_text words = codes ": " ++ words ++ codes "\n"

-- a row: its outcome, and its condition in words
abbrev pub row_text : List ℕ → LogOutcome → List ℕ → List ℕ
row_text title outcome words = begun_text title ++ outcome_text outcome ++ said_text words

-- why a call isn't refused
abbrev pub why_done : Refusals → List ℕ
why_done (EglRows h) = codes "no condition of the call's holds"
why_done (GlRows h) = codes "no condition of the call's holds"
why_done Unjudged = codes "no context is current, so the call does nothing"
