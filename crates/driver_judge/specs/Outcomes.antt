-- Which outcomes of a call agree, and what an error leaves.
use Rattle.std.specs.Prelude.{ℕ, Bool, true, false, ◌==◌, List, [], ◌∷◌, ◌++◌, fold, map, if◌then◌else◌, Option}
use Rattle.std.specs.List.{filter_map, list_any}
use Rattle.std.specs.Ordering.{int_eq}
use Rattle.egl_calls.specs.Calls.{CallValue}
use Rattle.egl_calls.specs.Errors.{egl_code, gl_code}
use Rattle.driver_core.specs.Judging.{noted_on}
use Rattle.driver_facts.specs.Verdicts.{refusals}
use Rattle.driver_facts.specs.declared.verdicts.Refusals.{Refusals}
use Rattle.driver_facts.specs.declared.verdicts.Refusals.TheVariants.{Egl as EglRows, Gl as GlRows, Unjudged}
use Rattle.egl_model.specs.Currents.{current_context}
use Rattle.egl_model.specs.State.{State, set_error}
use Rattle.log_reader.specs.declared.outcomes.LogOutcome.{LogOutcome}
use Rattle.log_reader.specs.declared.outcomes.LogOutcome.TheVariants.{Done, Egl, Gl, Unnamed}

abbrev pub is_same : LogOutcome → LogOutcome → Bool
is_same Done Done = true
is_same (Egl e) (Egl f) = egl_code e == egl_code f
is_same (Gl e) (Gl f) = gl_code e == gl_code f
is_same (Unnamed z) (Unnamed w) = int_eq z w
is_same o p = false

-- one more behind others, unless it is among them
abbrev pub with_outcome : List LogOutcome → LogOutcome → List LogOutcome
with_outcome os o = if list_any (is_same o) os then os else os ++ o ∷ []

-- each once, in the order in which they stand first
abbrev pub once : List LogOutcome → List LogOutcome
once os = fold with_outcome [] os

-- the errors of rows that hold
abbrev pub errors_in : {E : Type 0} → List (Option E) → List E
errors_in errors = filter_map (λ o. o) errors

abbrev pub errors_of : Refusals → List LogOutcome
errors_of (EglRows h) = map Egl (errors_in h.errors)
errors_of (GlRows h) = map Gl (errors_in h.errors)
errors_of Unjudged = []

abbrev pub are_none : List LogOutcome → Bool
are_none [] = true
are_none (o ∷ os) = false

abbrev pub or_done : List LogOutcome → List LogOutcome
or_done [] = Done ∷ []
or_done (o ∷ os) = once (o ∷ os)

-- the outcomes that agree: the errors of all rows that hold in the state, or ok where none does
unfoldable pub outcomes : State → ℕ → CallValue → List LogOutcome
outcomes s t c = or_done (errors_of (refusals s t c))

unfoldable pub agrees : List LogOutcome → LogOutcome → Bool
agrees expected found = list_any (is_same found) expected

-- a thread whose call was refused by an error: EGL answers it next (EGL 1.5, section 3.1), and a context of OpenGL ES notes it, where it keeps none (OpenGL ES 1.1, section 2.5)
abbrev pub refused_with : State → ℕ → LogOutcome → State
refused_with s t Done = s
refused_with s t (Egl e) = set_error s t e
refused_with s t (Gl e) = noted_on (current_context s t) e s
refused_with s t (Unnamed z) = s
