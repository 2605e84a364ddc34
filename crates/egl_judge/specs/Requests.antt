-- The words of the program: [DELTA] [explain].
use Rattle.std.specs.Prelude.{ℕ, Bool, true, false, List, [], ◌∷◌, codes, if◌then◌else◌, Option, None, Some}
use Rattle.std.specs.Option.{option_map, option_or}
use Rattle.std.specs.Str.{bytes_eq}
use Rattle.trace_reader.specs.Numerals.{numeral}
use Rattle.egl_judge.specs.declared.requests.Request.{Request}

-- how far a component of a pixel may be from ours
abbrev pub largest_step : ℕ
largest_step = 255

abbrev pub step_of : List ℕ → Option ℕ
step_of w = numeral largest_step w

abbrev pub is_explain : List ℕ → Bool
is_explain w = bytes_eq w (codes "explain")

abbrev pub request : Bool → ℕ → Request
request explained delta = record { delta = delta; explained = explained }

abbrev pub explained_only : List ℕ → Option Request
explained_only w = if is_explain w then Some (request true 0) else None

abbrev pub explained_by : Bool → Option ℕ → Option Request
explained_by true step = option_map (request true) step
explained_by false step = None

unfoldable pub request_of : List (List ℕ) → Option Request
request_of [] = Some (request false 0)
request_of (w ∷ []) = option_or (option_map (request false) (step_of w)) (explained_only w)
request_of (w ∷ x ∷ []) = explained_by (is_explain x) (step_of w)
request_of (w ∷ x ∷ y ∷ more) = None
