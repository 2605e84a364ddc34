-- Numbers and outcomes of logs as they are written.
use Rattle.std.specs.Prelude.{ℕ, ◌++◌, ◌&&◌, ℤ, pos, int_le, int_lt, List, [], ◌∷◌, codes, if◌then◌else◌, Option, None, Some}
use Rattle.std.specs.Fmt.{signed_decimal}
use Rattle.std.specs.List.{flat_map}
use Rattle.egl_calls.specs.Errors.{egl_code, gl_code}
use Rattle.trace_model.specs.Recording.{number_text}
use Rattle.log_reader.specs.declared.outcomes.LogOutcome.{LogOutcome}
use Rattle.log_reader.specs.declared.outcomes.LogOutcome.TheVariants.{Done, Egl, Gl, Unnamed}

-- a number of 32 bits by its name where it has one, each other in decimal
unfoldable pub long_text : ℤ → List ℕ
long_text z = if int_le (pos 0) z && int_lt z (pos 4294967296) then number_text z else signed_decimal z

-- a number that nothing stands for is -
unfoldable pub optional_text : Option ℤ → List ℕ
optional_text None = codes "-"
optional_text (Some z) = long_text z

-- ok, an error by its name, or another by its number
unfoldable pub outcome_text : LogOutcome → List ℕ
outcome_text Done = codes "ok"
outcome_text (Egl e) = number_text (pos (egl_code e))
outcome_text (Gl e) = number_text (pos (gl_code e))
outcome_text (Unnamed z) = long_text z

-- texts parted by commas
abbrev pub parted : {A : Type 0} → (A → List ℕ) → List A → List ℕ
parted text [] = []
parted text (x ∷ xs) = text x ++ flat_map (λ y. codes "," ++ text y) xs
