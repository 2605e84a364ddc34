-- What a driver takes over from another that it is compared with.
use Rattle.std.specs.Prelude.{ℕ, Option, None, Some}
use Rattle.egl_calls.specs.declared.errors.GlError.{GlError}
use Rattle.egl_model.specs.State.{State}
use Rattle.egl_model.specs.Step.{note_error}

-- an error of OpenGL ES is noted in a context, where there is one and it keeps none (OpenGL ES 1.1, section 2.5)
abbrev pub noted_on : Option ℕ → GlError → State → State
noted_on (Some n) e s = note_error s n e
noted_on None e s = s
