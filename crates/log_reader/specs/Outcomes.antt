-- How calls of a log came out.
use Rattle.std.specs.Prelude.{ℕ, ◌==◌, List, find, codes, if◌then◌else◌, Option, Some}
use Rattle.std.specs.Option.{option_map, option_or, option_and_then}
use Rattle.std.specs.Str.{bytes_eq}
use Rattle.egl_calls.specs.Errors.{egl_code, gl_code}
use Rattle.egl_names.specs.Names.{code_of}
use Rattle.log_reader.specs.Numbers.{long_number}
use Rattle.log_reader.specs.declared.outcomes.TheConstants.{EGL_ERRORS, GL_ERRORS}
use Rattle.log_reader.specs.declared.outcomes.LogOutcome.{LogOutcome}
use Rattle.log_reader.specs.declared.outcomes.LogOutcome.TheVariants.{Done, Egl, Gl, Unnamed}

-- the error of EGL whose name has a code, and that of OpenGL ES; EGL_SUCCESS and GL_NO_ERROR are none
abbrev pub egl_refused : ℕ → Option LogOutcome
egl_refused code = option_map Egl (find (λ e. egl_code e == code) EGL_ERRORS)

abbrev pub gl_refused : ℕ → Option LogOutcome
gl_refused code = option_map Gl (find (λ e. gl_code e == code) GL_ERRORS)

unfoldable pub refused_by : ℕ → Option LogOutcome
refused_by code = option_or (egl_refused code) (gl_refused code)

-- ok, the name of an error, or the number of another
unfoldable pub outcome_of : List ℕ → Option LogOutcome
outcome_of w = if bytes_eq w (codes "ok") then Some Done else option_or (option_and_then refused_by (code_of w)) (option_map Unnamed (long_number w))
