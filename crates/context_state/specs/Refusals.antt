-- When each call is refused, and with which error: the first of its rows in the table of calls that holds.
use Rattle.std.specs.Prelude.{Bool, false, not, List, map}
use Rattle.std.specs.declared.option.Option.{Option}
use Rattle.call_table.specs.Rows.{gl_rules}
use Rattle.call_table.specs.declared.gl_conditions.GlCondition.{GlCondition}
use Rattle.call_table.specs.declared.gl_conditions.GlCondition.TheVariants.{NoEnabledCapability, NoCapability, NegativeBox, NoEnvironment, NoStore, NoAlignment, NoContextParameter, NoIndex}
use Rattle.egl_calls.specs.Calls.{CallValue}
use Rattle.egl_calls.specs.declared.errors.GlError.{GlError}
use Rattle.egl_calls.specs.declared.kinds.GlKind.{GlKind}
use Rattle.egl_calls.specs.declared.places.TheConstants.{CAP, ENVIRONMENT_PARAM, ENVIRONMENT_PNAME, INDEX, PARAM, PNAME, TARGET}
use Rattle.egl_calls.specs.Arguments.{signed, number}
use Rattle.refusal_rows.specs.Rows.{Row, first_error, row_of}
use Rattle.context_state.specs.Arguments.{may_enable, may_disable, is_environment, is_store, is_parameter, is_index, has_negative_side}
use Rattle.context_state.specs.Parts.{is_alignment}

-- what each condition is of the call. `call_rules` says the same of them, beside those that ask for more than a context's own state
abbrev pub context_holds : GlCondition → CallValue → Bool
-- OpenGL ES 1.1, section 6.2
context_holds NoEnabledCapability c = not (may_enable (number c CAP))
context_holds NoCapability c = not (may_disable (number c CAP))
-- sections 2.10.1 and 4.1.2
context_holds NegativeBox c = has_negative_side c
-- section 3.7.12
context_holds NoEnvironment c = not (is_environment (number c TARGET) (number c ENVIRONMENT_PNAME) (number c ENVIRONMENT_PARAM))
-- section 3.6.1
context_holds NoStore c = not (is_store (number c PNAME))
context_holds NoAlignment c = not (is_alignment (number c PARAM))
-- section 6.2
context_holds NoContextParameter c = not (is_parameter (number c PNAME))
context_holds NoIndex c = not (is_index (number c PNAME) (signed c INDEX))
-- none of theirs
context_holds x c = false

-- the rows of each call, in the order of the tests
abbrev pub context_rows : GlKind → CallValue → List (Row GlError)
context_rows k c = map (row_of (λ x. context_holds x c)) (gl_rules k)

abbrev pub refusal : GlKind → CallValue → Option GlError
refusal k c = first_error (context_rows k c)
