-- What is kept of the answer of a variable.
use Rattle.std.specs.Prelude.{ℤ, pos, [], ◌∷◌, Option, None, Some}
use Rattle.egl_calls.specs.Calls.{ReplyValue}
use Rattle.egl_calls.specs.Ranges.{IsNumber}
use Rattle.egl_calls.specs.declared.errors.Outcome.TheVariants.{Done}
use Rattle.std.specs.Arc.{arc_value}
use Rattle.trace_session.specs.declared.slots.Kept.{Kept}
use Rattle.trace_session.specs.declared.slots.Kept.TheVariants.{Open, Plain, Named, Listed}

-- an answer that has a value alone
abbrev pub plain_answer : ℤ → ReplyValue
plain_answer value = record { outcome = Done; value = value; list = []; bytes = [] }

-- one that has a name alone
abbrev pub named_answer : ℤ → ReplyValue
named_answer name = record { outcome = Done; value = pos 0; list = name ∷ []; bytes = [] }

abbrev pub kept_answer : Kept → Option ReplyValue
kept_answer Open = None
kept_answer (Plain value) = Some (plain_answer value)
kept_answer (Named name) = Some (named_answer name)
kept_answer (Listed reply) = Some (arc_value reply)

abbrev pub HasNumber : Kept → Type 0
HasNumber (Plain value) = IsNumber value
HasNumber (Named name) = IsNumber name
HasNumber k = Unit {0}
