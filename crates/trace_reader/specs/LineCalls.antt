-- How the call of a line is kept.
use Rattle.std.specs.Prelude.{◌≤◌, pos, [], ◌∷◌, length, take, drop, All, None, Some}
use Rattle.egl_calls.specs.Calls.{CallValue}
use Rattle.egl_calls.specs.Ranges.{IsNumber, AreArguments}
use Rattle.trace_reader.specs.declared.line_calls.Packed.{Packed}
use Rattle.trace_reader.specs.declared.line_calls.Packed.TheVariants.{Few, More, Given}
use Rattle.trace_reader.specs.Arguments.{padded}

abbrev pub unpacked : Packed → CallValue
unpacked (Few kind a b c d) = record { kind = kind; args = a ∷ b ∷ c ∷ d ∷ pos 0 ∷ pos 0 ∷ pos 0 ∷ pos 0 ∷ []; list = []; bytes = None }
unpacked (More kind count numbers) = record { kind = kind; args = padded (take count numbers); list = drop count numbers; bytes = None }
unpacked (Given kind count numbers bytes) = record { kind = kind; args = padded (take count numbers); list = drop count numbers; bytes = Some bytes }

-- the numbers in front of the list are at most eight
abbrev pub HasCount : Packed → Type 0
HasCount (Few kind a b c d) = Unit {0}
HasCount (More kind count numbers) = (count ≤ 8) × (count ≤ length numbers)
HasCount (Given kind count numbers bytes) = (count ≤ 8) × (count ≤ length numbers)

pub record IsPacked (p : Packed) : Type 0 where
  pub count : HasCount p
  pub arguments : AreArguments (unpacked p).kind 0 (unpacked p).args
  pub list : All IsNumber (unpacked p).list
