-- Where objects come from.
use Rattle.egl_calls.specs.Arguments.{signed}
use Rattle.egl_calls.specs.declared.entries.Entry.{Entry}
use Rattle.egl_calls.specs.declared.places.TheConstants.{BOUND_NAME}
use Rattle.egl_explain.specs.declared.objects.Birth.{Birth}

-- what an entry says of the objects that it made
abbrev pub birth_of : Entry → Birth
birth_of e = record { line = e.mark; name = signed e.call BOUND_NAME }
