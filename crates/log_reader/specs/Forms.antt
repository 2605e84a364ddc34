-- Which calls a log has, and the forms of their arguments.
use Rattle.std.specs.Prelude.{Bool, true, false, List, [], ◌∷◌, if◌then◌else◌}
use Rattle.egl_calls.specs.declared.kinds.Kind.{Kind}
use Rattle.egl_calls.specs.declared.kinds.Kind.TheVariants.{Own}
use Rattle.egl_calls.specs.declared.kinds.OwnKind.TheVariants.{Post, Await, Census, ReadFront, ReadBuffer}
use Rattle.call_table.specs.declared.forms.Form.{Form}
use Rattle.call_table.specs.declared.forms.Form.TheVariants.{Config, NumberOrVariable}
use Rattle.trace_reader.specs.CallNames.{Signature}

-- the calls that look into our driver aren't in a log: no other driver has them
abbrev pub is_in_logs : Kind → Bool
is_in_logs (Own Census) = false
is_in_logs (Own ReadFront) = false
is_in_logs (Own ReadBuffer) = false
is_in_logs kind = true

-- what threads tell one another needs no answer
abbrev pub needs_no_answer : Kind → Bool
needs_no_answer (Own Post) = true
needs_no_answer (Own Await) = true
needs_no_answer kind = false

-- a call names a config behind its display (EGL 1.5, sections 3.4.3, 3.5.1, 3.5.2 and 3.7.1)
abbrev pub is_config : Form → Bool
is_config Config = true
is_config form = false

abbrev pub takes_config : List Form → Bool
takes_config [] = false
takes_config (f ∷ []) = false
takes_config (f ∷ g ∷ forms) = is_config g

abbrev pub or_variable : Form → Form
or_variable Config = NumberOrVariable
or_variable form = form

-- a variable may stand for a config behind the first
abbrev pub with_variable : List Form → List Form
with_variable [] = []
with_variable (f ∷ []) = f ∷ []
with_variable (f ∷ g ∷ forms) = f ∷ or_variable g ∷ forms

-- in a log a variable may stand for a config: a driver's configs have numbers of its own
abbrev pub log_forms : List Form → List Form
log_forms forms = if takes_config forms then with_variable forms else forms

abbrev pub in_log : Signature → Signature
in_log s = record { kind = s.kind; forms = log_forms s.forms }
