-- How long a worker plays its lines in one turn.
use Rattle.std.specs.Prelude.{◌&&◌, ◌||◌, not, Bool, true, false, Option, None, Some}
use Rattle.egl_calls.specs.Calls.{ReplyValue}
use Rattle.egl_calls.specs.Errors.{is_waiting}
use Rattle.egl_calls.specs.declared.kinds.Kind.{Kind}
use Rattle.egl_calls.specs.declared.kinds.Kind.TheVariants.{Egl, Gl}
use Rattle.egl_calls.specs.declared.kinds.EglKind.TheVariants.{ClientWaitSync}
use Rattle.egl_calls.specs.declared.kinds.GlKind.TheVariants.{Clear, ReadPixels}
use Rattle.trace_reader.specs.declared.traces.Line.{Line}
use Rattle.trace_model.specs.Turns.{is_await}
use Rattle.trace_session.specs.Sessions.{line_behind}
use Rattle.play_threads.specs.declared.pickers.LinePicker.{LinePicker}

-- clears and reads of pixels, which the thread's private part plays while others have their turns
abbrev pub is_left_to_part : Kind → Bool
is_left_to_part (Gl Clear) = true
is_left_to_part (Gl ReadPixels) = true
is_left_to_part k = false

abbrev pub is_client_wait : Kind → Bool
is_client_wait (Egl ClientWaitSync) = true
is_client_wait k = false

-- a turn goes on to a call of this kind. Where its entries have freed a thread that sleeps, it goes on only to one that is likely to wait
abbrev pub is_played_on : Kind → Bool → Bool
is_played_on k freed = not (is_left_to_part k) && (is_client_wait k || (is_await k || not freed))

-- and at the thread's end, where it stops in the same turn
abbrev pub goes_on_to : Bool → Option Line → Bool
goes_on_to freed None = true
goes_on_to freed (Some l) = is_played_on l.call.kind freed

-- a picker picks again, where its last call was answered so: at once where that waits, and else by the line behind
abbrev pub picks_again : LinePicker → ReplyValue → Bool → Bool
picks_again p reply freed = p.runs && (is_waiting reply.outcome || goes_on_to freed (line_behind p.session p.thread))
