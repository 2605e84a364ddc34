-- Which places of a journal lead to an entry: by a variable, by a post, or by a sync.
use Rattle.std.specs.Prelude.{◌≡◌, ℕ, ◌+◌, ◌<◌, length, Bool, true, false, ◌&&◌, ◌==◌, ℤ, pos, List, [], ◌∷◌, ◌++◌, if◌then◌else◌, find, slice_index_or, Option, None, Some}
use Rattle.std.specs.List.{filter_map, position_from}
use Rattle.std.specs.Option.{option_or, option_to_list}
use Rattle.std.specs.Ordering.{int_eq}
use Rattle.egl_calls.specs.Calls.{CallValue, ReplyValue}
use Rattle.egl_calls.specs.declared.entries.Entry.{Entry}
use Rattle.egl_calls.specs.declared.kinds.Kind.{Kind}
use Rattle.egl_calls.specs.declared.kinds.Kind.TheVariants.{Egl, Own}
use Rattle.egl_calls.specs.declared.kinds.OwnKind.TheVariants.{WaitEnd}
use Rattle.call_table.specs.Rows.{egl_role}
use Rattle.call_table.specs.declared.roles.Role.{Role}
use Rattle.call_table.specs.declared.roles.Role.TheVariants.{Creates, ClientWaits, ServerWaits}
use Rattle.display_table.specs.declared.handles.HandleKind.TheVariants.{Sync}
use Rattle.egl_names.specs.declared.codes.TheConstants.{EGL_CONDITION_SATISFIED}
use Rattle.egl_calls.specs.declared.places.TheConstants.{NAMED, POSTED}
use Rattle.egl_model.specs.Arguments.{number}
use Rattle.egl_calls.specs.Errors.{is_done, is_waiting}
use Rattle.trace_reader.specs.declared.traces.Line.{Line}
use Rattle.trace_reader.specs.declared.traces.Reference.{Reference}
use Rattle.trace_model.specs.Resolve.{answers, assigns}
use Rattle.trace_model.specs.Turns.{is_await, posts}

-- ---- Variables.
-- the last place at which a test passes, counted from a number on
unfoldable pub last_from : {X : Type 0} → (X → Bool) → ℕ → List X → Option ℕ
last_from test k [] = None
last_from test k (x ∷ xs) = option_or (last_from test (k + 1) xs) (if test x then Some k else None)

abbrev pub answer_place : List Entry → Option Line → Option ℕ
answer_place journal None = None
answer_place journal (Some l) = last_from (answers l.thread l.number) 0 journal

-- the place of a variable's answer: the last that answers the line which assigns it
unfoldable pub variable_place : List Line → List Entry → ℕ → Option ℕ
variable_place lines journal v = answer_place journal (find (assigns v) lines)

-- the places of the answers of the first variables
abbrev pub ArePlaces : List Line → List Entry → List (Option ℕ) → Type 0
ArePlaces lines journal places = (v : ℕ) → v < length places → slice_index_or places v None ≡ variable_place lines journal v

-- the line that an entry plays, or ends the wait of
abbrev pub is_played_by : Entry → Line → Bool
is_played_by e l = l.number == e.mark

abbrev pub uses_of : Option Line → List Reference
uses_of None = []
uses_of (Some l) = l.uses

-- the places of the answers of the variables that a line uses
unfoldable pub used_places : List Line → List Entry → List Reference → List ℕ
used_places lines journal uses = filter_map (λ r. variable_place lines journal r.variable) uses

-- ---- Posts.
-- the place of the first post of the number that an entry awaits
abbrev pub awaited_place : List Entry → CallValue → Option ℕ
awaited_place journal c = if is_await c.kind then position_from (posts (number c POSTED)) 0 journal else None

-- ---- Syncs. What a call has to do with one is said by its role.
abbrev pub is_sync_creation : Role → Bool
is_sync_creation (Creates Sync) = true
is_sync_creation r = false

unfoldable pub creates_sync : Kind → Bool
creates_sync (Egl k) = is_sync_creation (egl_role k)
creates_sync k = false

-- an entry made the sync with this handle, which no other has
abbrev pub makes : ℤ → Entry → Bool
makes handle e = creates_sync e.call.kind && is_done e.reply.outcome && int_eq e.reply.value handle

-- an entry began the wait that another ends
abbrev pub begins : Entry → Entry → Bool
begins e b = (b.thread == e.thread) && (b.mark == e.mark) && is_waiting b.reply.outcome

-- the handle that a call names after its display
abbrev pub named : CallValue → ℤ
named c = slice_index_or c.args NAMED (pos 0)

abbrev pub is_satisfied : ReplyValue → Bool
is_satisfied r = is_done r.outcome && int_eq r.value (pos EGL_CONDITION_SATISFIED)

abbrev pub named_by : Option Entry → Option ℤ
named_by None = None
named_by (Some b) = Some (named b.call)

-- the sync behind whose signal a call of a role stands: a client wait that was answered so, or a wait of the server
abbrev pub waited_as : Role → Entry → Option ℤ
waited_as ClientWaits e = if is_satisfied e.reply then Some (named e.call) else None
waited_as ServerWaits e = if is_done e.reply.outcome then Some (named e.call) else None
waited_as r e = None

-- the same of any entry; the end of a client wait stands behind the signal of the sync that its begin names
unfoldable pub waited_by : List Entry → Entry → Kind → Option ℤ
waited_by journal e (Egl k) = waited_as (egl_role k) e
waited_by journal e (Own WaitEnd) = if is_done e.reply.outcome then named_by (find (begins e) journal) else None
waited_by journal e k = None

abbrev pub maker_place : List Entry → Option ℤ → Option ℕ
maker_place journal None = None
maker_place journal (Some handle) = position_from (makes handle) 0 journal

-- ---- All of them.
-- the places that lead to an entry beside those of its thread
abbrev pub behind_of : List Line → List Entry → Entry → List ℕ
behind_of lines journal e =
    used_places lines journal (uses_of (find (is_played_by e) lines))
    ++ option_to_list (awaited_place journal e.call)
    ++ option_to_list (maker_place journal (waited_by journal e e.call.kind))
