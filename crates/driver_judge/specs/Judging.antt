-- One line of a log beside our driver.
use Rattle.std.specs.Prelude.{ℕ, ℤ, pos, Bool, true, false, ◌&&◌, is_some, List, [], ◌∷◌, ◌++◌, map, slice_index_or, slice_set, if◌then◌else◌, Option, None, Some}
use Rattle.std.specs.Option.{option_or}
use Rattle.egl_calls.specs.Arguments.{signed}
use Rattle.egl_calls.specs.Calls.{CallValue, ReplyValue}
use Rattle.egl_calls.specs.Ranges.{unsigned}
use Rattle.egl_calls.specs.declared.errors.EglError.TheVariants.{Success}
use Rattle.egl_calls.specs.declared.kinds.Kind.{Kind}
use Rattle.egl_calls.specs.declared.kinds.Kind.TheVariants.{Egl as EglCall}
use Rattle.egl_calls.specs.declared.places.TheConstants.{CONFIG, WINDOW}
use Rattle.pixel_formats.specs.declared.formats.Format.{Format}
use Rattle.pixel_rows.specs.Images.{ImageValue}
use Rattle.trace_reader.specs.declared.traces.Line.{Line}
use Rattle.driver_facts.specs.Verdicts.{refusals}
use Rattle.egl_model.specs.State.{State, set_error}
use Rattle.egl_model.specs.Step.{Stepped, step}
use Rattle.egl_model.specs.Windows.{front_of}
use Rattle.log_reader.specs.Forms.{needs_no_answer}
use Rattle.log_reader.specs.declared.answers.Answer.{Answer}
use Rattle.log_reader.specs.declared.items.Called.{Called}
use Rattle.log_reader.specs.declared.items.Item.{Item}
use Rattle.log_reader.specs.declared.items.Item.TheVariants.{Call, Front}
use Rattle.log_reader.specs.declared.items.Shown.{Shown}
use Rattle.log_reader.specs.declared.outcomes.LogOutcome.{LogOutcome}
use Rattle.log_reader.specs.declared.outcomes.LogOutcome.TheVariants.{Done, Egl}
use Rattle.driver_judge.specs.declared.bases.Basis.{Basis}
use Rattle.driver_judge.specs.declared.differences.Difference.{Difference}
use Rattle.driver_judge.specs.declared.differences.Difference.TheVariants.{Outcome, Length}
use Rattle.driver_judge.specs.declared.judgements.LineVerdict.{LineVerdict}
use Rattle.driver_judge.specs.declared.judgements.LineVerdict.TheVariants.{Agreed, Own, Differs, After, Unjudged}
use Rattle.driver_judge.specs.declared.judgements.Unjudged.TheVariants.{Config, Name}
use Rattle.driver_judge.specs.declared.sorts.Sort.{Sort}
use Rattle.driver_judge.specs.declared.sorts.Sort.TheVariants.{Equal, Own as OwnValue, NewHandle, ConfigList, NewNames}
use Rattle.driver_judge.specs.Answers.{StandsValue, answer_difference, basis_of, bytes_beside, items_beside, stands_behind, thread_group, value_beside}
use Rattle.driver_judge.specs.Calls.{goes_by_current, is_make_current, sets_current}
use Rattle.driver_judge.specs.Configs.{ConfigsValue, our_config}
use Rattle.driver_judge.specs.Fences.{step_beside}
use Rattle.driver_judge.specs.Fronts.{Formats, front_bytes, shown_format, with_format}
use Rattle.driver_judge.specs.Outcomes.{agrees, outcomes, refused_with}
use Rattle.driver_judge.specs.Pixels.{front_grid, no_grid}
use Rattle.driver_judge.specs.UsedNames.{uses_renamed}
use Rattle.driver_judge.specs.Variables.{VariableValue, kept, lost, lost_in, our_call}

-- what a log is judged by: which of its configs are ours, and the step that a component may differ by
pub record Setting : Type 0 where
  pub configs : ConfigsValue
  pub delta : ℕ

-- what is kept beside our state: what of theirs stands for ours, what each variable stands for, for each thread the line by whose fault it may have another context than ours, and in which format each window's newest surface is stored
pub record KeptValue : Type 0 where
  pub stands : StandsValue
  pub variables : List VariableValue
  pub adrift : List (Option ℕ)
  pub formats : Formats

pub record Beside : Type 0 where
  pub state : State
  pub kept : KeptValue

-- what is found of a line, and what it leaves
pub record Found : Type 0 where
  pub verdict : LineVerdict
  pub after : Beside

abbrev pub found : LineVerdict → State → KeptValue → Found
found verdict s k = record { verdict = verdict; after = record { state = s; kept = k } }

-- ---- Variables.
abbrev pub assigned : Option ℕ → VariableValue → List VariableValue → List VariableValue
assigned None v vs = vs
assigned (Some n) v vs = vs ++ v ∷ []

abbrev pub with_variable : Line → VariableValue → KeptValue → KeptValue
with_variable l v k = record k { variables = assigned l.assigns v k.variables }

-- a number of our list stands for itself; of a list of configs ours for each of theirs, where there is one
abbrev pub items_of : ConfigsValue → Sort → ReplyValue → Answer → List (Option ℤ)
items_of configs ConfigList ours theirs = map (our_config configs.pairs) theirs.list
items_of configs sort ours theirs = map (λ z. Some z) ours.list

abbrev pub answered : ConfigsValue → Sort → ReplyValue → Answer → VariableValue
answered configs sort ours theirs = kept ours.value (items_of configs sort ours theirs)

abbrev pub nothing_kept : VariableValue
nothing_kept = kept (pos 0) []

-- ---- Threads whose context may be another than ours: behind an eglMakeCurrent that isn't played, or that they carried out alone, up to the next one or an eglReleaseThread that is played and on which both agree.
abbrev pub adrift_at : KeptValue → ℕ → Option ℕ
adrift_at k t = slice_index_or k.adrift t None

abbrev pub set_adrift : ℕ → Option ℕ → KeptValue → KeptValue
set_adrift t line k = record k { adrift = slice_set k.adrift t line }

-- the line by whose fault one can't be played: a variable that it uses is lost, or it goes by what is current to a thread that may have another context
unfoldable pub fault_of : KeptValue → Line → Option ℕ
fault_of k l = option_or (lost_in k.variables l.uses) (if goes_by_current l.call.kind then adrift_at k l.thread else None)

abbrev pub drifting : Line → ℕ → KeptValue → KeptValue
drifting l line k = if is_make_current l.call.kind then set_adrift l.thread (Some line) k else k

abbrev pub returned : Line → KeptValue → KeptValue
returned l k = if sets_current l.call.kind then set_adrift l.thread None k else k

-- ---- Lines that aren't played. Their thread's error is theirs, as far as one of EGL tells it.
abbrev pub error_behind : State → ℕ → Kind → LogOutcome → State
error_behind s t (EglCall k) Done = set_error s t Success
error_behind s t (EglCall k) (Egl e) = set_error s t e
error_behind s t kind o = s

abbrev pub left_out : Line → LogOutcome → ℕ → State → KeptValue → Found
left_out l o line s k = found (After line) (error_behind s l.thread l.call.kind o) (drifting l line (with_variable l (lost line) k))

abbrev pub unjudged : Line → LogOutcome → LineVerdict → State → KeptValue → Found
unjudged l o verdict s k = found verdict (error_behind s l.thread l.call.kind o) (with_variable l (lost l.number) k)

-- ---- A call that both carried out.
abbrev pub agreeing : Sort → LineVerdict
agreeing OwnValue = Own
agreeing sort = Agreed

abbrev pub verdict_by : Sort → Option Difference → LineVerdict
verdict_by sort None = agreeing sort
verdict_by sort (Some d) = Differs d

-- what it made can't be mapped where it differs
abbrev pub makes : Sort → Bool
makes (NewHandle kind) = true
makes (NewNames kind) = true
makes sort = false

abbrev pub variable_behind : ConfigsValue → Line → Sort → ReplyValue → Answer → Bool → VariableValue
variable_behind configs l sort ours theirs differs = if differs && makes sort then lost l.number else answered configs sort ours theirs

abbrev pub formats_behind : CallValue → Formats → Formats
formats_behind c formats = with_format c.kind (signed c WINDOW) (signed c CONFIG) formats

abbrev pub returned_if : Bool → Line → KeptValue → KeptValue
returned_if differs l k = if differs then k else returned l k

-- what is kept behind a call beside what stands for what
abbrev pub answered_behind : ConfigsValue → Line → CallValue → Sort → ReplyValue → Answer → Bool → KeptValue → KeptValue
answered_behind configs l c sort ours theirs differs k = returned_if differs l (record (with_variable l (variable_behind configs l sort ours theirs differs) k) { formats = formats_behind c k.formats })

abbrev pub kept_behind : ConfigsValue → Line → CallValue → Basis → ReplyValue → Answer → Option Difference → KeptValue → KeptValue
kept_behind configs l c a ours theirs d k = answered_behind configs l c a.sort ours theirs (is_some d) (record k { stands = stands_behind k.stands a c ours theirs })

abbrev pub carried_out_by : Setting → Line → CallValue → Basis → Stepped → Answer → Option Difference → KeptValue → Found
carried_out_by set l c a r theirs d k = found (verdict_by a.sort d) r.state (kept_behind set.configs l c a r.reply theirs d k)

abbrev pub carried_out_as : Setting → Line → CallValue → Basis → Stepped → Answer → KeptValue → Found
carried_out_as set l c a r theirs k = carried_out_by set l c a r theirs (answer_difference set.configs.pairs set.delta k.stands a r.reply theirs) k

unfoldable pub carried_out : Setting → Line → CallValue → Answer → State → KeptValue → Found
carried_out set l c theirs s k = carried_out_as set l c (basis_of s k.stands.handles l.thread c theirs.value) (step_beside s l.thread c theirs) theirs k

-- ---- A call that both refused: it answers nothing, and its error is theirs.
unfoldable pub refusal_difference : Answer → Option Difference
refusal_difference theirs = option_or (value_beside (Some (pos 0)) theirs.value) (option_or (items_beside [] theirs.list) (bytes_beside 0 no_grid [] theirs.bytes))

abbrev pub refused_behind : Line → KeptValue → KeptValue
refused_behind l k = with_variable l nothing_kept k

unfoldable pub both_refused : Line → Answer → State → KeptValue → Found
both_refused l theirs s k = found (verdict_by Equal (refusal_difference theirs)) (refused_with s l.thread theirs.outcome) (refused_behind l k)

-- ---- A call that one carried out alone.
-- ours refused it: our state is that behind our reply, and the variable is lost
unfoldable pub only_ours_refused : Line → CallValue → Difference → State → KeptValue → Found
only_ours_refused l c d s k = found (Differs d) (step s l.thread c).state (drifting l l.number (with_variable l (lost l.number) k))

-- they refused it by an error that ours doesn't have: our state is as it was, with their error
unfoldable pub theirs_refused : Line → LogOutcome → Difference → State → KeptValue → Found
theirs_refused l e d s k = found (Differs d) (refused_with s l.thread e) (refused_behind l k)

-- by how theirs came out
abbrev pub agreed_outcome : Setting → Line → CallValue → Answer → LogOutcome → State → KeptValue → Found
agreed_outcome set l c theirs Done s k = carried_out set l c theirs s k
agreed_outcome set l c theirs e s k = both_refused l theirs s k

abbrev pub other_outcome : Line → CallValue → Difference → LogOutcome → State → KeptValue → Found
other_outcome l c d Done s k = only_ours_refused l c d s k
other_outcome l c d e s k = theirs_refused l e d s k

unfoldable pub played : Setting → Line → CallValue → Answer → State → KeptValue → Found
played set l c theirs s k =
    if agrees (outcomes s l.thread c) theirs.outcome then agreed_outcome set l c theirs theirs.outcome s k
    else other_outcome l c (Outcome (outcomes s l.thread c) theirs.outcome c.kind (refusals s l.thread c)) theirs.outcome s k

-- ---- A call of a log. What threads tell one another no driver answers.
unfoldable pub named : Setting → Line → Answer → CallValue → State → KeptValue → Found
named set l theirs c s k =
    if uses_renamed k.stands.renamed k.stands.names (thread_group s l.thread) l then unjudged l theirs.outcome (Unjudged Name) s k
    else played set l c theirs s k

abbrev pub with_call : Setting → Line → Answer → Option CallValue → State → KeptValue → Found
with_call set l theirs None s k = unjudged l theirs.outcome (Unjudged Config) s k
with_call set l theirs (Some c) s k = named set l theirs c s k

abbrev pub unless_at_fault : Setting → Line → Answer → Option ℕ → State → KeptValue → Found
unless_at_fault set l theirs (Some line) s k = left_out l theirs.outcome line s k
unless_at_fault set l theirs None s k = with_call set l theirs (our_call set.configs.named set.configs.pairs k.variables l) s k

unfoldable pub judge_call : Setting → Called → State → KeptValue → Found
judge_call set x s k =
    if needs_no_answer x.line.call.kind then found Agreed s (refused_behind x.line k)
    else unless_at_fault set x.line x.answer (fault_of k x.line) s k

-- ---- What a window shows. It isn't known of a thread that may have another context.
unfoldable pub front_difference : ℕ → Format → List ℕ → Option ImageValue → Option Difference
front_difference delta stored theirs None = Some (Length 0 0)
front_difference delta stored theirs (Some i) = bytes_beside delta (front_grid i.width i.height stored) (front_bytes i) theirs

abbrev pub front_by : Setting → Shown → Option ℕ → State → KeptValue → Found
front_by set x (Some line) s k = found (After line) s k
front_by set x None s k = found (verdict_by Equal (front_difference set.delta (shown_format x.window k.formats) x.bytes (front_of (unsigned x.window) s))) s k

unfoldable pub judge_front : Setting → Shown → State → KeptValue → Found
judge_front set x s k = front_by set x (adrift_at k x.thread) s k

-- ---- A line.
unfoldable pub judge_item : Setting → Item → State → KeptValue → Found
judge_item set (Call x) s k = judge_call set x s k
judge_item set (Front x) s k = judge_front set x s k

abbrev pub number_of : Item → ℕ
number_of (Call x) = x.line.number
number_of (Front x) = x.number

abbrev pub thread_of : Item → ℕ
thread_of (Call x) = x.line.thread
thread_of (Front x) = x.thread
