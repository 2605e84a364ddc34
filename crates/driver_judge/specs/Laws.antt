-- What holds of judgements.
use Rattle.std.specs.Prelude.{◌≡◌, ◌≢◌, ◌⊎◌, Contains, ℕ, ◌+◌, ◌≤◌, ℤ, pos, Bool, true, false, List, [], ◌∷◌, is_some, Option, None, Some}
use Rattle.std.specs.List.{filter, list_any}
use Rattle.egl_calls.specs.Calls.{CallValue, ReplyValue}
use Rattle.context_state.specs.Parts.{PartValue}
use Rattle.display_table.specs.declared.handles.Handle.{Handle}
use Rattle.driver_facts.specs.Verdicts.{refusals}
use Rattle.egl_model.specs.Currents.{current_context, part_of_context}
use Rattle.egl_model.specs.State.{State, record_of}
use Rattle.egl_calls.specs.Ranges.{unsigned}
use Rattle.egl_calls.specs.declared.entries.Entry.{Entry}
use Rattle.egl_calls.specs.declared.errors.GlError.TheVariants.{NoError}
use Rattle.egl_calls.specs.declared.errors.Outcome.{Outcome}
use Rattle.egl_calls.specs.declared.errors.Outcome.TheVariants.{Done as CarriedOut, Egl as RefusedEgl, Gl as RefusedGl}
use Rattle.egl_model.specs.Step.{step}
use Rattle.egl_model.specs.Windows.{front_of}
use Rattle.log_reader.specs.Forms.{needs_no_answer}
use Rattle.log_reader.specs.declared.answers.Answer.{Answer}
use Rattle.log_reader.specs.declared.items.Called.{Called}
use Rattle.log_reader.specs.declared.items.Item.{Item}
use Rattle.log_reader.specs.declared.items.Item.TheVariants.{Call, Front}
use Rattle.log_reader.specs.declared.items.Shown.{Shown}
use Rattle.log_reader.specs.declared.outcomes.LogOutcome.{LogOutcome}
use Rattle.log_reader.specs.declared.outcomes.LogOutcome.TheVariants.{Done, Egl, Gl}
use Rattle.pixel_rows.specs.Images.{ImageValue}
use Rattle.trace_reader.specs.declared.traces.Line.{Line}
use Rattle.driver_judge.specs.declared.bases.Basis.{Basis}
use Rattle.driver_judge.specs.declared.configs.ConfigPair.{ConfigPair}
use Rattle.driver_judge.specs.declared.differences.Difference.TheVariants.{Pixels}
use Rattle.driver_judge.specs.declared.differences.PixelDifference.{PixelDifference}
use Rattle.driver_judge.specs.declared.judgements.LineVerdict.{LineVerdict}
use Rattle.driver_judge.specs.declared.judgements.LineVerdict.TheVariants.{Agreed, Differs, Own as OwnVerdict}
use Rattle.driver_judge.specs.declared.judgements.Note.{Note}
use Rattle.driver_judge.specs.declared.sorts.Mapped.{Mapped}
use Rattle.driver_judge.specs.declared.sorts.Mapped.TheVariants.{Display, Handle as AHandle}
use Rattle.driver_judge.specs.declared.sorts.Sort.{Sort}
use Rattle.driver_judge.specs.declared.sorts.Sort.TheVariants.{Own, ConfigId, ConfigList, NewHandle, NewNames, SameHandle, SameName}
use Rattle.share_group.specs.declared.names.NameKind.{NameKind}
use Rattle.driver_judge.specs.Answers.{StandsValue, answer_difference, basis_of, is_first_display, is_theirs, may_be_display, name_for, names_given, their_handle_for, thread_group}
use Rattle.driver_judge.specs.Configs.{our_configs, their_config}
use Rattle.driver_judge.specs.Fences.{served_beside, step_beside}
use Rattle.driver_judge.specs.Fronts.{front_bytes}
use Rattle.driver_judge.specs.Judgements.{Progress}
use Rattle.driver_judge.specs.Judging.{Beside, Found, KeptValue, Setting, adrift_at, fault_of, judge_item, refusal_difference}
use Rattle.driver_judge.specs.Maps.{Both, given_for, handle_for}
use Rattle.driver_judge.specs.Outcomes.{errors_of, is_same, refused_with}
use Rattle.driver_judge.specs.Sorts.{sort_of}
use Rattle.driver_judge.specs.UsedNames.{uses_renamed}
use Rattle.driver_judge.specs.Values.{JudgementValue}
use Rattle.driver_judge.specs.Variables.{our_call}

-- ---- Outcomes.
-- an outcome is the error of a row that holds
abbrev pub IsOfARow : State → ℕ → CallValue → LogOutcome → Type 0
IsOfARow s t c e = list_any (is_same e) (errors_of (refusals s t c)) ≡ true

-- that a call was carried out agrees only where no row holds, and an error only where it is of a row that does
abbrev pub AgreesRightly : State → ℕ → CallValue → LogOutcome → Type 0
AgreesRightly s t c Done = errors_of (refusals s t c) ≡ []
AgreesRightly s t c e = IsOfARow s t c e

-- ---- Larger steps.
-- pixels that differ by the smaller step: by the larger one they agree, or are no more
abbrev pub AreFewer : LineVerdict → PixelDifference → Type 0
AreFewer v q = (v ≡ Agreed) ⊎ ((p : PixelDifference) × (v ≡ Differs (Pixels p)) × (p.count ≤ q.count))

-- a verdict by the larger step is that by the smaller one, unless this is that pixels differ
abbrev pub IsMilder : LineVerdict → LineVerdict → Type 0
IsMilder v w = (v ≡ w) ⊎ ((q : PixelDifference) × (w ≡ Differs (Pixels q)) × AreFewer v q)

-- what is found of a line by the smaller step, and by the larger one: both leave the same
pub record Allows (f g : Found) : Type 0 where
  pub milder : IsMilder g.verdict f.verdict
  pub same : g.after ≡ f.after

abbrev pub MoreAllowMore : Setting → Setting → State → KeptValue → Item → Type 0
MoreAllowMore set more s k item = Allows (judge_item set item s k) (judge_item more item s k)

abbrev pub IsMilderNote : Note → Note → Type 0
IsMilderNote n m = (n.line ≡ m.line) × IsMilder n.verdict m.verdict

-- the first are milder than some of the second, in their order
abbrev pub AreAmong : List Note → List Note → Type 0
AreAmong [] ms = Unit {0}
AreAmong (n ∷ ns) [] = ⊥
AreAmong (n ∷ ns) (m ∷ ms) = (IsMilderNote n m × AreAmong ns ms) ⊎ AreAmong (n ∷ ns) ms

-- what is found of a log by the smaller step, and by the larger one: no line more is noted, and as many have a value of the driver's own
pub record LogAllows (i j : JudgementValue) : Type 0 where
  pub notes : AreAmong j.notes i.notes
  pub agreed : i.agreed ≤ j.agreed
  pub own : j.own ≡ i.own

-- ---- A run beside a log.
-- a line agrees
abbrev pub is_agreement : LineVerdict → Bool
is_agreement Agreed = true
is_agreement OwnVerdict = true
is_agreement verdict = false

-- how a thread's call leads from one state to another: where no row of its table holds it is carried out by the one-thread specification, with the fence that it names served first where theirs is signalled; or it is refused by an error of a row that holds
abbrev pub Moves : State → ℕ → CallValue → Answer → LogOutcome → State → Type 0
Moves s t c a Done after = (errors_of (refusals s t c) ≡ []) × (after ≡ (step (served_beside s c a) t c).state)
Moves s t c a e after = IsOfARow s t c e × (after ≡ refused_with s t e)

-- their answer is related to ours by what stands for what: of a call that was carried out by its sort, of a refused one it says nothing
abbrev pub Relates : Setting → State → KeptValue → ℕ → CallValue → Answer → LogOutcome → Type 0
Relates set s k t c a Done = answer_difference set.configs.pairs set.delta k.stands (basis_of s k.stands.handles t c a.value) (step (served_beside s c a) t c).reply a ≡ None
Relates set s k t c a e = refusal_difference a ≡ None

-- the call of a line in our numbers moves so, and its answer is related so
pub record IsMove (set : Setting) (l : Line) (a : Answer) (s : State) (k : KeptValue) (after : State) : Type 0 where
  pub call : CallValue
  pub ours : our_call set.configs.named set.configs.pairs k.variables l ≡ Some call
  pub moves : Moves s l.thread call a a.outcome after
  pub relates : Relates set s k l.thread call a a.outcome

-- what threads tell one another, and what windows show, changes nothing
abbrev pub IsNextBy : Bool → Setting → Called → State → KeptValue → State → Type 0
IsNextBy true set x s k after = after ≡ s
IsNextBy false set x s k after = IsMove set x.line x.answer s k after

abbrev pub IsNext : Setting → Item → State → KeptValue → State → Type 0
IsNext set (Call x) s k after = IsNextBy (needs_no_answer x.line.call.kind) set x s k after
IsNext set (Front x) s k after = after ≡ s

-- each line follows so from where the one before it ended
abbrev pub IsRun : Setting → List Item → State → KeptValue → Type 0
IsRun set [] s k = Unit {0}
IsRun set (item ∷ more) s k = IsNext set item s k (judge_item set item s k).after.state × IsRun set more (judge_item set item s k).after.state (judge_item set item s k).after.kept

-- ---- What stands for what.
-- no name of theirs stands for two of ours in a group and of a kind, no display of theirs for two of ours, and no other handle of theirs for two of ours that are valid, of a kind and of a display
pub record IsOneToOne (s : State) (m : StandsValue) : Type 0 where
  pub names : (group : ℕ) (kind : NameKind) (a b theirs : ℤ) → given_for m.names group kind a ≡ Some theirs → given_for m.names group kind b ≡ Some theirs → a ≡ b
  pub displays : (a b : ℕ) (theirs : ℤ) → handle_for m.handles Display a ≡ Some theirs → handle_for m.handles Display b ≡ Some theirs → a ≡ b
  pub handles : (g h : Handle) (theirs : ℤ) → Contains s.handles g → Contains s.handles h → g.kind ≡ h.kind → g.display ≡ h.display → handle_for m.handles (AHandle g.kind) g.number ≡ Some theirs → handle_for m.handles (AHandle h.kind) h.number ≡ Some theirs → g.number ≡ h.number

-- ---- What answers as ours.
-- a line that is judged as a call: it needs an answer, no line in front of it is at fault, and its configs and names mean in theirs what they mean in ours
pub record IsJudgedAs (set : Setting) (x : Called) (s : State) (k : KeptValue) (c : CallValue) : Type 0 where
  pub asks : needs_no_answer x.line.call.kind ≡ false
  pub faultless : fault_of k x.line ≡ None
  pub call : our_call set.configs.named set.configs.pairs k.variables x.line ≡ Some c
  pub names : uses_renamed k.stands.renamed k.stands.names (thread_group s x.line.thread) x.line ≡ false

-- the answer that is an error alone, and the answer of a reply
abbrev pub error_answer : LogOutcome → Answer
error_answer e = record { outcome = e; value = pos 0; list = []; bytes = [] }

abbrev pub reply_answer : ReplyValue → Answer
reply_answer r = record { outcome = Done; value = r.value; list = r.list; bytes = r.bytes }

-- a handle stands for itself, or is of a display that is answered for the first time and may
abbrev pub HandleIsSame : Both → Mapped → ℤ → Type 0
HandleIsSame m kind z = ((is_first_display m kind z ≡ true) × (may_be_display m kind z ≡ true)) ⊎ ((is_first_display m kind z ≡ false) × (their_handle_for m kind z ≡ Some z))

-- each handle, config and name of a reply stands for itself, and what is new may do so
abbrev pub StandsForItself : List ConfigPair → StandsValue → Basis → Sort → ReplyValue → Type 0
StandsForItself pairs m a (NewHandle kind) r = a.free ≡ true
StandsForItself pairs m a (SameHandle kind) r = HandleIsSame m.handles kind r.value
StandsForItself pairs m a ConfigList r = our_configs pairs r.list ≡ filter (is_theirs pairs) r.list
StandsForItself pairs m a ConfigId r = their_config pairs r.value ≡ Some r.value
StandsForItself pairs m a (NewNames kind) r = (names_given m a.group kind r.list r.list).agree ≡ true
StandsForItself pairs m a (SameName kind) r = name_for m.names a.group kind r.value ≡ Some r.value
StandsForItself pairs m a sort r = Unit {0}

-- what our reply to the call of a line names stands for itself
abbrev pub IsOfOurs : Setting → Called → State → KeptValue → CallValue → Type 0
IsOfOurs set x s k c = StandsForItself set.configs.pairs k.stands (basis_of s k.stands.handles x.line.thread c x.answer.value) (sort_of s x.line.thread c) (step_beside s x.line.thread c x.answer).reply

-- a line agrees, and leaves a state
pub record AgreesInto (f : Found) (after : State) : Type 0 where
  pub agrees : is_agreement f.verdict ≡ true
  pub state : f.after.state ≡ after

-- a line whose call ours refuses with the same error, one that both carry out, and what a window shows in both
pub record RefusesAsOurs (set : Setting) (x : Called) (s : State) (k : KeptValue) : Type 0 where
  pub call : CallValue
  pub error : LogOutcome
  pub judged : IsJudgedAs set x s k call
  pub row : IsOfARow s x.line.thread call error
  pub answer : x.answer ≡ error_answer error

pub record RepliesAsOurs (set : Setting) (x : Called) (s : State) (k : KeptValue) : Type 0 where
  pub call : CallValue
  pub judged : IsJudgedAs set x s k call
  pub rows : errors_of (refusals s x.line.thread call) ≡ []
  pub answer : x.answer ≡ reply_answer (step_beside s x.line.thread call x.answer).reply
  pub same : IsOfOurs set x s k call

pub record ShowsAsOurs (x : Shown) (s : State) (k : KeptValue) : Type 0 where
  pub image : ImageValue
  pub known : adrift_at k x.thread ≡ None
  pub front : front_of (unsigned x.window) s ≡ Some image
  pub bytes : x.bytes ≡ front_bytes image

abbrev pub AnswersAsOurs : Setting → Item → State → KeptValue → Type 0
AnswersAsOurs set (Call x) s k = (needs_no_answer x.line.call.kind ≡ true) ⊎ (RefusesAsOurs set x s k ⊎ RepliesAsOurs set x s k)
AnswersAsOurs set (Front x) s k = ShowsAsOurs x s k

-- each line does so where those in front of it lead
abbrev pub AnswerAsOurs : Setting → List Item → State → KeptValue → Type 0
AnswerAsOurs set [] s k = Unit {0}
AnswerAsOurs set (item ∷ more) s k = AnswersAsOurs set item s k × AnswerAsOurs set more (judge_item set item s k).after.state (judge_item set item s k).after.kept

-- ---- Recordings of ours.
-- how an entry of a recording came out, as a log says it; what begins a wait, or is held up by one, has no line of its own in a log
abbrev pub told_outcome : Outcome → Option LogOutcome
told_outcome CarriedOut = Some Done
told_outcome (RefusedEgl e) = Some (Egl e)
told_outcome (RefusedGl e) = Some (Gl e)
told_outcome o = None

-- a log's answer is an entry's reply
pub record IsReplyOf (a : Answer) (r : ReplyValue) : Type 0 where
  pub outcome : told_outcome r.outcome ≡ Some a.outcome
  pub value : a.value ≡ r.value
  pub list : a.list ≡ r.list
  pub bytes : a.bytes ≡ r.bytes

-- both carried a call out
pub record AreDone (a : Answer) (r : ReplyValue) : Type 0 where
  pub theirs : a.outcome ≡ Done
  pub ours : told_outcome r.outcome ≡ Some Done

-- a line of a log has the thread, the call and the reply of an entry: where both carried the call out its handles, names and configs are ours, and it tells no fence signalled that ours has yet to serve
pub record RecordsEntry (set : Setting) (x : Called) (e : Entry) (s : State) (k : KeptValue) : Type 0 where
  pub thread : e.thread ≡ x.line.thread
  pub asks : needs_no_answer x.line.call.kind ≡ false
  pub call : our_call set.configs.named set.configs.pairs k.variables x.line ≡ Some e.call
  pub reply : IsReplyOf x.answer e.reply
  pub ours : AreDone x.answer (step s x.line.thread e.call).reply → IsOfOurs set x s k e.call
  pub fences : served_beside s e.call x.answer ≡ s

-- a line that needs no answer is of an entry of its thread and kind
pub record RecordsNothing (x : Called) (e : Entry) : Type 0 where
  pub thread : e.thread ≡ x.line.thread
  pub asks : needs_no_answer x.line.call.kind ≡ true
  pub kind : e.call.kind ≡ x.line.call.kind

abbrev pub RecordsLine : Setting → Called → Entry → State → KeptValue → Type 0
RecordsLine set x e s k = RecordsNothing x e ⊎ RecordsEntry set x e s k

-- the lines of a log are entries in this way, one by one, and between them it says what our windows show
abbrev pub RecordsBy : (Setting → Called → Entry → State → KeptValue → Type 0) → Setting → List Item → List Entry → State → KeptValue → Type 0
RecordsBy way set [] [] s k = Unit {0}
RecordsBy way set [] (e ∷ es) s k = ⊥
RecordsBy way set (Call x ∷ more) [] s k = ⊥
RecordsBy way set (Call x ∷ more) (e ∷ es) s k = way set x e s k × RecordsBy way set more es (judge_item set (Call x) s k).after.state (judge_item set (Call x) s k).after.kept
RecordsBy way set (Front x ∷ more) es s k = ShowsAsOurs x s k × RecordsBy way set more es (judge_item set (Front x) s k).after.state (judge_item set (Front x) s k).after.kept

-- an error of theirs is that of the first row, which ours answers where one holds; and no call that theirs carried out waits in ours
abbrev pub IsFirstRow : LogOutcome → Option LogOutcome → Type 0
IsFirstRow Done ours = is_some ours ≡ true
IsFirstRow e ours = (ours ≡ Some Done) ⊎ (ours ≡ Some e)

-- where theirs may answer another number than ours, it answers ours
abbrev pub ChoosesOurs : Sort → Answer → ReplyValue → Type 0
ChoosesOurs Own a r = a.value ≡ r.value
ChoosesOurs (NewHandle kind) a r = a.value ≡ r.value
ChoosesOurs (SameHandle kind) a r = a.value ≡ r.value
ChoosesOurs ConfigList a r = a.list ≡ r.list
ChoosesOurs (NewNames kind) a r = a.list ≡ r.list
ChoosesOurs sort a r = Unit {0}

-- a line of a log that chooses as ours wherever it may choose: errors, numbers, and bytes of pixels
pub record ChoosesEntry (set : Setting) (x : Called) (e : Entry) (s : State) (k : KeptValue) : Type 0 where
  pub records : RecordsEntry set x e s k
  pub error : IsFirstRow x.answer.outcome (told_outcome (step s x.line.thread e.call).reply.outcome)
  pub numbers : AreDone x.answer (step s x.line.thread e.call).reply → ChoosesOurs (sort_of s x.line.thread e.call) x.answer (step s x.line.thread e.call).reply
  pub pixels : AreDone x.answer (step s x.line.thread e.call).reply → x.answer.bytes ≡ (step s x.line.thread e.call).reply.bytes

-- of a line without an answer the entry's reply is known
abbrev pub ChoosesLine : Setting → Called → Entry → State → KeptValue → Type 0
ChoosesLine set x e s k = (RecordsNothing x e × (e.reply ≡ (step s e.thread e.call).reply)) ⊎ ChoosesEntry set x e s k

-- ---- Lines that are put in.
-- one line more agrees, and else all is found, and left, as without it
pub record OneMoreAgrees (p q : Progress) : Type 0 where
  pub beside : q.beside ≡ p.beside
  pub agreed : q.tally.agreed ≡ p.tally.agreed + 1
  pub own : q.tally.own ≡ p.tally.own
  pub notes : q.tally.notes ≡ p.tally.notes

-- an error is noted already: of EGL it is what the thread's last call left, and of OpenGL ES the thread's context keeps one, this or another
abbrev pub IsNoted : State → ℕ → LogOutcome → Type 0
IsNoted s t (Egl e) = (record_of s t).error ≡ e
IsNoted s t (Gl e) = (n : ℕ) × (p : PartValue) × (current_context s t ≡ Some n) × (part_of_context s n ≡ Some p) × (p.error ≢ NoError)
IsNoted s t o = ⊥

-- a call that is refused by an error of a row that holds, where that error is noted already, and that assigns no variable
pub record IsRefusedAnew (set : Setting) (x : Called) (b : Beside) (c : CallValue) (e : LogOutcome) : Type 0 where
  pub judged : IsJudgedAs set x b.state b.kept c
  pub row : IsOfARow b.state x.line.thread c e
  pub answer : x.answer ≡ error_answer e
  pub unnamed : x.line.assigns ≡ None
  pub noted : refused_with b.state x.line.thread e ≡ b.state
