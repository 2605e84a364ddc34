-- What agrees is a run.
use Rattle.std.proofs.Common.{◌≡◌, ℕ, Bool, true, false, List, [], ◌∷◌, ◌++◌, fold, refl, sym, ap, ◌∙◌}
use Rattle.std.specs.Prelude.{Option, None, Some, if◌then◌else◌}
use Rattle.egl_calls.specs.Calls.{CallValue}
use Rattle.driver_facts.specs.Verdicts.{refusals}
use Rattle.egl_model.specs.State.{State}
use Rattle.log_reader.specs.Forms.{needs_no_answer}
use Rattle.log_reader.specs.Logs.{LogValue}
use Rattle.log_reader.specs.declared.answers.Answer.{Answer}
use Rattle.log_reader.specs.declared.items.Called.{Called}
use Rattle.log_reader.specs.declared.items.Item.{Item}
use Rattle.log_reader.specs.declared.items.Item.TheVariants.{Call, Front}
use Rattle.log_reader.specs.declared.outcomes.LogOutcome.{LogOutcome}
use Rattle.log_reader.specs.declared.outcomes.LogOutcome.TheVariants.{Done, Egl, Gl, Unnamed}
use Rattle.trace_reader.specs.declared.traces.Line.{Line}
use Rattle.driver_judge.specs.Answers.{answer_difference, basis_of, thread_group}
use Rattle.driver_judge.specs.Fences.{step_beside}
use Rattle.driver_judge.specs.Judgements.{Progress, begun, judge_next, judged, judgement, noted, opened, setting}
use Rattle.driver_judge.specs.Judging.{Found, KeptValue, Setting, agreed_outcome, both_refused, carried_out, fault_of, found, judge_call, judge_item, named, number_of, only_ours_refused, other_outcome, played, refusal_difference, refused_behind, theirs_refused, unjudged, unless_at_fault, verdict_by, with_call}
use Rattle.driver_judge.specs.Laws.{IsMove, IsNext, IsNextBy, IsRun, Moves, Relates, is_agreement}
use Rattle.driver_judge.specs.Outcomes.{agrees, outcomes, refused_with}
use Rattle.driver_judge.specs.UsedNames.{uses_renamed}
use Rattle.driver_judge.specs.Variables.{our_call}
use Rattle.driver_judge.specs.declared.differences.Difference.{Difference}
use Rattle.driver_judge.specs.declared.differences.Difference.TheVariants.{Outcome}
use Rattle.driver_judge.specs.declared.judgements.LineVerdict.{LineVerdict}
use Rattle.driver_judge.specs.declared.judgements.LineVerdict.TheVariants.{Agreed, Own, Differs, After, Unjudged}
use Rattle.driver_judge.specs.declared.judgements.Note.{Note}
use Rattle.driver_judge.specs.declared.judgements.Unjudged.TheVariants.{Name}
use Rattle.driver_judge.specs.declared.sorts.Sort.{Sort}
use Rattle.driver_judge.specs.declared.sorts.Sort.TheVariants.{Equal}
use Rattle.driver_judge.proofs.FrontLaws.{front_state}
use Rattle.driver_judge.proofs.OutcomeLaws.{right}

true_false : true ≡ false → ⊥
true_false e = cc

abbrev pub Agrees : Found → Type 0
Agrees f = is_agreement f.verdict ≡ true

nothing_differs : (sort : Sort) (o : Option Difference) → is_agreement (verdict_by sort o) ≡ true → o ≡ None
nothing_differs sort None h = refl
nothing_differs sort (Some d) h = cc

-- a call moves, and its answer is related
abbrev pub Moved : Setting → Line → CallValue → Answer → LogOutcome → State → KeptValue → Found → Type 0
Moved set l c a o s k f = Moves s l.thread c a o f.after.state × Relates set s k l.thread c a o

carried_moves : (set : Setting) (l : Line) (c : CallValue) (a : Answer) (s : State) (k : KeptValue) → agrees (outcomes s l.thread c) Done ≡ true → Agrees (carried_out set l c a s k) → Moved set l c a Done s k (carried_out set l c a s k)
unfolding carried_out step_beside
carried_moves set l c a s k r h = ((right s l.thread c Done r, refl), nothing_differs (basis_of s k.stands.handles l.thread c a.value).sort (answer_difference set.configs.pairs set.delta k.stands (basis_of s k.stands.handles l.thread c a.value) (step_beside s l.thread c a).reply a) h)

refused_state : (l : Line) (a : Answer) (o : LogOutcome) (s : State) (k : KeptValue) → a.outcome ≡ o → (both_refused l a s k).after.state ≡ refused_with s l.thread o
unfolding both_refused
refused_state l a o s k e = ap (refused_with s l.thread) e

refused_answer : (l : Line) (a : Answer) (s : State) (k : KeptValue) → Agrees (both_refused l a s k) → refusal_difference a ≡ None
unfolding both_refused
refused_answer l a s k h = nothing_differs Equal (refusal_difference a) h

agreed_moves : (set : Setting) (l : Line) (c : CallValue) (a : Answer) (o : LogOutcome) (s : State) (k : KeptValue) → a.outcome ≡ o → agrees (outcomes s l.thread c) o ≡ true → Agrees (agreed_outcome set l c a o s k) → Moved set l c a o s k (agreed_outcome set l c a o s k)
agreed_moves set l c a Done s k e r h = carried_moves set l c a s k r h
agreed_moves set l c a (Egl x) s k e r h = ((right s l.thread c (Egl x) r, refused_state l a (Egl x) s k e), refused_answer l a s k h)
agreed_moves set l c a (Gl x) s k e r h = ((right s l.thread c (Gl x) r, refused_state l a (Gl x) s k e), refused_answer l a s k h)
agreed_moves set l c a (Unnamed z) s k e r h = ((right s l.thread c (Unnamed z) r, refused_state l a (Unnamed z) s k e), refused_answer l a s k h)

other_differs : (l : Line) (c : CallValue) (d : Difference) (o : LogOutcome) (s : State) (k : KeptValue) → is_agreement (other_outcome l c d o s k).verdict ≡ false
unfolding only_ours_refused theirs_refused
other_differs l c d Done s k = refl
other_differs l c d (Egl x) s k = refl
other_differs l c d (Gl x) s k = refl
other_differs l c d (Unnamed z) s k = refl

abbrev played_as : Setting → Line → CallValue → Answer → State → KeptValue → Bool → Found
played_as set l c a s k b = if b then agreed_outcome set l c a a.outcome s k else other_outcome l c (Outcome (outcomes s l.thread c) a.outcome c.kind (refusals s l.thread c)) a.outcome s k

played_by : (set : Setting) (l : Line) (c : CallValue) (a : Answer) (s : State) (k : KeptValue) (b : Bool) → agrees (outcomes s l.thread c) a.outcome ≡ b → Agrees (played_as set l c a s k b) → Moved set l c a a.outcome s k (played_as set l c a s k b)
played_by set l c a s k true r g = agreed_moves set l c a a.outcome s k refl r g
played_by set l c a s k false r g = absurd (true_false (sym g ∙ other_differs l c (Outcome (outcomes s l.thread c) a.outcome c.kind (refusals s l.thread c)) a.outcome s k))

pub played_moves : (set : Setting) (l : Line) (c : CallValue) (a : Answer) (s : State) (k : KeptValue) → Agrees (played set l c a s k) → Moved set l c a a.outcome s k (played set l c a s k)
unfolding played
played_moves set l c a s k h = played_by set l c a s k (agrees (outcomes s l.thread c) a.outcome) refl h

named_by : (set : Setting) (l : Line) (a : Answer) (c : CallValue) (s : State) (k : KeptValue) (b : Bool) → Agrees (if b then unjudged l a.outcome (Unjudged Name) s k else played set l c a s k) → Moved set l c a a.outcome s k (if b then unjudged l a.outcome (Unjudged Name) s k else played set l c a s k)
named_by set l a c s k true g = absurd (true_false (sym g))
named_by set l a c s k false g = played_moves set l c a s k g

named_moves : (set : Setting) (l : Line) (a : Answer) (c : CallValue) (s : State) (k : KeptValue) → Agrees (named set l a c s k) → Moved set l c a a.outcome s k (named set l a c s k)
unfolding named
named_moves set l a c s k h = named_by set l a c s k (uses_renamed k.stands.renamed k.stands.names (thread_group s l.thread) l) h

call_moves : (set : Setting) (l : Line) (a : Answer) (o : Option CallValue) (s : State) (k : KeptValue) → our_call set.configs.named set.configs.pairs k.variables l ≡ o → Agrees (with_call set l a o s k) → IsMove set l a s k (with_call set l a o s k).after.state
call_moves set l a None s k e h = absurd (true_false (sym h))
call_moves set l a (Some c) s k e h = let m : Moved set l c a a.outcome s k (named set l a c s k) = named_moves set l a c s k h in record { call = c; ours = e; moves = m.0; relates = m.1 }

line_moves : (set : Setting) (l : Line) (a : Answer) (o : Option ℕ) (s : State) (k : KeptValue) → Agrees (unless_at_fault set l a o s k) → IsMove set l a s k (unless_at_fault set l a o s k).after.state
line_moves set l a (Some line) s k h = absurd (true_false (sym h))
line_moves set l a None s k h = call_moves set l a (our_call set.configs.named set.configs.pairs k.variables l) s k refl h

next_by : (set : Setting) (x : Called) (s : State) (k : KeptValue) (b : Bool) → Agrees (if b then found Agreed s (refused_behind x.line k) else unless_at_fault set x.line x.answer (fault_of k x.line) s k) → IsNextBy b set x s k (if b then found Agreed s (refused_behind x.line k) else unless_at_fault set x.line x.answer (fault_of k x.line) s k).after.state
next_by set x s k true g = refl
next_by set x s k false g = line_moves set x.line x.answer (fault_of k x.line) s k g

next_call : (set : Setting) (x : Called) (s : State) (k : KeptValue) → Agrees (judge_call set x s k) → IsNextBy (needs_no_answer x.line.call.kind) set x s k (judge_call set x s k).after.state
unfolding judge_call
next_call set x s k h = next_by set x s k (needs_no_answer x.line.call.kind) h

next_item : (set : Setting) (item : Item) (s : State) (k : KeptValue) → Agrees (judge_item set item s k) → IsNext set item s k (judge_item set item s k).after.state
unfolding judge_item
next_item set (Call x) s k h = next_call set x s k h
next_item set (Front x) s k h = sym (front_state set x s k)

-- ---- All lines. What is noted stays noted.
pub no_note : (line : ℕ) (v : LineVerdict) → noted line v ≡ [] → is_agreement v ≡ true
no_note line Agreed h = refl
no_note line Own h = refl
no_note line (Differs d) h = cc
no_note line (After l) h = cc
no_note line (Unjudged why) h = cc

back_first : (xs ys : List Note) → xs ++ ys ≡ [] → xs ≡ []
back_first [] ys h = refl
back_first (x ∷ xs) ys h = cc

pub back_second : (xs ys : List Note) → xs ++ ys ≡ [] → ys ≡ []
back_second [] ys h = h
back_second (x ∷ xs) ys h = cc

pub notes_next : (set : Setting) (p : Progress) (item : Item) → (judge_next set p item).tally.notes ≡ p.tally.notes ++ noted (number_of item) (judge_item set item p.beside.state p.beside.kept).verdict
unfolding judge_next
notes_next set p item = refl

beside_next : (set : Setting) (p : Progress) (item : Item) → (judge_next set p item).beside ≡ (judge_item set item p.beside.state p.beside.kept).after
unfolding judge_next
beside_next set p item = refl

pub no_notes_before : (set : Setting) (p : Progress) (items : List Item) → (fold (judge_next set) p items).tally.notes ≡ [] → p.tally.notes ≡ []
no_notes_before set p [] h = h
no_notes_before set p (item ∷ more) h = back_first p.tally.notes (noted (number_of item) (judge_item set item p.beside.state p.beside.kept).verdict) (sym (notes_next set p item) ∙ no_notes_before set (judge_next set p item) more h)

runs : (set : Setting) (p : Progress) (items : List Item) → (fold (judge_next set) p items).tally.notes ≡ [] → IsRun set items p.beside.state p.beside.kept
unfolding judge_next
runs set p [] h = tt
runs set p (item ∷ more) h = (
  next_item set item p.beside.state p.beside.kept (no_note (number_of item) (judge_item set item p.beside.state p.beside.kept).verdict (back_second p.tally.notes (noted (number_of item) (judge_item set item p.beside.state p.beside.kept).verdict) (sym (notes_next set p item) ∙ no_notes_before set (judge_next set p item) more h))),
  runs set (judge_next set p item) more h,
)

pub agreed_runs : (l : LogValue) (delta : ℕ) → (judgement l delta).notes ≡ [] → IsRun (setting l delta) l.items (opened l).state (opened l).kept
unfolding judgement judged
agreed_runs l delta h = runs (setting l delta) (begun l) l.items h
