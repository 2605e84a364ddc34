-- What each line of a log keeps of our state and of what stands for what.
use Rattle.std.proofs.Common.{◌≡◌, ℕ, Bool, true, false, List, [], ◌∷◌, fold, refl, subst}
use Rattle.std.specs.Prelude.{is_some, if◌then◌else◌, Option, None, Some}
use Rattle.driver_facts.specs.Verdicts.{refusals}
use Rattle.egl_calls.specs.Calls.{CallValue}
use Rattle.egl_calls.specs.declared.errors.EglError.TheVariants.{Success}
use Rattle.egl_calls.specs.declared.kinds.Kind.{Kind}
use Rattle.egl_calls.specs.declared.kinds.Kind.TheVariants.{Egl as EglCall, Gl as GlCall, Own as OwnCall}
use Rattle.egl_model.specs.State.{State}
use Rattle.egl_model.specs.Step.{Stepped, step}
use Rattle.log_reader.specs.Forms.{needs_no_answer}
use Rattle.log_reader.specs.declared.answers.Answer.{Answer}
use Rattle.log_reader.specs.declared.items.Called.{Called}
use Rattle.log_reader.specs.declared.items.Item.{Item}
use Rattle.log_reader.specs.declared.items.Item.TheVariants.{Call, Front}
use Rattle.log_reader.specs.declared.items.Shown.{Shown}
use Rattle.log_reader.specs.declared.outcomes.LogOutcome.{LogOutcome}
use Rattle.log_reader.specs.declared.outcomes.LogOutcome.TheVariants.{Done, Egl, Gl, Unnamed}
use Rattle.trace_reader.specs.declared.traces.Line.{Line}
use Rattle.driver_judge.specs.Answers.{StandsValue, answer_difference, basis_of, stands_behind, thread_group}
use Rattle.driver_judge.specs.Fences.{step_beside}
use Rattle.driver_judge.specs.Judgements.{Progress, judge_next}
use Rattle.driver_judge.specs.Calls.{is_make_current, sets_current}
use Rattle.driver_judge.specs.Judging.{Found, KeptValue, Setting, agreed_outcome, both_refused, carried_out, error_behind, fault_of, formats_behind, judge_call, judge_front, judge_item, named, only_ours_refused, other_outcome, played, returned_if, set_adrift, theirs_refused, unless_at_fault, variable_behind, with_call, with_variable}
use Rattle.driver_judge.specs.Outcomes.{agrees, errors_of, outcomes, refused_with}
use Rattle.driver_judge.specs.UsedNames.{uses_renamed}
use Rattle.driver_judge.specs.Variables.{lost, our_call}
use Rattle.driver_judge.specs.declared.bases.Basis.{Basis}
use Rattle.driver_judge.specs.declared.differences.Difference.{Difference}
use Rattle.driver_judge.specs.declared.differences.Difference.TheVariants.{Outcome}
use Rattle.driver_judge.proofs.FrontLaws.{front_kept, front_state}
use Rattle.driver_judge.proofs.OutcomeLaws.{right}

-- what is kept behind an error that is told or noted, behind our step, and behind a call that both carried out
pub record Steady (P : State → StandsValue → Type 0) : Type 0 where
  pub refused : (s : State) (t : ℕ) (e : LogOutcome) (m : StandsValue) → P s m → P (refused_with s t e) m
  pub goes : (s : State) (t : ℕ) (c : CallValue) (m : StandsValue) → P s m → P (step s t c).state m
  pub done : (s : State) (t : ℕ) (c : CallValue) (theirs : Answer) (m : StandsValue) → errors_of (refusals s t c) ≡ [] → P s m → P (step_beside s t c theirs).state (stands_behind m (basis_of s m.handles t c theirs.value) c (step_beside s t c theirs).reply theirs)

module _ (P : State → StandsValue → Type 0) (steady : Steady P) where
  abbrev Leaves : Found → Type 0
  Leaves f = P f.after.state f.after.kept.stands

  told : (s : State) (t : ℕ) (kind : Kind) (o : LogOutcome) (m : StandsValue) → P s m → P (error_behind s t kind o) m
  told s t (EglCall k) Done m h = steady.refused s t (Egl Success) m h
  told s t (EglCall k) (Egl e) m h = steady.refused s t (Egl e) m h
  told s t (EglCall k) (Gl e) m h = h
  told s t (EglCall k) (Unnamed z) m h = h
  told s t (GlCall k) o m h = h
  told s t (OwnCall k) o m h = h

  if_adrift : (b : Bool) (t : ℕ) (line : Option ℕ) (s : State) (k : KeptValue) → P s k.stands → P s (if b then set_adrift t line k else k).stands
  if_adrift true t line s k h = h
  if_adrift false t line s k h = h

  if_returned : (b : Bool) (l : Line) (s : State) (k : KeptValue) → P s k.stands → P s (returned_if b l k).stands
  if_returned true l s k h = h
  if_returned false l s k h = if_adrift (sets_current l.call.kind) l.thread None s k h

  carried_keeps : (set : Setting) (l : Line) (c : CallValue) (theirs : Answer) (s : State) (k : KeptValue) → agrees (outcomes s l.thread c) Done ≡ true → P s k.stands → Leaves (carried_out set l c theirs s k)
  unfolding carried_out
  carried_keeps set l c theirs s k r h =
      let a : Basis = basis_of s k.stands.handles l.thread c theirs.value in
      let x : Stepped = step_beside s l.thread c theirs in
      let d : Option Difference = answer_difference set.configs.pairs set.delta k.stands a x.reply theirs in
      let before : KeptValue = record k { stands = stands_behind k.stands a c x.reply theirs } in
      let kept : KeptValue = record (with_variable l (variable_behind set.configs l a.sort x.reply theirs (is_some d)) before) { formats = formats_behind c k.formats } in
      if_returned (is_some d) l x.state kept (steady.done s l.thread c theirs k.stands (right s l.thread c Done r) h)

  refused_keeps : (l : Line) (theirs : Answer) (s : State) (k : KeptValue) → P s k.stands → Leaves (both_refused l theirs s k)
  unfolding both_refused
  refused_keeps l theirs s k h = steady.refused s l.thread theirs.outcome k.stands h

  agreed_keeps : (set : Setting) (l : Line) (c : CallValue) (theirs : Answer) (o : LogOutcome) (s : State) (k : KeptValue) → agrees (outcomes s l.thread c) o ≡ true → P s k.stands → Leaves (agreed_outcome set l c theirs o s k)
  agreed_keeps set l c theirs Done s k r h = carried_keeps set l c theirs s k r h
  agreed_keeps set l c theirs (Egl e) s k r h = refused_keeps l theirs s k h
  agreed_keeps set l c theirs (Gl e) s k r h = refused_keeps l theirs s k h
  agreed_keeps set l c theirs (Unnamed z) s k r h = refused_keeps l theirs s k h

  other_keeps : (l : Line) (c : CallValue) (d : Difference) (o : LogOutcome) (s : State) (k : KeptValue) → P s k.stands → Leaves (other_outcome l c d o s k)
  unfolding only_ours_refused theirs_refused
  other_keeps l c d Done s k h = if_adrift (is_make_current l.call.kind) l.thread (Some l.number) (step s l.thread c).state (with_variable l (lost l.number) k) (steady.goes s l.thread c k.stands h)
  other_keeps l c d (Egl e) s k h = steady.refused s l.thread (Egl e) k.stands h
  other_keeps l c d (Gl e) s k h = steady.refused s l.thread (Gl e) k.stands h
  other_keeps l c d (Unnamed z) s k h = steady.refused s l.thread (Unnamed z) k.stands h

  played_by : (set : Setting) (l : Line) (c : CallValue) (theirs : Answer) (d : Difference) (s : State) (k : KeptValue) (b : Bool) → agrees (outcomes s l.thread c) theirs.outcome ≡ b → P s k.stands → Leaves (if b then agreed_outcome set l c theirs theirs.outcome s k else other_outcome l c d theirs.outcome s k)
  played_by set l c theirs d s k true r h = agreed_keeps set l c theirs theirs.outcome s k r h
  played_by set l c theirs d s k false r h = other_keeps l c d theirs.outcome s k h

  played_keeps : (set : Setting) (l : Line) (c : CallValue) (theirs : Answer) (s : State) (k : KeptValue) → P s k.stands → Leaves (played set l c theirs s k)
  unfolding played
  played_keeps set l c theirs s k h = played_by set l c theirs (Outcome (outcomes s l.thread c) theirs.outcome c.kind (refusals s l.thread c)) s k (agrees (outcomes s l.thread c) theirs.outcome) refl h

  either_keeps : (b : Bool) (f g : Found) → Leaves f → Leaves g → Leaves (if b then f else g)
  either_keeps true f g h i = h
  either_keeps false f g h i = i

  named_keeps : (set : Setting) (l : Line) (theirs : Answer) (c : CallValue) (s : State) (k : KeptValue) → P s k.stands → Leaves (named set l theirs c s k)
  unfolding named
  named_keeps set l theirs c s k h = either_keeps (uses_renamed k.stands.renamed k.stands.names (thread_group s l.thread) l) _ _ (told s l.thread l.call.kind theirs.outcome k.stands h) (played_keeps set l c theirs s k h)

  call_keeps : (set : Setting) (l : Line) (theirs : Answer) (o : Option CallValue) (s : State) (k : KeptValue) → P s k.stands → Leaves (with_call set l theirs o s k)
  call_keeps set l theirs None s k h = told s l.thread l.call.kind theirs.outcome k.stands h
  call_keeps set l theirs (Some c) s k h = named_keeps set l theirs c s k h

  line_keeps : (set : Setting) (l : Line) (theirs : Answer) (fault : Option ℕ) (s : State) (k : KeptValue) → P s k.stands → Leaves (unless_at_fault set l theirs fault s k)
  line_keeps set l theirs (Some line) s k h = if_adrift (is_make_current l.call.kind) l.thread (Some line) (error_behind s l.thread l.call.kind theirs.outcome) (with_variable l (lost line) k) (told s l.thread l.call.kind theirs.outcome k.stands h)
  line_keeps set l theirs None s k h = call_keeps set l theirs (our_call set.configs.named set.configs.pairs k.variables l) s k h

  called_keeps : (set : Setting) (x : Called) (s : State) (k : KeptValue) → P s k.stands → Leaves (judge_call set x s k)
  unfolding judge_call
  called_keeps set x s k h = either_keeps (needs_no_answer x.line.call.kind) _ _ h (line_keeps set x.line x.answer (fault_of k x.line) s k h)

  front_keeps : (set : Setting) (x : Shown) (s : State) (k : KeptValue) → P s k.stands → Leaves (judge_front set x s k)
  front_keeps set x s k h = subst (λ a. P a (judge_front set x s k).after.kept.stands) (front_state set x s k) (subst (λ (q : KeptValue). P s q.stands) (front_kept set x s k) h)

  item_keeps : (set : Setting) (item : Item) (s : State) (k : KeptValue) → P s k.stands → Leaves (judge_item set item s k)
  unfolding judge_item
  item_keeps set (Call x) s k h = called_keeps set x s k h
  item_keeps set (Front x) s k h = front_keeps set x s k h

  pub all_keep : (set : Setting) (p : Progress) (items : List Item) → P p.beside.state p.beside.kept.stands → P (fold (judge_next set) p items).beside.state (fold (judge_next set) p items).beside.kept.stands
  unfolding judge_next
  all_keep set p [] h = h
  all_keep set p (item ∷ items) h = all_keep set (judge_next set p item) items (item_keeps set item p.beside.state p.beside.kept h)
