-- What answers as ours agrees.
use Rattle.std.proofs.Common.{◌≡◌, ◌⊎◌, inl, inr, ℕ, ◌+◌, ◌&&◌, ℤ, Bool, true, List, [], ◌∷◌, ◌++◌, fold, length, refl, sym, ap, subst, ◌∙◌, arith}
use Rattle.std.specs.Prelude.{None, Some, if◌then◌else◌}
use Rattle.std.specs.List.{filter}
use Rattle.std.specs.Option.{option_or}
use Rattle.std.proofs.lemmas.Bool.Decides.{Decides-eqb, Decides-int_eq}
use Rattle.std.proofs.lemmas.List.{append-nil}
use Rattle.driver_facts.specs.Verdicts.{refusals}
use Rattle.egl_calls.specs.Calls.{CallValue, ReplyValue}
use Rattle.egl_model.specs.State.{State}
use Rattle.log_reader.specs.Forms.{needs_no_answer}
use Rattle.log_reader.specs.declared.answers.Answer.{Answer}
use Rattle.log_reader.specs.Logs.{LogValue}
use Rattle.log_reader.specs.declared.items.Called.{Called}
use Rattle.log_reader.specs.declared.items.Item.{Item}
use Rattle.log_reader.specs.declared.items.Item.TheVariants.{Call, Front}
use Rattle.log_reader.specs.declared.items.Shown.{Shown}
use Rattle.log_reader.specs.declared.outcomes.LogOutcome.{LogOutcome}
use Rattle.log_reader.specs.declared.outcomes.LogOutcome.TheVariants.{Done, Egl, Gl, Unnamed}
use Rattle.pixel_formats.specs.declared.formats.Format.{Format}
use Rattle.trace_reader.specs.declared.traces.Line.{Line}
use Rattle.driver_judge.specs.Answers.{StandsValue, answer_difference, are_same, as_pixels, basis_of, bytes_beside, each_some, is_theirs, items_beside, list_difference, may_be_display, names_beside, new_value, same_value, their_handle_for, value_beside, value_difference}
use Rattle.driver_judge.specs.Configs.{their_configs}
use Rattle.driver_judge.specs.Fences.{step_beside}
use Rattle.driver_judge.specs.Fronts.{front_bytes, shown_format}
use Rattle.driver_judge.specs.Judgements.{Progress, begun, is_agreed, judge_next, judged, judgement, noted, opened, setting}
use Rattle.driver_judge.specs.Judging.{Found, KeptValue, Setting, agreed_outcome, agreeing, both_refused, carried_out, fault_of, found, front_by, front_difference, judge_call, judge_front, judge_item, kept_behind, named, number_of, other_outcome, played, refusal_difference, refused_behind, unjudged, unless_at_fault, verdict_by, with_call}
use Rattle.driver_judge.specs.Laws.{AgreesInto, AnswerAsOurs, AnswersAsOurs, HandleIsSame, IsJudgedAs, IsOfARow, IsOfOurs, RefusesAsOurs, RepliesAsOurs, ShowsAsOurs, StandsForItself, error_answer, is_agreement, reply_answer}
use Rattle.driver_judge.specs.Maps.{Both}
use Rattle.driver_judge.specs.Outcomes.{agrees, errors_of, outcomes, refused_with}
use Rattle.driver_judge.specs.Pixels.{front_grid, pixel_difference}
use Rattle.driver_judge.specs.declared.bases.Basis.{Basis}
use Rattle.driver_judge.specs.declared.configs.ConfigPair.{ConfigPair}
use Rattle.driver_judge.specs.declared.differences.Difference.TheVariants.{Items, Length, Outcome, Value}
use Rattle.driver_judge.specs.declared.judgements.LineVerdict.{LineVerdict}
use Rattle.driver_judge.specs.declared.judgements.LineVerdict.TheVariants.{After, Agreed, Differs, Own as OwnVerdict, Unjudged}
use Rattle.driver_judge.specs.declared.judgements.Unjudged.TheVariants.{Name}
use Rattle.driver_judge.specs.declared.pixels.Grid.{Grid}
use Rattle.driver_judge.specs.declared.sorts.Mapped.{Mapped}
use Rattle.driver_judge.specs.declared.sorts.Sort.{Sort}
use Rattle.driver_judge.specs.declared.sorts.Sort.TheVariants.{Equal, Own, NewHandle, SameHandle, ConfigList, ConfigId, NewNames, FreedNames, SameName, PixelBytes}
use Rattle.driver_judge.proofs.OutcomeLaws.{no_row_is_done, right_agrees}
use Rattle.driver_judge.proofs.PixelLaws.{same_agree}

-- ---- Values, lists and bytes that are the same.
value_self : (z : ℤ) → value_beside (Some z) z ≡ None
value_self z = ap (λ (b : Bool). if b then None else Some (Value (Some z) z)) ((Decides-int_eq z z).1 refl)

handle_self : (m : Both) (kind : Mapped) (z : ℤ) → HandleIsSame m kind z → same_value m kind z z ≡ None
unfolding same_value
handle_self m kind z (inl h) =
    ap (λ (b : Bool). if b then new_value (may_be_display m kind z) z else value_beside (their_handle_for m kind z) z) h.0
    ∙ ap (λ b. new_value b z) h.1
handle_self m kind z (inr h) =
    ap (λ (b : Bool). if b then new_value (may_be_display m kind z) z else value_beside (their_handle_for m kind z) z) h.0
    ∙ ap (λ o. value_beside o z) h.1
    ∙ value_self z

value_same : (pairs : List ConfigPair) (m : StandsValue) (a : Basis) (sort : Sort) (r : ReplyValue) → StandsForItself pairs m a sort r → value_difference pairs m a sort r.value r.value ≡ None
unfolding value_difference
value_same pairs m a Equal r h = value_self r.value
value_same pairs m a Own r h = refl
value_same pairs m a (NewHandle kind) r h = ap (λ b. new_value b r.value) h
value_same pairs m a (SameHandle kind) r h = handle_self m.handles kind r.value h
value_same pairs m a ConfigList r h = value_self r.value
value_same pairs m a ConfigId r h = ap (λ o. value_beside o r.value) h ∙ value_self r.value
value_same pairs m a (NewNames kind) r h = value_self r.value
value_same pairs m a (FreedNames kind) r h = value_self r.value
value_same pairs m a (SameName kind) r h = ap (λ o. value_beside o r.value) h ∙ value_self r.value
value_same pairs m a PixelBytes r h = value_self r.value

same_self : (zs : List ℤ) → are_same zs zs ≡ true
same_self [] = refl
same_self (z ∷ zs) = ap (λ b. b && are_same zs zs) ((Decides-int_eq z z).1 refl) ∙ same_self zs

items_self : (zs : List ℤ) → items_beside zs zs ≡ None
items_self zs = ap (λ (b : Bool). if b then None else Some (Items (each_some zs) zs)) (same_self zs)

list_same : (pairs : List ConfigPair) (m : StandsValue) (a : Basis) (sort : Sort) (r : ReplyValue) → StandsForItself pairs m a sort r → list_difference pairs m a sort r.list r.list ≡ None
unfolding list_difference
list_same pairs m a Equal r h = items_self r.list
list_same pairs m a Own r h = items_self r.list
list_same pairs m a (NewHandle kind) r h = items_self r.list
list_same pairs m a (SameHandle kind) r h = items_self r.list
list_same pairs m a ConfigList r h =
    ap (λ (b : Bool). if b then None else Some (Items (each_some (their_configs pairs r.list)) r.list))
    (ap (are_same (filter (is_theirs pairs) r.list)) h ∙ same_self (filter (is_theirs pairs) r.list))
list_same pairs m a ConfigId r h = items_self r.list
list_same pairs m a (NewNames kind) r h = ap (λ b. names_beside b r.list r.list) h
list_same pairs m a (FreedNames kind) r h = items_self r.list
list_same pairs m a (SameName kind) r h = items_self r.list
list_same pairs m a PixelBytes r h = items_self r.list

bytes_same : (delta : ℕ) (g : Grid) (bs : List ℕ) → bytes_beside delta g bs bs ≡ None
unfolding bytes_beside
bytes_same delta g bs =
    ap (λ (b : Bool). if b then as_pixels (pixel_difference delta g bs bs) else Some (Length (length bs) (length bs))) ((Decides-eqb (length bs) (length bs)).1 refl)
    ∙ ap as_pixels (sym (same_agree delta g bs bs refl))

answer_same : (pairs : List ConfigPair) (delta : ℕ) (m : StandsValue) (a : Basis) (r : ReplyValue) → StandsForItself pairs m a a.sort r → answer_difference pairs delta m a r (reply_answer r) ≡ None
unfolding answer_difference
answer_same pairs delta m a r h =
    ap (λ o. option_or o (option_or (list_difference pairs m a a.sort r.list r.list) (bytes_beside delta a.grid r.bytes r.bytes))) (value_same pairs m a a.sort r h)
    ∙ ap (λ o. option_or o (bytes_beside delta a.grid r.bytes r.bytes)) (list_same pairs m a a.sort r h)
    ∙ bytes_same delta a.grid r.bytes

-- ---- A line whose outcome agrees.
pub outcome_found : (set : Setting) (x : Called) (s : State) (k : KeptValue) (c : CallValue) → IsJudgedAs set x s k c → agrees (outcomes s x.line.thread c) x.answer.outcome ≡ true → judge_call set x s k ≡ agreed_outcome set x.line c x.answer x.answer.outcome s k
unfolding judge_call named played
outcome_found set x s k c j h =
    ap (λ (b : Bool). if b then found Agreed s (refused_behind x.line k) else unless_at_fault set x.line x.answer (fault_of k x.line) s k) j.asks
    ∙ ap (λ o. unless_at_fault set x.line x.answer o s k) j.faultless
    ∙ ap (λ o. with_call set x.line x.answer o s k) j.call
    ∙ ap (λ (b : Bool). if b then unjudged x.line x.answer.outcome (Unjudged Name) s k else played set x.line c x.answer s k) j.names
    ∙ ap (λ (b : Bool). if b then agreed_outcome set x.line c x.answer x.answer.outcome s k else other_outcome x.line c (Outcome (outcomes s x.line.thread c) x.answer.outcome c.kind (refusals s x.line.thread c)) x.answer.outcome s k) h

-- ---- A call that both refused.
error_found : (l : Line) (e : LogOutcome) (s : State) (k : KeptValue) → AgreesInto (both_refused l (error_answer e) s k) (refused_with s l.thread e)
unfolding both_refused refusal_difference bytes_beside pixel_difference
error_found l e s k = record { agrees = refl; state = refl }

refused_found : (set : Setting) (l : Line) (c : CallValue) (e : LogOutcome) (s : State) (k : KeptValue) → IsOfARow s l.thread c e → AgreesInto (agreed_outcome set l c (error_answer e) e s k) (refused_with s l.thread e)
refused_found set l c Done s k h = absurd (no_row_is_done s l.thread c h)
refused_found set l c (Egl e) s k h = error_found l (Egl e) s k
refused_found set l c (Gl e) s k h = error_found l (Gl e) s k
refused_found set l c (Unnamed z) s k h = error_found l (Unnamed z) s k

pub row_agrees : (s : State) (t : ℕ) (c : CallValue) (e : LogOutcome) → IsOfARow s t c e → agrees (outcomes s t c) e ≡ true
row_agrees s t c Done h = absurd (no_row_is_done s t c h)
row_agrees s t c (Egl e) h = right_agrees s t c (Egl e) h
row_agrees s t c (Gl e) h = right_agrees s t c (Gl e) h
row_agrees s t c (Unnamed z) h = right_agrees s t c (Unnamed z) h

pub refused_agrees : (set : Setting) (x : Called) (s : State) (k : KeptValue) (c : CallValue) (e : LogOutcome) → IsJudgedAs set x s k c → IsOfARow s x.line.thread c e → x.answer ≡ error_answer e → AgreesInto (judge_call set x s k) (refused_with s x.line.thread e)
refused_agrees set x s k c e j h is =
    let outcome : agrees (outcomes s x.line.thread c) x.answer.outcome ≡ true = ap (λ (a : Answer). agrees (outcomes s x.line.thread c) a.outcome) is ∙ row_agrees s x.line.thread c e h in
    subst (λ f. AgreesInto f (refused_with s x.line.thread e)) (sym (outcome_found set x s k c j outcome))
    (subst (λ (a : Answer). AgreesInto (agreed_outcome set x.line c a a.outcome s k) (refused_with s x.line.thread e)) (sym is) (refused_found set x.line c e s k h))

-- ---- A call that both carried out.
agreeing_is : (sort : Sort) → is_agreement (agreeing sort) ≡ true
agreeing_is Own = refl
agreeing_is sort = refl

carried_found : (set : Setting) (x : Called) (s : State) (k : KeptValue) (c : CallValue) → x.answer ≡ reply_answer (step_beside s x.line.thread c x.answer).reply → IsOfOurs set x s k c → AgreesInto (carried_out set x.line c x.answer s k) (step_beside s x.line.thread c x.answer).state
unfolding carried_out basis_of
carried_found set x s k c is h =
    let a : Basis = basis_of s k.stands.handles x.line.thread c x.answer.value in
    let r : ReplyValue = (step_beside s x.line.thread c x.answer).reply in
    let none : answer_difference set.configs.pairs set.delta k.stands a r x.answer ≡ None = ap (answer_difference set.configs.pairs set.delta k.stands a r) is ∙ answer_same set.configs.pairs set.delta k.stands a r h in
    record { agrees = ap (λ d. is_agreement (verdict_by a.sort d)) none ∙ agreeing_is a.sort; state = refl }

pub carried_agrees : (set : Setting) (x : Called) (s : State) (k : KeptValue) (c : CallValue) → IsJudgedAs set x s k c → errors_of (refusals s x.line.thread c) ≡ [] → x.answer ≡ reply_answer (step_beside s x.line.thread c x.answer).reply → IsOfOurs set x s k c → AgreesInto (judge_call set x s k) (step_beside s x.line.thread c x.answer).state
carried_agrees set x s k c j none is h =
    let done : x.answer.outcome ≡ Done = ap (λ (a : Answer). a.outcome) is in
    let outcome : agrees (outcomes s x.line.thread c) x.answer.outcome ≡ true = ap (agrees (outcomes s x.line.thread c)) done ∙ right_agrees s x.line.thread c Done none in
    subst (λ f. AgreesInto f (step_beside s x.line.thread c x.answer).state) (sym (outcome_found set x s k c j outcome))
    (subst (λ o. AgreesInto (agreed_outcome set x.line c x.answer o s k) (step_beside s x.line.thread c x.answer).state) (sym done) (carried_found set x s k c is h))

-- and what it keeps
pub carried_leaves : (set : Setting) (x : Called) (s : State) (k : KeptValue) (c : CallValue) → IsJudgedAs set x s k c → errors_of (refusals s x.line.thread c) ≡ [] → x.answer ≡ reply_answer (step_beside s x.line.thread c x.answer).reply → IsOfOurs set x s k c → (judge_call set x s k).after.kept ≡ kept_behind set.configs x.line c (basis_of s k.stands.handles x.line.thread c x.answer.value) (step_beside s x.line.thread c x.answer).reply x.answer None k
unfolding carried_out basis_of
carried_leaves set x s k c j rows is h =
    let a : Basis = basis_of s k.stands.handles x.line.thread c x.answer.value in
    let r : ReplyValue = (step_beside s x.line.thread c x.answer).reply in
    let done : x.answer.outcome ≡ Done = ap (λ (a : Answer). a.outcome) is in
    let outcome : agrees (outcomes s x.line.thread c) x.answer.outcome ≡ true = ap (agrees (outcomes s x.line.thread c)) done ∙ right_agrees s x.line.thread c Done rows in
    let none : answer_difference set.configs.pairs set.delta k.stands a r x.answer ≡ None = ap (answer_difference set.configs.pairs set.delta k.stands a r) is ∙ answer_same set.configs.pairs set.delta k.stands a r h in
    ap (λ (f : Found). f.after.kept) (outcome_found set x s k c j outcome ∙ ap (λ o. agreed_outcome set x.line c x.answer o s k) done)
    ∙ ap (λ d. kept_behind set.configs x.line c a r x.answer d k) none

-- ---- What a window shows.
pub shown_agrees : (set : Setting) (x : Shown) (s : State) (k : KeptValue) → ShowsAsOurs x s k → is_agreement (judge_front set x s k).verdict ≡ true
unfolding judge_front front_difference
shown_agrees set x s k h =
    let stored : Format = shown_format x.window k.formats in
    ap (λ o. is_agreement (front_by set x o s k).verdict) h.known
    ∙ ap (λ o. is_agreement (verdict_by Equal (front_difference set.delta stored x.bytes o))) h.front
    ∙ ap (λ bs. is_agreement (verdict_by Equal (front_difference set.delta stored bs (Some h.image)))) h.bytes
    ∙ ap (λ d. is_agreement (verdict_by Equal d)) (bytes_same set.delta (front_grid h.image.width h.image.height stored) (front_bytes h.image))

-- ---- All lines.
unanswered_agrees : (set : Setting) (x : Called) (s : State) (k : KeptValue) → needs_no_answer x.line.call.kind ≡ true → is_agreement (judge_call set x s k).verdict ≡ true
unfolding judge_call
unanswered_agrees set x s k h = ap (λ (b : Bool). is_agreement (if b then found Agreed s (refused_behind x.line k) else unless_at_fault set x.line x.answer (fault_of k x.line) s k).verdict) h

called_agrees : (set : Setting) (x : Called) (s : State) (k : KeptValue) → (needs_no_answer x.line.call.kind ≡ true) ⊎ (RefusesAsOurs set x s k ⊎ RepliesAsOurs set x s k) → is_agreement (judge_call set x s k).verdict ≡ true
called_agrees set x s k (inl h) = unanswered_agrees set x s k h
called_agrees set x s k (inr (inl h)) = (refused_agrees set x s k h.call h.error h.judged h.row h.answer).agrees
called_agrees set x s k (inr (inr h)) = (carried_agrees set x s k h.call h.judged h.rows h.answer h.same).agrees

item_agrees : (set : Setting) (item : Item) (s : State) (k : KeptValue) → AnswersAsOurs set item s k → is_agreement (judge_item set item s k).verdict ≡ true
unfolding judge_item
item_agrees set (Call x) s k h = called_agrees set x s k h
item_agrees set (Front x) s k h = shown_agrees set x s k h

pub not_noted : (line : ℕ) (v : LineVerdict) → is_agreement v ≡ true → noted line v ≡ []
not_noted line Agreed h = refl
not_noted line OwnVerdict h = refl
not_noted line (Differs d) h = cc
not_noted line (After l) h = cc
not_noted line (Unjudged why) h = cc

pub is_one : (v : LineVerdict) → is_agreement v ≡ true → is_agreed v ≡ 1
is_one Agreed h = refl
is_one OwnVerdict h = refl
is_one (Differs d) h = cc
is_one (After l) h = cc
is_one (Unjudged why) h = cc

all_agree : (set : Setting) (p : Progress) (items : List Item) → AnswerAsOurs set items p.beside.state p.beside.kept → ((fold (judge_next set) p items).tally.notes ≡ p.tally.notes) × ((fold (judge_next set) p items).tally.agreed ≡ p.tally.agreed + length items)
unfolding judge_next
all_agree set p [] h = (refl, omega arith)
all_agree set p (item ∷ items) h =
    let v : LineVerdict = (judge_item set item p.beside.state p.beside.kept).verdict in
    let line : ℕ = number_of item in
    let agrees : is_agreement v ≡ true = item_agrees set item p.beside.state p.beside.kept h.0 in
    let rest = all_agree set (judge_next set p item) items h.1 in
    let one : is_agreed v ≡ 1 = is_one v agrees in (
      rest.0 ∙ ap (λ ns. p.tally.notes ++ ns) (not_noted line v agrees) ∙ append-nil p.tally.notes,
      omega (arith, rest.1, one),
    )

none_before : (n : ℕ) → 0 + n ≡ n
none_before n = omega arith

pub log_agrees : (l : LogValue) (delta : ℕ) → AnswerAsOurs (setting l delta) l.items (opened l).state (opened l).kept → ((judgement l delta).notes ≡ []) × ((judgement l delta).agreed ≡ length l.items)
unfolding judgement judged
log_agrees l delta h = let all = all_agree (setting l delta) (begun l) l.items h in (all.0, all.1 ∙ none_before (length l.items))
