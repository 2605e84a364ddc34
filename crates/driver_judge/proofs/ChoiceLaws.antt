-- A log that chooses as ours is judged as the recording in it is checked.
use Rattle.std.proofs.Common.{◌≡◌, ◌⊎◌, inl, inr, ℕ, ◌==◌, ℤ, pos, Bool, true, false, List, [], ◌∷◌, fold, length, refl, arith, sym, ap, subst, ◌∙◌, is_some, if◌then◌else◌, unwrap_or, Option, None, Some}
use Rattle.std.specs.Prelude.{◌↔◌}
use Rattle.std.specs.List.{list_any}
use Rattle.std.specs.Option.{option_or}
use Rattle.std.specs.Ordering.{int_eq}
use Rattle.std.proofs.lemmas.Bool.{and_parts}
use Rattle.std.proofs.lemmas.Bool.Decides.{Decides-eqb, Decides-int_eq}
use Rattle.driver_facts.specs.Verdicts.{refusals}
use Rattle.egl_calls.specs.Calls.{CallValue, ReplyValue}
use Rattle.egl_calls.specs.declared.entries.Entry.{Entry}
use Rattle.egl_calls.specs.declared.errors.Outcome.{Outcome}
use Rattle.egl_calls.specs.declared.errors.Outcome.TheVariants.{Done as CarriedOut, Waiting, InWait, NoWait, Egl as RefusedEgl, Gl as RefusedGl}
use Rattle.egl_model.specs.History.{IsLegalFrom}
use Rattle.egl_model.specs.State.{State, opening}
use Rattle.egl_model.specs.Step.{bare, step}
use Rattle.log_reader.specs.Logs.{LogValue}
use Rattle.log_reader.specs.declared.answers.Answer.{Answer}
use Rattle.log_reader.specs.declared.items.Called.{Called}
use Rattle.log_reader.specs.declared.items.Item.{Item}
use Rattle.log_reader.specs.declared.items.Item.TheVariants.{Call, Front}
use Rattle.log_reader.specs.declared.outcomes.LogOutcome.{LogOutcome}
use Rattle.log_reader.specs.declared.outcomes.LogOutcome.TheVariants.{Done, Egl, Gl, Unnamed}
use Rattle.driver_judge.specs.Answers.{StandsValue, answer_difference, are_same, as_pixels, basis_of, bytes_beside, each_some, items_beside, list_difference, value_beside, value_difference}
use Rattle.driver_judge.specs.Fences.{step_beside}
use Rattle.driver_judge.specs.Judgements.{Progress, begun, judge_next, judged, judgement, noted, opened, setting}
use Rattle.driver_judge.specs.Judging.{Found, KeptValue, Setting, fault_of, found, judge_call, judge_item, named, number_of, played, refusal_difference, refused_behind, unjudged, unless_at_fault, with_call}
use Rattle.driver_judge.specs.Laws.{AreDone, ChoosesEntry, ChoosesLine, ChoosesOurs, IsFirstRow, IsJudgedAs, IsOfARow, Moves, RecordsBy, RecordsLine, Relates, StandsForItself, is_agreement, told_outcome}
use Rattle.driver_judge.specs.Outcomes.{errors_of, is_same, refused_with}
use Rattle.driver_judge.specs.Pixels.{no_grid, pixel_difference}
use Rattle.driver_judge.specs.Sorts.{sort_of}
use Rattle.driver_judge.specs.declared.bases.Basis.{Basis}
use Rattle.driver_judge.specs.declared.configs.ConfigPair.{ConfigPair}
use Rattle.driver_judge.specs.declared.differences.Difference.{Difference}
use Rattle.driver_judge.specs.declared.differences.Difference.TheVariants.{Items, Length, Value}
use Rattle.driver_judge.specs.declared.judgements.LineVerdict.TheVariants.{Agreed, Unjudged}
use Rattle.driver_judge.specs.declared.judgements.Unjudged.TheVariants.{Name}
use Rattle.driver_judge.specs.declared.sorts.Sort.{Sort}
use Rattle.driver_judge.specs.declared.sorts.Sort.TheVariants.{Equal, Own, NewHandle, SameHandle, ConfigList, ConfigId, NewNames, FreedNames, SameName, PixelBytes}
use Rattle.driver_judge.proofs.CameLaws.{IsNotRefused, IsRefusedBy, came}
use Rattle.driver_judge.proofs.OutcomeLaws.{no_row_is_done}
use Rattle.driver_judge.proofs.RecordLaws.{front_faultless, front_line, judged_as, log_recorded, recorded_line, same_some}
use Rattle.driver_judge.proofs.SelfLaws.{IsFaultless, opened_faultless}
use Rattle.driver_judge.proofs.RunLaws.{Agrees, back_second, no_note, no_notes_before, notes_next, played_moves}

-- ---- What differs in nothing is the same.
or_none : (o p : Option Difference) → option_or o p ≡ None → (o ≡ None) × (p ≡ None)
or_none None p h = (refl, h)
or_none (Some d) p h = cc

value_by : (e z : ℤ) (b : Bool) → int_eq e z ≡ b → (if b then None else Some (Value (Some e) z)) ≡ None → z ≡ e
value_by e z true i h = sym ((Decides-int_eq e z).0 i)
value_by e z false i h = cc

same_value : (e z : ℤ) → value_beside (Some e) z ≡ None → z ≡ e
same_value e z h = value_by e z (int_eq e z) refl h

expected_value : (o : Option ℤ) (e z : ℤ) → o ≡ Some e → value_beside o z ≡ None → z ≡ e
expected_value o e z i h = same_value e z (ap (λ p. value_beside p z) (sym i) ∙ h)

same_list : (es zs : List ℤ) → are_same es zs ≡ true → zs ≡ es
same_list [] [] h = refl
same_list [] (z ∷ zs) h = cc
same_list (e ∷ es) [] h = cc
same_list (e ∷ es) (z ∷ zs) h =
    let both = and_parts (int_eq e z) (are_same es zs) h in
    let head : z ≡ e = sym ((Decides-int_eq e z).0 both.0) in
    let tail : zs ≡ es = same_list es zs both.1 in
    λ i. head i ∷ tail i

items_by : (es zs : List ℤ) (b : Bool) → are_same es zs ≡ b → (if b then None else Some (Items (each_some es) zs)) ≡ None → zs ≡ es
items_by es zs true i h = same_list es zs i
items_by es zs false i h = cc

same_items : (es zs : List ℤ) → items_beside es zs ≡ None → zs ≡ es
same_items es zs h = items_by es zs (are_same es zs) refl h

chosen_value : (pairs : List ConfigPair) (m : StandsValue) (b : Basis) (sort : Sort) (a : Answer) (r : ReplyValue) → StandsForItself pairs m b sort r → ChoosesOurs sort a r → value_difference pairs m b sort r.value a.value ≡ None → a.value ≡ r.value
unfolding value_difference
chosen_value pairs m b Equal a r h c d = same_value r.value a.value d
chosen_value pairs m b Own a r h c d = c
chosen_value pairs m b (NewHandle kind) a r h c d = c
chosen_value pairs m b (SameHandle kind) a r h c d = c
chosen_value pairs m b ConfigList a r h c d = same_value r.value a.value d
chosen_value pairs m b ConfigId a r h c d = expected_value _ r.value a.value h d
chosen_value pairs m b (NewNames kind) a r h c d = same_value r.value a.value d
chosen_value pairs m b (FreedNames kind) a r h c d = same_value r.value a.value d
chosen_value pairs m b (SameName kind) a r h c d = expected_value _ r.value a.value h d
chosen_value pairs m b PixelBytes a r h c d = same_value r.value a.value d

chosen_list : (pairs : List ConfigPair) (m : StandsValue) (b : Basis) (sort : Sort) (a : Answer) (r : ReplyValue) → ChoosesOurs sort a r → list_difference pairs m b sort r.list a.list ≡ None → a.list ≡ r.list
unfolding list_difference
chosen_list pairs m b ConfigList a r c d = c
chosen_list pairs m b (NewNames kind) a r c d = c
chosen_list pairs m b Equal a r c d = same_items r.list a.list d
chosen_list pairs m b Own a r c d = same_items r.list a.list d
chosen_list pairs m b (NewHandle kind) a r c d = same_items r.list a.list d
chosen_list pairs m b (SameHandle kind) a r c d = same_items r.list a.list d
chosen_list pairs m b ConfigId a r c d = same_items r.list a.list d
chosen_list pairs m b (FreedNames kind) a r c d = same_items r.list a.list d
chosen_list pairs m b (SameName kind) a r c d = same_items r.list a.list d
chosen_list pairs m b PixelBytes a r c d = same_items r.list a.list d

-- value and list of an answer that agrees
record IsAnswered (a : Answer) (r : ReplyValue) : Type 0 where
  value : a.value ≡ r.value
  list : a.list ≡ r.list
  bytes : a.bytes ≡ r.bytes

chosen_answer : (pairs : List ConfigPair) (delta : ℕ) (m : StandsValue) (b : Basis) (a : Answer) (r : ReplyValue) → StandsForItself pairs m b b.sort r → ChoosesOurs b.sort a r → a.bytes ≡ r.bytes → answer_difference pairs delta m b r a ≡ None → IsAnswered a r
unfolding answer_difference
chosen_answer pairs delta m b a r h c bytes d =
    let first = or_none (value_difference pairs m b b.sort r.value a.value) _ d in
    let second = or_none (list_difference pairs m b b.sort r.list a.list) _ first.1 in
    record { value = chosen_value pairs m b b.sort a r h c first.0; list = chosen_list pairs m b b.sort a r c second.0; bytes = bytes }

as_long : (ours theirs : List ℕ) (b : Bool) → (length ours == length theirs) ≡ b → (if b then as_pixels (pixel_difference 0 no_grid ours theirs) else Some (Length (length ours) (length theirs))) ≡ None → length ours ≡ length theirs
as_long ours theirs true e h = (Decides-eqb (length ours) (length theirs)).0 e
as_long ours theirs false e h = cc

empty : (bs : List ℕ) → 0 ≡ length bs → bs ≡ []
empty [] h = refl
empty (b ∷ bs) h = absurd (omega (arith, h))

no_bytes : (bs : List ℕ) → bytes_beside 0 no_grid [] bs ≡ None → bs ≡ []
unfolding bytes_beside
no_bytes bs h = empty bs (as_long [] bs (0 == length bs) refl h)

refused_answer : (a : Answer) (o : Outcome) → refusal_difference a ≡ None → IsAnswered a (bare o)
unfolding refusal_difference
refused_answer a o h =
    let first = or_none (value_beside (Some (pos 0)) a.value) _ h in
    let second = or_none (items_beside [] a.list) _ first.1 in
    record { value = same_value (pos 0) a.value first.0; list = same_items [] a.list second.0; bytes = no_bytes a.bytes second.1 }

-- ---- Outcomes that are told alike are one.
abbrev back : LogOutcome → Outcome
back (Egl e) = RefusedEgl e
back (Gl e) = RefusedGl e
back o = CarriedOut

or_else : Option LogOutcome → LogOutcome
or_else o = unwrap_or o Done

told_back : (o : Outcome) (e : LogOutcome) → told_outcome o ≡ Some e → o ≡ back e
unfolding or_else
told_back CarriedOut e h = ap (λ u. back (or_else u)) h
told_back (RefusedEgl x) e h = ap (λ u. back (or_else u)) h
told_back (RefusedGl x) e h = ap (λ u. back (or_else u)) h
told_back Waiting e h = cc
told_back InWait e h = cc
told_back NoWait e h = cc

same_reply : (set : Setting) (x : Called) (e : Entry) (s : State) (k : KeptValue) (r : ReplyValue) → ChoosesEntry set x e s k → told_outcome r.outcome ≡ Some x.answer.outcome → IsAnswered x.answer r → e.reply ≡ r
same_reply set x e s k r h told is =
    let outcome : e.reply.outcome ≡ r.outcome = told_back e.reply.outcome x.answer.outcome h.records.reply.outcome ∙ sym (told_back r.outcome x.answer.outcome told) in
    let value : e.reply.value ≡ r.value = sym h.records.reply.value ∙ is.value in
    let list : e.reply.list ≡ r.list = sym h.records.reply.list ∙ is.list in
    let bytes : e.reply.bytes ≡ r.bytes = sym h.records.reply.bytes ∙ is.bytes in
    λ i. record { outcome = outcome i; value = value i; list = list i; bytes = bytes i }

-- ---- A line that agrees.
abbrev IsLegalStep : Entry → State → ℕ → State → Type 0
IsLegalStep e s t after = (e.reply ≡ (step s t e.call).reply) × (after ≡ (step s t e.call).state)

no_row : (e : LogOutcome) (es : List LogOutcome) → es ≡ [] → list_any (is_same e) es ≡ true → ⊥
no_row e es none h = let f : true ≡ false = sym h ∙ ap (list_any (is_same e)) none in cc

told_done : (o : Outcome) → IsNotRefused o → is_some (told_outcome o) ≡ true → told_outcome o ≡ Some Done
told_done o (inl d) i = d
told_done o (inr n) i = absurd (let f : true ≡ false = sym i ∙ ap is_some n in cc)

of_step : (set : Setting) (x : Called) (e : Entry) (s : State) (k : KeptValue) → ChoosesEntry set x e s k → AreDone x.answer (step s x.line.thread e.call).reply → StandsForItself set.configs.pairs k.stands (basis_of s k.stands.handles x.line.thread e.call x.answer.value) (sort_of s x.line.thread e.call) (step s x.line.thread e.call).reply
unfolding step_beside
of_step set x e s k h both = subst (λ (a : State). StandsForItself set.configs.pairs k.stands (basis_of s k.stands.handles x.line.thread e.call x.answer.value) (sort_of s x.line.thread e.call) (step a x.line.thread e.call).reply) h.records.fences (h.records.ours both)

carried_legal : (set : Setting) (x : Called) (e : Entry) (s : State) (k : KeptValue) (after : State) → ChoosesEntry set x e s k → x.answer.outcome ≡ Done → told_outcome (step s x.line.thread e.call).reply.outcome ≡ Some Done → Moves s x.line.thread e.call x.answer Done after → Relates set s k x.line.thread e.call x.answer Done → IsLegalStep e s x.line.thread after
unfolding basis_of
carried_legal set x e s k after h done told moves relates =
    let t = x.line.thread in
    let r : ReplyValue = (step s t e.call).reply in
    let b : Basis = basis_of s k.stands.handles t e.call x.answer.value in
    let both : AreDone x.answer r = record { theirs = done; ours = told } in
    let differs : answer_difference set.configs.pairs set.delta k.stands b r x.answer ≡ None = ap (λ (a : State). answer_difference set.configs.pairs set.delta k.stands b (step a t e.call).reply x.answer) (sym h.records.fences) ∙ relates in
    let ours : StandsForItself set.configs.pairs k.stands b b.sort r = of_step set x e s k h both in (
      same_reply set x e s k r h (told ∙ ap Some (sym done)) (chosen_answer set.configs.pairs set.delta k.stands b x.answer r ours (h.numbers both) (h.pixels both) differs),
      moves.1 ∙ ap (λ (a : State). (step a t e.call).state) h.records.fences,
    )

error_legal : (set : Setting) (x : Called) (e : Entry) (s : State) (k : KeptValue) (after : State) (o : LogOutcome) → ChoosesEntry set x e s k → x.answer.outcome ≡ o → (told_outcome (step s x.line.thread e.call).reply.outcome ≡ Some Done) ⊎ (told_outcome (step s x.line.thread e.call).reply.outcome ≡ Some o) → IsOfARow s x.line.thread e.call o → after ≡ refused_with s x.line.thread o → refusal_difference x.answer ≡ None → IsLegalStep e s x.line.thread after
error_legal set x e s k after o h is first row moves relates =
    let t = x.line.thread in
    elim (came s t e.call) [
      | inl c ↦ absurd (no_row o (errors_of (refusals s t e.call)) c.0 row)
      | inr r ↦ (let same = row_error r first in (
        same_reply set x e s k (step s t e.call).reply h (r.told ∙ ap Some same ∙ ap Some (sym is)) (subst (λ (q : ReplyValue). IsAnswered x.answer q) (sym r.alone) (refused_answer x.answer (step s t e.call).reply.outcome relates)),
        moves ∙ ap (refused_with s t) (sym same) ∙ sym r.state,
      ))
    ]
  where
    row_error : (r : IsRefusedBy (refusals s x.line.thread e.call) s x.line.thread (step s x.line.thread e.call)) → (told_outcome (step s x.line.thread e.call).reply.outcome ≡ Some Done) ⊎ (told_outcome (step s x.line.thread e.call).reply.outcome ≡ Some o) → r.error ≡ o
    row_error r (inl d) = absurd (no_row_is_done s x.line.thread e.call (subst (λ q. list_any (is_same q) (errors_of (refusals s x.line.thread e.call)) ≡ true) (same_some r.error Done Done (sym r.told ∙ d)) r.row))
    row_error r (inr f) = same_some r.error o o (sym r.told ∙ f)

done_legal : (set : Setting) (x : Called) (e : Entry) (s : State) (k : KeptValue) (after : State) → ChoosesEntry set x e s k → x.answer.outcome ≡ Done → is_some (told_outcome (step s x.line.thread e.call).reply.outcome) ≡ true → Moves s x.line.thread e.call x.answer Done after → Relates set s k x.line.thread e.call x.answer Done → IsLegalStep e s x.line.thread after
done_legal set x e s k after h is first moves relates = elim (came s x.line.thread e.call) [
  | inl c ↦ carried_legal set x e s k after h is (told_done (step s x.line.thread e.call).reply.outcome c.1 first) moves relates
  | inr r ↦ absurd (no_row r.error (errors_of (refusals s x.line.thread e.call)) moves.0 r.row)
]

legal_by : (set : Setting) (x : Called) (e : Entry) (s : State) (k : KeptValue) (after : State) (o : LogOutcome) → ChoosesEntry set x e s k → x.answer.outcome ≡ o → IsFirstRow o (told_outcome (step s x.line.thread e.call).reply.outcome) → Moves s x.line.thread e.call x.answer o after → Relates set s k x.line.thread e.call x.answer o → IsLegalStep e s x.line.thread after
legal_by set x e s k after Done h is first moves relates = done_legal set x e s k after h is first moves relates
legal_by set x e s k after (Egl y) h is first moves relates = error_legal set x e s k after (Egl y) h is first moves.0 moves.1 relates
legal_by set x e s k after (Gl y) h is first moves relates = error_legal set x e s k after (Gl y) h is first moves.0 moves.1 relates
legal_by set x e s k after (Unnamed z) h is first moves relates = error_legal set x e s k after (Unnamed z) h is first moves.0 moves.1 relates

played_found : (set : Setting) (x : Called) (s : State) (k : KeptValue) (c : CallValue) → IsJudgedAs set x s k c → judge_call set x s k ≡ played set x.line c x.answer s k
unfolding judge_call named
played_found set x s k c j =
    ap (λ (b : Bool). if b then found Agreed s (refused_behind x.line k) else unless_at_fault set x.line x.answer (fault_of k x.line) s k) j.asks
    ∙ ap (λ o. unless_at_fault set x.line x.answer o s k) j.faultless
    ∙ ap (λ o. with_call set x.line x.answer o s k) j.call
    ∙ ap (λ (b : Bool). if b then unjudged x.line x.answer.outcome (Unjudged Name) s k else played set x.line c x.answer s k) j.names

entry_legal : (set : Setting) (x : Called) (e : Entry) (s : State) (k : KeptValue) → ChoosesEntry set x e s k → IsFaultless k → Agrees (judge_call set x s k) → IsLegalStep e s x.line.thread (judge_call set x s k).after.state
entry_legal set x e s k h f agrees =
    let same = played_found set x s k e.call (judged_as set x e s k h.records f) in
    let moved = played_moves set x.line e.call x.answer s k (subst Agrees same agrees) in
    subst (λ (g : Found). IsLegalStep e s x.line.thread g.after.state) (sym same) (legal_by set x e s k (played set x.line e.call x.answer s k).after.state x.answer.outcome h refl h.error moved.0 moved.1)

line_legal : (set : Setting) (x : Called) (e : Entry) (s : State) (k : KeptValue) → ChoosesLine set x e s k → IsFaultless k → Agrees (judge_call set x s k) → e.reply ≡ (step s e.thread e.call).reply
line_legal set x e s k (inl h) f agrees = h.1
line_legal set x e s k (inr h) f agrees = subst (λ t. e.reply ≡ (step s t e.call).reply) (sym h.records.thread) (entry_legal set x e s k h f agrees).0

-- ---- All lines.
next_agrees : (set : Setting) (p : Progress) (item : Item) (items : List Item) → (fold (judge_next set) (judge_next set p item) items).tally.notes ≡ [] → is_agreement (judge_item set item p.beside.state p.beside.kept).verdict ≡ true
next_agrees set p item items h =
    no_note (number_of item) (judge_item set item p.beside.state p.beside.kept).verdict
    (back_second p.tally.notes (noted (number_of item) (judge_item set item p.beside.state p.beside.kept).verdict) (sym (notes_next set p item) ∙ no_notes_before set (judge_next set p item) items h))

-- what chooses as ours is recorded
chosen_line : (set : Setting) (x : Called) (e : Entry) (s : State) (k : KeptValue) → ChoosesLine set x e s k → RecordsLine set x e s k
chosen_line set x e s k (inl h) = inl h.0
chosen_line set x e s k (inr h) = inr h.records

all_legal : (set : Setting) (p : Progress) (items : List Item) (es : List Entry) → IsFaultless p.beside.kept → RecordsBy ChoosesLine set items es p.beside.state p.beside.kept → (fold (judge_next set) p items).tally.notes ≡ [] → IsLegalFrom p.beside.state es
unfolding judge_next judge_item
all_legal set p [] [] f h none = tt
all_legal set p [] (e ∷ es) f h none = absurd h
all_legal set p (Call x ∷ items) [] f h none = absurd h
all_legal set p (Call x ∷ items) (e ∷ es) f h none =
    let legal = line_legal set x e p.beside.state p.beside.kept h.0 f (next_agrees set p (Call x) items none) in
    let line = recorded_line set x e p.beside.state p.beside.kept (chosen_line set x e p.beside.state p.beside.kept h.0) f legal in (
      legal,
      subst (λ (a : State). IsLegalFrom a es) line.into.state (all_legal set (judge_next set p (Call x)) items es line.faultless h.1 none),
    )
all_legal set p (Front x ∷ items) es f h none = subst (λ (a : State). IsLegalFrom a es) (front_line set x p.beside.state p.beside.kept) (all_legal set (judge_next set p (Front x)) items es (front_faultless set x p.beside.state p.beside.kept f) h.1 none)

chosen_lines : (set : Setting) (items : List Item) (es : List Entry) (s : State) (k : KeptValue) → RecordsBy ChoosesLine set items es s k → RecordsBy RecordsLine set items es s k
chosen_lines set [] [] s k h = tt
chosen_lines set [] (e ∷ es) s k h = absurd h
chosen_lines set (Call x ∷ items) [] s k h = absurd h
chosen_lines set (Call x ∷ items) (e ∷ es) s k h = (chosen_line set x e s k h.0, chosen_lines set items es (judge_item set (Call x) s k).after.state (judge_item set (Call x) s k).after.kept h.1)
chosen_lines set (Front x ∷ items) es s k h = (h.0, chosen_lines set items es (judge_item set (Front x) s k).after.state (judge_item set (Front x) s k).after.kept h.1)

pub judged_as_checked : (l : LogValue) (delta : ℕ) (es : List Entry) → RecordsBy ChoosesLine (setting l delta) l.items es (opened l).state (opened l).kept → ((judgement l delta).notes ≡ []) ↔ IsLegalFrom (opening l.windows l.video) es
unfolding judgement judged
judged_as_checked l delta es h = (λ none. all_legal (setting l delta) (begun l) l.items es (opened_faultless l) h none, λ legal. (log_recorded l delta es legal (chosen_lines (setting l delta) l.items es (opened l).state (opened l).kept h)).0)
