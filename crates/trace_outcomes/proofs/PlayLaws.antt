-- The histories are all journals that play the trace until no thread can go on.
use Rattle.std.proofs.Common.{◌≡◌, ◌≢◌, ◌⊎◌, ℕ, zero, suc, ◌≤◌, Bool, true, false, not, ◌&&◌, ◌||◌, List, [], ◌∷◌, ◌++◌, refl, sym, ap, ◌∙◌, subst, arith, append_assoc, inl, inr, None, Some}
use Rattle.std.proofs.lemmas.Bool.{eqb-true}
use Rattle.std.proofs.lemmas.Bool.Decides.{nat_tests}
use Rattle.std.proofs.lemmas.List.{append-nil}
use Rattle.std.specs.Prelude.{◌==◌, filter, find, cond, if◌then◌else◌}
use Rattle.std.specs.List.{list_all}
use Rattle.egl_calls.proofs.Truths.{and_first, and_second}
use Rattle.egl_calls.specs.Errors.{is_waiting}
use Rattle.egl_calls.specs.declared.entries.Entry.{Entry}
use Rattle.egl_model.specs.State.{State}
use Rattle.egl_model.specs.Step.{step}
use Rattle.egl_model.specs.History.{IsLegalFrom}
use Rattle.trace_reader.specs.declared.traces.Line.{Line}
use Rattle.trace_reader.specs.Order.{IsTrace}
use Rattle.trace_reader.specs.Traces.{TraceValue}
use Rattle.trace_model.specs.Follows.{IsNextOf, FollowsFrom}
use Rattle.trace_model.specs.Serial.{state_behind, next_thread, most_turns}
use Rattle.trace_model.specs.Stalled.{threads_of, is_at_rest, is_complete, is_stalled, IsComplete, IsStalled}
use Rattle.trace_model.specs.Turns.{next_line, last_entry, where_waiting, begun_wait, is_at_end, is_blocked, is_able}
use Rattle.trace_model.specs.TurnsLeft.{turns_left}
use Rattle.trace_model.proofs.EndLaws.{few_left, next_stays, unmoved}
use Rattle.trace_model.proofs.EntryLaws.{last_is, last_stays}
use Rattle.trace_model.proofs.FollowsLaws.{all_follow}
use Rattle.trace_model.proofs.OutcomeLaws.{over, no_entry}
use Rattle.trace_model.proofs.RestLaws.{able_is}
use Rattle.trace_model.proofs.SerialLaws.{state_more}
use Rattle.trace_model.proofs.TurnLaws.{turn_at}
use Rattle.trace_check.proofs.HoldsLaws.{Plays, no_plays, plays_more}
use Rattle.trace_check.proofs.RunLaws.{is_next}
use Rattle.trace_outcomes.specs.Histories.{able_threads, after, branches, histories_from, histories}
use Rattle.trace_outcomes.specs.Plays.{IsAmong, IsHistory}
use Rattle.trace_outcomes.proofs.AmongLaws.{given_by, among_each}
use Rattle.trace_outcomes.proofs.TurnLaws.{falls, after_by, plays_after, next_due, next_among}
use Rattle.trace_outcomes.proofs.HistoryLaws.{fewer, none_able, more_turns}

-- ---- No thread can go on.
found_none : (p : ℕ → Bool) (xs : List ℕ) → filter p xs ≡ [] → find p xs ≡ None
found_none p [] h = refl
found_none p (x ∷ xs) h = by_test (λ g. found_none p xs g) (p x) refl h
  where
    by_test : (filter p xs ≡ [] → find p xs ≡ None) → (b : Bool) → p x ≡ b → cond b (x ∷ filter p xs) (filter p xs) ≡ [] → find p (x ∷ xs) ≡ None
    by_test on true q g = absurd (let f : x ∷ filter p xs ≡ [] = g in cc)
    by_test on false q g = ap (λ (b : Bool). if b then Some x else find p xs) q ∙ on g

over_of : (t : TraceValue) (journal : List Entry) → able_threads t journal ≡ [] → IsComplete t journal ⊎ IsStalled t journal
unfolding able_threads next_thread
over_of t journal h = over t journal (no_entry t journal (found_none (is_able t.lines journal (state_behind t journal)) (threads_of t) h))

none_passing : (lines : List Line) (journal : List Entry) (s : State) (xs : List ℕ) → list_all (is_at_rest lines journal s) xs ≡ true → filter (is_able lines journal s) xs ≡ []
none_passing lines journal s [] h = refl
none_passing lines journal s (x ∷ xs) h =
    let here : is_at_rest lines journal s x ≡ true = and_first (is_at_rest lines journal s x) (list_all (is_at_rest lines journal s) xs) h in
    let rest : list_all (is_at_rest lines journal s) xs ≡ true = and_second (is_at_rest lines journal s x) (list_all (is_at_rest lines journal s) xs) h in
    let not_able : is_able lines journal s x ≡ false = able_is lines journal s x (is_at_rest lines journal s x) refl ∙ ap not here in
    ap (λ (b : Bool). cond b (x ∷ filter (is_able lines journal s) xs) (filter (is_able lines journal s) xs)) not_able
    ∙ none_passing lines journal s xs rest

ended_rests : (lines : List Line) (journal : List Entry) (s : State) (xs : List ℕ) → list_all (is_at_end lines journal) xs ≡ true → list_all (is_at_rest lines journal s) xs ≡ true
ended_rests lines journal s [] h = refl
ended_rests lines journal s (x ∷ xs) h =
    let here : is_at_end lines journal x ≡ true = and_first (is_at_end lines journal x) (list_all (is_at_end lines journal) xs) h in
    let rest : list_all (is_at_end lines journal) xs ≡ true = and_second (is_at_end lines journal x) (list_all (is_at_end lines journal) xs) h in
    ap (λ (b : Bool). (b || is_blocked lines journal s x) && list_all (is_at_rest lines journal s) xs) here
    ∙ ended_rests lines journal s xs rest

none_of_over : (t : TraceValue) (journal : List Entry) → IsComplete t journal ⊎ IsStalled t journal → able_threads t journal ≡ []
unfolding able_threads is_complete is_stalled
none_of_over t journal (inl c) = none_passing t.lines journal (state_behind t journal) (threads_of t) (ended_rests t.lines journal (state_behind t journal) (threads_of t) c)
none_of_over t journal (inr s) = none_passing t.lines journal (state_behind t journal) (threads_of t) (and_first (list_all (is_at_rest t.lines journal (state_behind t journal)) (threads_of t)) (not (list_all (is_at_end t.lines journal) (threads_of t))) s)

-- ---- Each of the histories is such a journal.
record Ends (t : TraceValue) (journal : List Entry) : Type 0 where
  plays : Plays t journal
  over : able_threads t journal ≡ []

one_is : (journal h : List Entry) → IsAmong h (journal ∷ []) → journal ≡ h
one_is journal h (inl e) = e
one_is journal h (inr g) = absurd g

module _ (t : TraceValue) (is : IsTrace t) where
  ends_by : (journal h : List Entry) (us : List ℕ) (more : ℕ → List (List Entry)) → able_threads t journal ≡ us → Plays t journal → IsAmong h (branches journal us more)
      → ((u : ℕ) → IsAmong u (able_threads t journal) → IsAmong h (more u) → Ends t h) → Ends t h
  ends_by journal h [] more q p g on = subst (Ends t) (one_is journal h g) (record { plays = p; over = q })
  ends_by journal h (u ∷ us) more q p g on =
      let i = given_by more h (u ∷ us) g in
      let P : List ℕ → Type 0 = λ ts. IsAmong i.item ts in
      on i.item (subst P (sym q) i.among) i.given

  no_more : (journal h : List Entry) → IsAmong h (histories_from zero t journal) → journal ≡ h
  unfolding histories_from
  no_more journal h g = one_is journal h g

  ends_from : (n : ℕ) (journal h : List Entry) → Plays t journal → turns_left t journal ≤ n → IsAmong h (histories_from n t journal) → Ends t h
  ends_from zero journal h p le g = subst (Ends t) (no_more journal h g) (record { plays = p; over = none_able t is journal p (omega (arith, le)) })
  ends_from (suc n) journal h p le g =
      let P : List (List Entry) → Type 0 = λ hs. IsAmong h hs in
      ends_by journal h (able_threads t journal) (λ u. histories_from n t (after t journal u)) refl p (subst P (more_turns t is n journal) g)
      (λ u among more. ends_from n (after t journal u) h (plays_after t is journal u p) (omega (arith, le, fewer t is journal u p among)) more)

  pub each_plays : (h : List Entry) → IsAmong h (histories t) → IsHistory t h
  each_plays h g =
      let e = ends_from (most_turns t) [] h (no_plays t) (few_left t []) g in
      record {
        play = record { legal = e.plays.legal; follows = all_follow t h (λ thread lt. e.plays.each thread) e.plays.below };
        over = over_of t h e.over;
      }

-- ---- Each such journal is one of the histories.
-- a thread in a wait isn't at its end
abbrev WaitsAtLine : TraceValue → List Entry → Type 0
WaitsAtLine t journal = (thread : ℕ) (b : Entry) → begun_wait journal thread ≡ Some b → (l : Line) × (next_line t.lines journal thread ≡ Some l)

waits_none : (t : TraceValue) → WaitsAtLine t []
unfolding last_entry
waits_none t thread b h = absurd (let f : None ≡ Some b = h in cc)

waits_more : (t : TraceValue) (journal : List Entry) (e : Entry) → IsNextOf t journal e → WaitsAtLine t journal → WaitsAtLine t (journal ++ e ∷ [])
waits_more t journal e i w thread b h = by_thread_is (e.thread == thread) refl
  where
    own : (waits : Bool) → is_waiting e.reply.outcome ≡ waits → begun_wait (journal ++ e ∷ []) e.thread ≡ Some b → (l : Line) × (next_line t.lines (journal ++ e ∷ []) e.thread ≡ Some l)
    own true q g =
        let turn = turn_at t journal e i in
        (turn.0, unmoved t journal e turn.0 turn.1 q e.thread ∙ turn.1.next)
    own false q g =
        let n : begun_wait (journal ++ e ∷ []) e.thread ≡ None = ap where_waiting (last_is journal e e.thread refl) ∙ ap (λ (y : Bool). if y then Some e else None) q in
        absurd (let f : None ≡ Some b = sym n ∙ g in cc)

    by_thread_is : (same : Bool) → (e.thread == thread) ≡ same → (l : Line) × (next_line t.lines (journal ++ e ∷ []) thread ≡ Some l)
    by_thread_is true q =
        let P : ℕ → Type 0 = λ u. begun_wait (journal ++ e ∷ []) u ≡ Some b → (l : Line) × (next_line t.lines (journal ++ e ∷ []) u ≡ Some l) in
        subst P (eqb-true e.thread thread q) (own (is_waiting e.reply.outcome) refl) h
    by_thread_is false q =
        let ne : e.thread ≢ thread = grind (arith, nat_tests, q) in
        let before = w thread b (sym (ap where_waiting (last_stays journal e thread ne)) ∙ h) in
        (before.0, next_stays t journal e thread ne ∙ before.1)

among_branch : (journal h : List Entry) (us : List ℕ) (more : ℕ → List (List Entry)) (u : ℕ) → IsAmong u us → IsAmong h (more u) → IsAmong h (branches journal us more)
among_branch journal h [] more u i g = absurd i
among_branch journal h (v ∷ vs) more u i g = among_each more h u (v ∷ vs) i g

module _ (t : TraceValue) (is : IsTrace t) where
  alone : (n : ℕ) (journal : List Entry) → able_threads t journal ≡ [] → histories_from n t journal ≡ journal ∷ []
  unfolding histories_from
  alone zero journal h = refl
  alone (suc n) journal h = ap (λ (us : List ℕ). branches journal us (λ u. histories_from n t (after t journal u))) h

  reaches : (es : List Entry) (n : ℕ) (journal : List Entry) → Plays t journal → WaitsAtLine t journal → turns_left t journal ≤ n → FollowsFrom t journal es → IsLegalFrom (state_behind t journal) es → able_threads t (journal ++ es) ≡ [] → IsAmong (journal ++ es) (histories_from n t journal)
  reaches [] n journal p w le f legal over =
      let same : journal ++ [] ≡ journal = append-nil journal in
      let P : List (List Entry) → Type 0 = λ hs. IsAmong (journal ++ []) hs in
      subst P (sym (alone n journal (ap (able_threads t) (sym same) ∙ over))) (inl (sym same))
  reaches (e ∷ es) zero journal p w le f legal over =
      let next : IsNextOf t journal e = is_next t journal e f.0 legal.0 p w f.1 in
      absurd (omega (arith, le, falls t journal e p next))
  reaches (e ∷ es) (suc n) journal p w le f legal over =
      let next : IsNextOf t journal e = is_next t journal e f.0 legal.0 p w f.1 in
      let longer = journal ++ e ∷ [] in
      let same : longer ++ es ≡ journal ++ e ∷ es = append_assoc journal (e ∷ []) es in
      let state : (step (state_behind t journal) e.thread e.call).state ≡ state_behind t longer = sym (state_more t journal e) in
      let there = reaches es n longer (plays_more t is journal e next p) (waits_more t journal e next w) (omega (arith, le, falls t journal e p next)) f.2 (subst (λ (x : State). IsLegalFrom x es) state legal.1) (ap (able_threads t) same ∙ over) in
      let at : after t journal e.thread ≡ longer = after_by t journal e.thread (Some e) (next_due t journal e next) in
      let P : List Entry → Type 0 = λ js. IsAmong (longer ++ es) (histories_from n t js) in
      let Q : List (List Entry) → Type 0 = λ hs. IsAmong (longer ++ es) hs in
      let R : List Entry → Type 0 = λ js. IsAmong js (histories_from (suc n) t journal) in
      let here : IsAmong (longer ++ es) (branches journal (able_threads t journal) (λ u. histories_from n t (after t journal u))) =
      among_branch journal (longer ++ es) (able_threads t journal) (λ u. histories_from n t (after t journal u)) e.thread (next_among t journal e next) (subst P (sym at) there) in
      subst R same (subst Q (sym (more_turns t is n journal)) here)

  pub each_is_among : (h : List Entry) → IsHistory t h → IsAmong h (histories t)
  each_is_among h i = reaches h (most_turns t) [] (no_plays t) (waits_none t) (few_left t []) i.play.follows i.play.legal (none_of_over t h i.over)
