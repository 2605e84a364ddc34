-- Histories one after another.
use Rattle.std.proofs.Common.{◌≡◌, ℕ, zero, suc, ◌+◌, ◌-◌, ◌<◌, Bool, true, false, ◌&&◌, List, [], ◌∷◌, ◌++◌, length, length-append, refl, sym, ap, ◌∙◌, subst, arith, append_assoc, inl, Option, None, Some}
use Rattle.std.proofs.lemmas.Bool.{lt-ltb}
use Rattle.std.proofs.lemmas.List.{append-nil}
use Rattle.std.specs.Prelude.{filter, find, if◌then◌else◌, cond, is_some, nat_lt}
use Rattle.std.specs.List.{flat_map, range_with_len}
use Rattle.std.specs.Option.{option_map}
use Rattle.egl_calls.specs.declared.entries.Entry.{Entry}
use Rattle.egl_model.specs.State.{State}
use Rattle.trace_reader.specs.Order.{IsTrace}
use Rattle.trace_reader.specs.Traces.{TraceValue}
use Rattle.trace_reader.specs.declared.traces.Line.{Line}
use Rattle.trace_model.specs.Serial.{state_behind, most_turns}
use Rattle.trace_model.specs.Turns.{next_line, is_able}
use Rattle.trace_model.proofs.OutcomeLaws.{able_has_line}
use Rattle.trace_session.specs.Answers.{number_due}
use Rattle.trace_check.proofs.HoldsLaws.{Plays, no_plays}
use Rattle.trace_outcomes.specs.Histories.{able_among, able_threads, after, branches, histories_behind, histories}
use Rattle.trace_outcomes.specs.Outcomes.{OutcomeValue, in_order, met, outcome_of, outcomes, with_all, with_outcome}
use Rattle.trace_outcomes.specs.Plays.{IsAmong}
use Rattle.trace_outcomes.specs.Schedules.{IsFirst, follow, histories_by, histories_by_all, left}
use Rattle.trace_outcomes.proofs.TurnLaws.{plays_after}
use Rattle.trace_outcomes.proofs.HistoryLaws.{histories_by as histories_branch, some_history}

-- ---- Schedules.
pub follow_more : (t : TraceValue) (journal : List Entry) (us : List ℕ) (u : ℕ) → follow t journal (us ++ u ∷ []) ≡ after t (follow t journal us) u
follow_more t journal [] u = refl
follow_more t journal (v ∷ vs) u = follow_more t (after t journal v) vs u

pub plays_follow : (t : TraceValue) → IsTrace t → (journal : List Entry) (us : List ℕ) → Plays t journal → Plays t (follow t journal us)
plays_follow t is journal [] p = p
plays_follow t is journal (u ∷ us) p = plays_follow t is (after t journal u) us (plays_after t is journal u p)

-- the last is the first to be gone on from
pub left_more : (t : TraceValue) (xs : List (List ℕ)) (x : List ℕ) → left t (xs ++ x ∷ []) ≡ histories_behind t (follow t [] x) ++ left t xs
left_more t [] x = sym (append-nil (histories_behind t (follow t [] x)))
left_more t (y ∷ ys) x =
    ap (λ (r : List (List Entry)). r ++ histories_behind t (follow t [] y)) (left_more t ys x)
    ∙ append_assoc (histories_behind t (follow t [] x)) (left t ys) (histories_behind t (follow t [] y))

-- ---- The threads behind a number.
range_next : (n end : ℕ) → n < end → range_with_len n (end - n) ≡ n ∷ range_with_len (n + 1) (end - (n + 1))
range_next n end h = let e : end - n ≡ suc (end - (n + 1)) = omega (arith, h) in ap (range_with_len n) e

-- one that passes is the first of those that do
pub passing_first : (p : ℕ → Bool) (n end : ℕ) → n < end → p n ≡ true → filter p (range_with_len n (end - n)) ≡ n ∷ filter p (range_with_len (n + 1) (end - (n + 1)))
passing_first p n end h q = ap (filter p) (range_next n end h) ∙ ap (λ (b : Bool). cond b (n ∷ filter p (range_with_len (n + 1) (end - (n + 1)))) (filter p (range_with_len (n + 1) (end - (n + 1))))) q

-- and one that doesn't is none of them
pub passing_later : (p : ℕ → Bool) (n end : ℕ) → n < end → p n ≡ false → filter p (range_with_len n (end - n)) ≡ filter p (range_with_len (n + 1) (end - (n + 1)))
passing_later p n end h q = ap (filter p) (range_next n end h) ∙ ap (λ (b : Bool). cond b (n ∷ filter p (range_with_len (n + 1) (end - (n + 1)))) (filter p (range_with_len (n + 1) (end - (n + 1))))) q

-- what is found first is the first of those that pass
passing_found : (p : ℕ → Bool) (from count u : ℕ) → find p (range_with_len from count) ≡ Some u → filter p (range_with_len from count) ≡ u ∷ filter p (range_with_len (u + 1) (from + count - (u + 1)))
passing_found p from zero u h = absurd (let f : None ≡ Some u = h in cc)
passing_found p from (suc count) u h = by_test (λ g. passing_found p (from + 1) count u g) (p from) refl h
  where
    here : from ≡ u → p from ≡ true → filter p (range_with_len from (suc count)) ≡ u ∷ filter p (range_with_len (u + 1) (from + suc count - (u + 1)))
    here e q =
        let P : ℕ → Type 0 = λ v. filter p (range_with_len from (suc count)) ≡ v ∷ filter p (range_with_len (v + 1) (from + suc count - (v + 1))) in
        let n : from + suc count - (from + 1) ≡ count = omega arith in
        subst P e (
        ap (λ (b : Bool). cond b (from ∷ filter p (range_with_len (from + 1) count)) (filter p (range_with_len (from + 1) count))) q
        ∙ ap (λ (k : ℕ). from ∷ filter p (range_with_len (from + 1) k)) (sym n)
        )

    by_test : (find p (range_with_len (from + 1) count) ≡ Some u → filter p (range_with_len (from + 1) count) ≡ u ∷ filter p (range_with_len (u + 1) (from + 1 + count - (u + 1)))) → (b : Bool) → p from ≡ b → (if b then Some from else find p (range_with_len (from + 1) count)) ≡ Some u → filter p (range_with_len from (suc count)) ≡ u ∷ filter p (range_with_len (u + 1) (from + suc count - (u + 1)))
    by_test on true q g = here (let e : from ≡ u = cc in e) q
    by_test on false q g =
        let n : from + 1 + count - (u + 1) ≡ from + suc count - (u + 1) = omega arith in
        ap (λ (b : Bool). cond b (from ∷ filter p (range_with_len (from + 1) count)) (filter p (range_with_len (from + 1) count))) q
        ∙ on g
        ∙ ap (λ (k : ℕ). u ∷ filter p (range_with_len (u + 1) k)) n

passing_none : (p : ℕ → Bool) (xs : List ℕ) → find p xs ≡ None → filter p xs ≡ []
passing_none p [] h = refl
passing_none p (x ∷ xs) h = by_test (λ g. passing_none p xs g) (p x) refl h
  where
    by_test : (find p xs ≡ None → filter p xs ≡ []) → (b : Bool) → p x ≡ b → (if b then Some x else find p xs) ≡ None → filter p (x ∷ xs) ≡ []
    by_test on true q g = absurd (let f : Some x ≡ None = g in cc)
    by_test on false q g = ap (λ (b : Bool). cond b (x ∷ filter p xs) (filter p xs)) q ∙ on g

-- ---- The first of the threads that can go on, and the others.
module _ (t : TraceValue) (is : IsTrace t) (journal : List Entry) (s : State) (same : s ≡ state_behind t journal) (p : Plays t journal) (found : Option ℕ) (is_found : found ≡ find (is_able t.lines journal s) (range_with_len 0 t.threads)) where
  found_is : find (is_able t.lines journal (state_behind t journal)) (range_with_len 0 t.threads) ≡ found
  found_is = ap (λ (x : State). find (is_able t.lines journal x) (range_with_len 0 t.threads)) (sym same) ∙ sym is_found

  -- where there is none, the journal is its only history
  pub over_is : found ≡ None → histories_behind t journal ≡ journal ∷ []
  unfolding able_threads
  over_is n =
      histories_branch t is journal p
      ∙ ap (λ (us : List ℕ). branches journal us (λ u. histories_behind t (after t journal u))) (passing_none (is_able t.lines journal (state_behind t journal)) (range_with_len 0 t.threads) (found_is ∙ n))

  -- and else its histories are those behind the first, and those behind the others
  pub goes_is : (u : ℕ) → found ≡ Some u → histories_behind t journal ≡ histories_behind t (after t journal u) ++ histories_by_all t journal (u + 1)
  unfolding able_threads
  goes_is u f =
      let z : 0 + t.threads - (u + 1) ≡ t.threads - (u + 1) = omega arith in
      histories_branch t is journal p
      ∙ ap (λ (us : List ℕ). branches journal us (λ v. histories_behind t (after t journal v))) (passing_found (is_able t.lines journal (state_behind t journal)) 0 t.threads u (found_is ∙ f))
      ∙ ap (λ (k : ℕ). histories_behind t (after t journal u) ++ flat_map (λ v. histories_behind t (after t journal v)) (able_among t journal (range_with_len (u + 1) k))) z

  -- one turn more, and the others are kept
  pub one_on : (u : ℕ) → found ≡ Some u → (journal' : List Entry) → journal' ≡ after t journal u → (old new : List (List ℕ)) → left t new ≡ histories_by_all t journal (u + 1) ++ left t old → histories_behind t journal' ++ left t new ≡ histories_behind t journal ++ left t old
  one_on u f journal' j old new l =
      ap (λ (js : List Entry). histories_behind t js ++ left t new) j
      ∙ ap (λ (r : List (List Entry)). histories_behind t (after t journal u) ++ r) l
      ∙ sym (append_assoc (histories_behind t (after t journal u)) (histories_by_all t journal (u + 1)) (left t old))
      ∙ ap (λ (r : List (List Entry)). r ++ left t old) (sym (goes_is u f))

  -- no turn more
  pub all_over : found ≡ None → (old : List (List ℕ)) → journal ∷ left t old ≡ histories_behind t journal ++ left t old
  all_over n old = ap (λ (r : List (List Entry)). r ++ left t old) (sym (over_is n))

  pub after_found : (u : ℕ) → found ≡ Some u → IsAmong u (able_threads t journal)
  unfolding able_threads
  after_found u f =
      let P : List ℕ → Type 0 = λ us. IsAmong u us in
      subst P (sym (passing_found (is_able t.lines journal (state_behind t journal)) 0 t.threads u (found_is ∙ f))) (inl refl)

-- ---- The others, from the highest down.
pub by_none : (t : TraceValue) (journal : List Entry) (n : ℕ) (rest : List (List Entry)) → n ≡ t.threads → rest ≡ histories_by_all t journal n ++ rest
by_none t journal n rest h =
    let z : t.threads - n ≡ 0 = omega (arith, h) in
    sym (ap (λ (k : ℕ). flat_map (λ u. histories_behind t (after t journal u)) (able_among t journal (range_with_len n k)) ++ rest) z)

by_able : (t : TraceValue) (journal : List Entry) (n : ℕ) (b : Bool) → n < t.threads → is_able t.lines journal (state_behind t journal) n ≡ b → (if b then histories_behind t (after t journal n) else []) ++ histories_by_all t journal (n + 1) ≡ histories_by_all t journal n
by_able t journal n true lt q = sym (ap (flat_map (λ u. histories_behind t (after t journal u))) (passing_first (is_able t.lines journal (state_behind t journal)) n t.threads lt q))
by_able t journal n false lt q = sym (ap (flat_map (λ u. histories_behind t (after t journal u))) (passing_later (is_able t.lines journal (state_behind t journal)) n t.threads lt q))

pub by_more : (t : TraceValue) (journal : List Entry) (n m : ℕ) (old rest new : List (List Entry)) → n < t.threads → n + 1 ≡ m → rest ≡ histories_by_all t journal m ++ old → new ≡ histories_by t journal n ++ rest → new ≡ histories_by_all t journal n ++ old
by_more t journal n m old rest new lt same r q =
    let more : rest ≡ histories_by_all t journal (n + 1) ++ old = r ∙ ap (λ (k : ℕ). histories_by_all t journal k ++ old) (sym same) in
    q
    ∙ ap (λ (x : List (List Entry)). histories_by t journal n ++ x) more
    ∙ sym (append_assoc (histories_by t journal n) (histories_by_all t journal (n + 1)) old)
    ∙ ap (λ (x : List (List Entry)). x ++ old) (by_able t journal n (is_able t.lines journal (state_behind t journal) n) lt refl)

-- ---- Whether a thread has a schedule of its own.
able_number : (t : TraceValue) (journal : List Entry) (u : ℕ) (s : State) → u < t.threads → s ≡ state_behind t journal → is_some (number_due t journal s u) ≡ is_able t.lines journal (state_behind t journal) u
able_number t journal u s lt same =
    let b : nat_lt u t.threads ≡ true = lt-ltb u t.threads lt in
    ap (λ (x : State). is_some (number_due t journal x u)) same
    ∙ ap (λ (x : Bool). is_some (if x && is_able t.lines journal (state_behind t journal) u then option_map (λ l. l.number) (next_line t.lines journal u) else None)) b
    ∙ by_test (is_able t.lines journal (state_behind t journal) u) refl
  where
    has_number : (o : Option Line) → is_some o ≡ true → is_some (option_map (λ (l : Line). l.number) o) ≡ true
    has_number None h = h
    has_number (Some l) h = refl

    by_test : (c : Bool) → is_able t.lines journal (state_behind t journal) u ≡ c → is_some (if c then option_map (λ (l : Line). l.number) (next_line t.lines journal u) else None) ≡ c
    by_test true q = has_number (next_line t.lines journal u) (able_has_line t.lines journal (state_behind t journal) u q)
    by_test false q = refl

-- it can't go on
pub not_kept : (t : TraceValue) (journal : List Entry) (u : ℕ) (s : State) (due : Option ℕ) (rest : List (List Entry)) → u < t.threads → s ≡ state_behind t journal → due ≡ number_due t journal s u → is_some due ≡ false → rest ≡ histories_by t journal u ++ rest
not_kept t journal u s due rest lt same d n =
    let q : is_able t.lines journal (state_behind t journal) u ≡ false = sym (able_number t journal u s lt same) ∙ ap is_some (sym d) ∙ n in
    sym (ap (λ (b : Bool). (if b then histories_behind t (after t journal u) else []) ++ rest) q)

-- it can
pub kept : (t : TraceValue) (journal : List Entry) (u : ℕ) (s : State) (due : Option ℕ) (old new : List (List ℕ)) (schedule : List ℕ) → u < t.threads → s ≡ state_behind t journal → due ≡ number_due t journal s u → is_some due ≡ true
    → journal ≡ follow t [] schedule → new ≡ old ++ (schedule ++ u ∷ []) ∷ [] → left t new ≡ histories_by t journal u ++ left t old
kept t journal u s due old new schedule lt same d n at is =
    let q : is_able t.lines journal (state_behind t journal) u ≡ true = sym (able_number t journal u s lt same) ∙ ap is_some (sym d) ∙ n in
    ap (left t) is
    ∙ left_more t old (schedule ++ u ∷ [])
    ∙ ap (λ (js : List Entry). histories_behind t js ++ left t old) (follow_more t [] schedule u ∙ ap (λ (js : List Entry). after t js u) (sym at))
    ∙ sym (ap (λ (b : Bool). (if b then histories_behind t (after t journal u) else []) ++ left t old) q)

-- ---- The whole search.
-- one history more
pub more_listed : (t : TraceValue) (found : List OutcomeValue) (o : OutcomeValue) (xs : List (List ℕ)) (x : List ℕ) (pending new : List (List ℕ)) → pending ≡ xs ++ x ∷ [] → IsFirst t (histories_behind t (follow t [] x) ++ left t xs) o (left t new) → with_all t (with_outcome found o) (left t new) ≡ with_all t found (left t pending)
more_listed t found o xs x pending new is f =
    ap (λ (p : OutcomeValue). with_all t (with_outcome found p) (left t new)) f.outcome
    ∙ ap (with_all t found) (f.first ∙ sym (ap (left t) is ∙ left_more t xs x))

pub one_fewer : (t : TraceValue) (o : OutcomeValue) (xs : List (List ℕ)) (x : List ℕ) (pending new : List (List ℕ)) → pending ≡ xs ++ x ∷ [] → IsFirst t (histories_behind t (follow t [] x) ++ left t xs) o (left t new) → length (left t new) + 1 ≡ length (left t pending)
one_fewer t o xs x pending new is f =
    let e : length (f.journal ∷ left t new) ≡ length (left t pending) = ap length (f.first ∙ sym (ap (left t) is ∙ left_more t xs x)) in
    omega (arith, e)

pub some_left : (t : TraceValue) (xs : List (List ℕ)) (x : List ℕ) (pending : List (List ℕ)) → pending ≡ xs ++ x ∷ [] → 0 < length (left t pending)
some_left t xs x pending is =
    let e : length (left t pending) ≡ length (histories_behind t (follow t [] x) ++ left t xs) = ap length (ap (left t) is ∙ left_more t xs x) in
    omega (arith, e, length-append (histories_behind t (follow t [] x)) (left t xs), some_history (most_turns t) t (follow t [] x))

-- at first one schedule is left, without a turn
pub begins : (t : TraceValue) (none pending : List (List ℕ)) (schedule : List ℕ) → none ≡ [] → schedule ≡ [] → pending ≡ none ++ schedule ∷ [] → left t pending ≡ histories t
begins t none pending schedule n e is =
    ap (left t) is
    ∙ ap (λ (xs : List (List ℕ)). left t (xs ++ schedule ∷ [])) n
    ∙ ap (λ (x : List ℕ). histories_behind t (follow t [] x)) e

pub begins_listed : (t : TraceValue) (found : List OutcomeValue) (pending : List (List ℕ)) → found ≡ [] → left t pending ≡ histories t → with_all t found (left t pending) ≡ met t
unfolding met
begins_listed t found pending f h = ap (λ (os : List OutcomeValue). with_all t os (left t pending)) f ∙ ap (with_all t []) h

-- at last none is
no_items : (xs : List (List ℕ)) → length xs ≡ 0 → xs ≡ []
no_items [] h = refl
no_items (x ∷ xs) h = absurd (omega (arith, h))

pub ends_listed : (t : TraceValue) (found : List OutcomeValue) (pending : List (List ℕ)) → length pending ≡ 0 → with_all t found (left t pending) ≡ met t → found ≡ met t
ends_listed t found pending z h = sym (ap (λ (xs : List (List ℕ)). with_all t found (left t xs)) (no_items pending z)) ∙ h

-- and those that were met are put in their order
pub ordered : (t : TraceValue) (found all : List OutcomeValue) → found ≡ met t → all ≡ in_order found → all ≡ outcomes t
unfolding outcomes
ordered t found all f o = o ∙ ap in_order f

pub ends_count : (t : TraceValue) (n m : ℕ) (pending : List (List ℕ)) → length pending ≡ 0 → n + length (left t pending) ≡ m → n ≡ m
ends_count t n m pending z h =
    let none : length (left t pending) ≡ 0 = ap (λ (xs : List (List ℕ)). length (left t xs)) (no_items pending z) in
    omega (arith, h, none)

-- ---- One history.
module _ (t t1 t2 : TraceValue) (e1 : t1 ≡ t) (e2 : t2 ≡ t1) (j0 j1 : List Entry) (schedule : List ℕ) (none : j0 ≡ []) (j : j1 ≡ follow t1 j0 schedule) where
  same_trace : t2 ≡ t
  same_trace = e2 ∙ e1

  at_first : j1 ≡ follow t [] schedule
  at_first = j ∙ ap (λ (x : TraceValue). follow x j0 schedule) e1 ∙ ap (λ (js : List Entry). follow t js schedule) none

  pub at_schedule : j1 ≡ follow t2 [] schedule
  at_schedule = at_first ∙ ap (λ (x : TraceValue). follow x [] schedule) (sym same_trace)

  pub is_trace_at : IsTrace t → IsTrace t2
  is_trace_at is = subst IsTrace (sym same_trace) is

  pub plays_at : IsTrace t → Plays t2 j1
  plays_at is =
      let P : TraceValue → Type 0 = λ x. Plays x j1 in
      let here : Plays t j1 = subst (Plays t) (sym at_first) (plays_follow t is [] schedule (no_plays t)) in
      subst P (sym same_trace) here

  pub first_at : (j2 : List Entry) (old new : List (List ℕ)) (o : OutcomeValue) → j2 ∷ left t2 new ≡ histories_behind t2 j1 ++ left t2 old → o ≡ outcome_of t j2 → IsFirst t (histories_behind t (follow t [] schedule) ++ left t old) o (left t new)
  first_at j2 old new o h q = record {
    journal = j2;
    first =
        ap (λ (x : TraceValue). j2 ∷ left x new) (sym same_trace)
        ∙ h
        ∙ ap (λ (x : TraceValue). histories_behind x j1 ++ left x old) same_trace
        ∙ ap (λ (js : List Entry). histories_behind t js ++ left t old) at_first;
    outcome = q;
  }
