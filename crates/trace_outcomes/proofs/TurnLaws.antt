-- The turn of a thread that can go on.
use Rattle.std.proofs.Common.{◌≡◌, ℕ, zero, suc, ◌<◌, ◌≤◌, Bool, true, false, not, ◌&&◌, List, [], ◌∷◌, ◌++◌, refl, sym, ap, ◌∙◌, subst, arith, Option, None, Some}
use Rattle.std.proofs.lemmas.Bool.{lt-ltb}
use Rattle.std.proofs.lemmas.List.Sums.{sum_by-cons}
use Rattle.std.specs.Prelude.{if◌then◌else◌, is_none, is_some, nat_lt, slice_get, sum_by}
use Rattle.egl_calls.specs.declared.entries.Entry.{Entry}
use Rattle.egl_model.specs.State.{State}
use Rattle.trace_reader.specs.declared.traces.Line.{Line}
use Rattle.trace_reader.specs.Order.{IsTrace}
use Rattle.trace_reader.specs.Traces.{TraceValue}
use Rattle.trace_model.specs.Follows.{IsNextOf}
use Rattle.trace_model.specs.Serial.{state_behind, next_call, entry_of, turn_of}
use Rattle.trace_model.specs.Stalled.{threads_of}
use Rattle.trace_model.specs.Turns.{next_line, is_held, is_blocked, is_able}
use Rattle.trace_model.specs.TurnsLeft.{turns_left_of, turns_left, WaitsAtNext}
use Rattle.trace_model.proofs.EndLaws.{none_rises, line_falls}
use Rattle.trace_model.proofs.OutcomeLaws.{able_has_line}
use Rattle.trace_model.proofs.TurnLaws.{turn_at}
use Rattle.trace_session.specs.Runs.{with_entry}
use Rattle.trace_check.specs.Verdicts.{entry_due}
use Rattle.trace_check.proofs.HoldsLaws.{Plays, plays_more, due_is}
use Rattle.trace_outcomes.specs.Histories.{able_threads, after}
use Rattle.trace_outcomes.specs.Plays.{IsAmong}
use Rattle.trace_outcomes.proofs.AmongLaws.{among_passing, passing_among, among_range, range_among}

-- ---- Fewer turns are left behind it.
sum_le : (f g : Line → ℕ) → ((x : Line) → f x ≤ g x) → (xs : List Line) → sum_by f xs ≤ sum_by g xs
sum_le f g le [] = omega arith
sum_le f g le (y ∷ ys) = omega (arith, le y, sum_le f g le ys, sum_by-cons f y ys, sum_by-cons g y ys)

sum_falls : (f g : Line → ℕ) (xs : List Line) (k : ℕ) (l : Line) → ((x : Line) → f x ≤ g x) → slice_get xs k ≡ Some l → f l < g l → sum_by f xs < sum_by g xs
sum_falls f g [] k l le h lt = absurd (let q : None ≡ Some l = h in cc)
sum_falls f g (x ∷ xs) zero l le h lt =
    let same : x ≡ l = cc in
    let P : Line → Type 0 = λ y. f y < g y in
    let first : f x < g x = subst P (sym same) lt in
    omega (arith, first, sum_le f g le xs, sum_by-cons f x xs, sum_by-cons g x xs)
sum_falls f g (x ∷ xs) (suc k) l le h lt = omega (arith, le x, sum_falls f g xs k l le h lt, sum_by-cons f x xs, sum_by-cons g x xs)

waits_of : (t : TraceValue) (journal : List Entry) → Plays t journal → WaitsAtNext t journal
waits_of t journal p = record { mark = λ thread b l h n. (p.each thread).waits b l h n }

pub falls : (t : TraceValue) (journal : List Entry) (e : Entry) → Plays t journal → IsNextOf t journal e → turns_left t (journal ++ e ∷ []) < turns_left t journal
unfolding turns_left
falls t journal e p i =
    let r = turn_at t journal e i in
    let w = waits_of t journal p in
    sum_falls (λ m. turns_left_of (journal ++ e ∷ []) m.thread m.number) (λ m. turns_left_of journal m.thread m.number) t.lines r.1.place r.0
    (none_rises t journal e r.0 r.1 w) r.1.at (line_falls t journal e r.0 r.1 w)

-- ---- A journal behind it.
pub after_by : (t : TraceValue) (journal : List Entry) (u : ℕ) (o : Option Entry) → entry_due t journal u ≡ o → after t journal u ≡ with_entry journal o
unfolding after
after_by t journal u o h = ap (with_entry journal) h

plays_by : (t : TraceValue) → IsTrace t → (journal : List Entry) (u : ℕ) (o : Option Entry) → entry_due t journal u ≡ o → Plays t journal → Plays t (with_entry journal o)
plays_by t is journal u None h p = p
plays_by t is journal u (Some e) h p = plays_more t is journal e (due_is t journal u e h).0 p

pub plays_after : (t : TraceValue) → IsTrace t → (journal : List Entry) (u : ℕ) → Plays t journal → Plays t (after t journal u)
plays_after t is journal u p = subst (Plays t) (sym (after_by t journal u (entry_due t journal u) refl)) (plays_by t is journal u (entry_due t journal u) refl p)

-- ---- Threads that can go on.
pub record Goes (t : TraceValue) (journal : List Entry) (u : ℕ) : Type 0 where
  pub entry : Entry
  pub due : entry_due t journal u ≡ Some entry
  pub next : IsNextOf t journal entry

module _ (t : TraceValue) (journal : List Entry) where
  abbrev pub s : State
  s = state_behind t journal

  able_by : (u : ℕ) (o : Option Line) → next_line t.lines journal u ≡ o → is_some o ≡ true → (nat_lt u t.threads && is_able t.lines journal s u) ≡ true
      → (e : Entry) × ((if nat_lt u t.threads && is_able t.lines journal s u then turn_of t journal u (next_line t.lines journal u) else None) ≡ Some e)
  able_by u None n h able = absurd (let f : false ≡ true = h in cc)
  able_by u (Some l) n h able = (
    entry_of s u l (next_call t.lines journal u l),
    ap (λ (b : Bool). if b then turn_of t journal u (next_line t.lines journal u) else None) able ∙ ap (turn_of t journal u) n,
  )

  able_due : (u : ℕ) → u < t.threads → is_able t.lines journal s u ≡ true → (e : Entry) × (entry_due t journal u ≡ Some e)
  unfolding entry_due
  able_due u lt able =
      able_by u (next_line t.lines journal u) refl (able_has_line t.lines journal s u able)
      (ap (λ (x : Bool). x && is_able t.lines journal s u) (lt-ltb u t.threads lt) ∙ able)

  -- each of them has an entry
  pub goes_of : (u : ℕ) → IsAmong u (able_threads t journal) → Goes t journal u
  unfolding able_threads
  goes_of u h =
      let i = among_passing (is_able t.lines journal s) u (threads_of t) h in
      let d = able_due u (omega (arith, among_range u 0 t.threads i.among)) i.passes in
      record { entry = d.0; due = d.1; next = (due_is t journal u d.0 d.1).0 }

  -- and each that goes on is one of them
  module _ (e : Entry) (i : IsNextOf t journal e) where
    free : is_blocked t.lines journal s e.thread ≡ false
    free = ap (is_held t.lines journal s e.thread) i.next ∙ ap not i.goes

    able : is_able t.lines journal s e.thread ≡ true
    able = ap (λ (o : Option Line). not (is_none o) && not (is_blocked t.lines journal s e.thread)) i.next ∙ ap not free

    pub next_due : entry_due t journal e.thread ≡ Some e
    unfolding entry_due
    next_due =
        let both : (nat_lt e.thread t.threads && is_able t.lines journal s e.thread) ≡ true = ap (λ (x : Bool). x && is_able t.lines journal s e.thread) (lt-ltb e.thread t.threads i.below) ∙ able in
        ap (λ (x : Bool). if x then turn_of t journal e.thread (next_line t.lines journal e.thread) else None) both
        ∙ ap (turn_of t journal e.thread) i.next
        ∙ ap (λ (x : Entry). Some x) (sym i.is)

    pub next_among : IsAmong e.thread (able_threads t journal)
    unfolding able_threads
    next_among = passing_among (is_able t.lines journal s) e.thread (threads_of t) able (range_among e.thread 0 t.threads (omega arith) (omega (arith, i.below)))
