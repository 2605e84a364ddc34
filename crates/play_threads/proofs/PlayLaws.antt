-- What the joined tokens say of a journal.
use Rattle.std.proofs.Common.{◌≡◌, ◌≢◌, ◌⊎◌, ℕ, zero, suc, ◌<◌, Bool, true, false, List, [], ◌∷◌, ◌++◌, refl, sym, ap, ◌∙◌, arith, subst, inl, inr, Result, Ok, Err}
use Rattle.std.proofs.lemmas.Bool.{eqb-true}
use Rattle.std.proofs.lemmas.Bool.Decides.{nat_tests}
use Rattle.std.proofs.lemmas.List.{append-nil}
use Rattle.std.proofs.lemmas.List.Elements.{All-cons, All-head, All-tail, All-weaker, Contains-append_cases}
use Rattle.std.specs.Prelude.{◌==◌, ◌&&◌, All, Contains, IfOk, IfErr, if◌then◌else◌, nat_le}
use Rattle.egl_calls.specs.declared.entries.Entry.{Entry}
use Rattle.trace_reader.specs.Traces.{TraceValue}
use Rattle.trace_reader.specs.Order.{IsTrace}
use Rattle.trace_model.specs.Serial.{serial, state_behind}
use Rattle.trace_model.specs.Stalled.{IsComplete, IsStalled, is_complete, is_stalled}
use Rattle.egl_model.specs.State.{State}
use Rattle.trace_model.specs.Follows.{Follows, IsPlayOf, PlaysAs}
use Rattle.trace_model.proofs.FollowsLaws.{all_follow, serial_plays}
use Rattle.trace_session.specs.Runs.{IsRun, IsStalledRun}
use Rattle.trace_session.specs.declared.runs.RunError.{RunError}
use Rattle.trace_session.specs.declared.runs.RunError.TheVariants.{Stalled, NoMemory}
use Rattle.driver_core.specs.declared.machine.Run.{Run}
use Rattle.shared_driver.specs.declared.tokens.Shared.{Shared}
use Rattle.shared_driver.specs.Tokens.{Includes, Learns, Owns, Token, token_of}
use Rattle.play_threads.specs.declared.plays.Reached.TheVariants.{End, Stall, Neither}
use Rattle.play_threads.specs.declared.workers.Worker.{Worker}
use Rattle.play_threads.specs.Picks.{has_stalled}
use Rattle.play_threads.specs.Plays.{IsReady, IsRunOf, IsStalledRunOf, IsThrough, OwnersPlay, reached_by}
use Rattle.play_threads.proofs.WorkLaws.{none_of, not_owned, plays_past, plays_without}

-- a worker that made no call is through
pub unbegun : (t : TraceValue) (s : Shared) (w : Worker) → IsReady t s w → IsThrough t s w
unbegun t s w h =
    let u : Token = token_of w.thread in
    record { owns = h.owns; number = h.number; plays = λ e. plays_without t u.number u.seen (none_of u.number u.seen u.tail h.mine); ended = h.ended; tail = h.tail }

-- ---- Tokens that learn and join.
pub same_owners : (u v : Token) → v.number ≡ u.number → v.ended ≡ u.ended → (n : ℕ) → Owns v n → Owns u n
same_owners u v number ended n (inl h) = inl (h ∙ number)
same_owners u v number ended n (inr h) = inr (let P : List ℕ → Type 0 = λ ns. Contains ns n in subst P ended h)

learns_owned : (t : TraceValue) (u v : Token) (n : ℕ) → Learns u v → Owns u n → PlaysAs t n u.seen → PlaysAs t n v.seen
learns_owned t u v n l own p =
    let P : List Entry → Type 0 = λ es. PlaysAs t n es in
    subst P (sym l.2) (plays_past t n u.seen l.0 (not_owned u n l.0 own l.1) p)

pub play_on : (t : TraceValue) (u v : Token) → v.number ≡ u.number → v.ended ≡ u.ended → Learns u v → OwnersPlay t u → OwnersPlay t v
play_on t u v number ended l o = record {
  below = λ n own. o.below n (same_owners u v number ended n own);
  plays = λ n own. let mine = same_owners u v number ended n own in learns_owned t u v n l mine (o.plays n mine);
  tail = l.3 ∙ o.tail;
}

module _ (t : TraceValue) (u v w : Token) (number : v.number ≡ u.number) (ended : v.ended ≡ u.ended ++ w.number ∷ w.ended) (alone : w.ended ≡ []) (empty : w.tail ≡ []) where
  owners : (n : ℕ) → Owns v n → Owns u n ⊎ (n ≡ w.number)
  owners n (inl h) = inl (inl (h ∙ number))
  owners n (inr h) =
      let P : List ℕ → Type 0 = λ ns. Contains ns n in
      by_cases (Contains-append_cases u.ended (w.number ∷ []) n (subst P (ended ∙ ap (λ ns. u.ended ++ w.number ∷ ns) alone) h))
    where
      by_cases : Contains u.ended n ⊎ Contains (w.number ∷ []) n → Owns u n ⊎ (n ≡ w.number)
      by_cases (inl c) = inl (inr c)
      by_cases (inr (zero, lt, h)) = inr (sym h)
      by_cases (inr (suc k, lt, h)) = absurd (omega (arith, lt))

  includes_plays : Includes w v.seen → PlaysAs t w.number w.seen → PlaysAs t w.number v.seen
  includes_plays (before, after, first, last, seen) p =
      let P : List Entry → Type 0 = λ es. PlaysAs t w.number es in
      let own : Owns w w.number = inl refl in
      let past : PlaysAs t w.number (w.seen ++ before) = plays_past t w.number w.seen before (not_owned w w.number before own first) p in
      let handed : PlaysAs t w.number ((w.seen ++ before) ++ w.tail) = subst P (sym (ap (λ es. (w.seen ++ before) ++ es) empty ∙ append-nil (w.seen ++ before))) past in
      subst P (sym seen) (plays_past t w.number ((w.seen ++ before) ++ w.tail) after (not_owned w w.number after own last) handed)

  by_owner : (n : ℕ) (P : ℕ → Type 0) → ((m : ℕ) → Owns u m → P m) → P w.number → Owns u n ⊎ (n ≡ w.number) → P n
  by_owner n P f p (inl o) = f n o
  by_owner n P f p (inr h) = subst P (sym h) p

  -- what was joined plays as well
  pub play_joined : w.number < t.threads → PlaysAs t w.number w.seen → Learns u v → Includes w v.seen → OwnersPlay t u → OwnersPlay t v
  play_joined below plays l i o = record {
    below = λ n own. by_owner n (λ m. m < t.threads) o.below below (owners n own);
    plays = λ n own. by_owner n (λ m. PlaysAs t m v.seen) (λ m mine. learns_owned t u v m l mine (o.plays m mine)) (includes_plays i plays) (owners n own);
    tail = l.3 ∙ o.tail;
  }

-- ---- A journal whose entries are all owned.
own_later : (u : Token) (n : ℕ) (e : Entry) (es : List Entry) → e.thread ≢ n → Owns u n ⊎ All (λ x. x.thread ≢ n) es → Owns u n ⊎ All (λ x. x.thread ≢ n) (e ∷ es)
own_later u n e es ne (inl o) = inl o
own_later u n e es ne (inr none) = inr (All-cons (λ (x : Entry). x.thread ≢ n) e es ne none)

own_here : (u : Token) (n : ℕ) (e : Entry) (es : List Entry) → Owns u e.thread → (Owns u n ⊎ All (λ x. x.thread ≢ n) es) → (b : Bool) → (e.thread == n) ≡ b → Owns u n ⊎ All (λ x. x.thread ≢ n) (e ∷ es)
own_here u n e es own rest true h = inl (subst (Owns u) (eqb-true e.thread n h) own)
own_here u n e es own rest false h = let ne : e.thread ≢ n = grind (arith, nat_tests, h) in own_later u n e es ne rest

found_or_none : (u : Token) (n : ℕ) (es : List Entry) → All (λ e. Owns u e.thread) es → Owns u n ⊎ All (λ e. e.thread ≢ n) es
found_or_none u n [] a = inr (λ i d lt. absurd (omega (arith, lt)))
found_or_none u n (e ∷ es) a =
    let Q : Entry → Type 0 = λ x. Owns u x.thread in
    own_here u n e es (All-head Q e es a) (found_or_none u n es (All-tail Q e es a)) (e.thread == n) refl

pub follows_owned : (t : TraceValue) (u : Token) (es : List Entry) → OwnersPlay t u → es ≡ u.seen ++ u.tail → All (λ e. Owns u e.thread) es → Follows t es
follows_owned t u es o is owned =
    all_follow t es (λ n lt. by_case n (found_or_none u n es owned)) (All-weaker (λ (e : Entry). Owns u e.thread) (λ (e : Entry). e.thread < t.threads) (λ e own. o.below e.thread own) es owned)
  where
    all : es ≡ u.seen
    all = is ∙ ap (λ xs. u.seen ++ xs) o.tail ∙ append-nil u.seen

    by_case : (n : ℕ) → Owns u n ⊎ All (λ e. e.thread ≢ n) es → PlaysAs t n es
    by_case n (inl own) = let P : List Entry → Type 0 = λ xs. PlaysAs t n xs in subst P (sym all) (o.plays n own)
    by_case n (inr none) = plays_without t n es none

-- ---- The run by turns.
pub serial_run : (t : TraceValue) → IsTrace t → (r : Run) → IsRun t r.journal.entries r.driver.state → IsRunOf t r
serial_run t is r h = record {
  plays = let P : List Entry → Type 0 = λ es. IsPlayOf t es in subst P (sym h.journal) (serial_plays t is);
  state = h.state;
}

pub serial_complete : (t : TraceValue) (es : List Entry) → es ≡ serial t → IsComplete t (serial t) → IsComplete t es
serial_complete t es h c = let P : List Entry → Type 0 = λ xs. IsComplete t xs in subst P (sym h) c

pub serial_stalled : (t : TraceValue) (es : List Entry) → es ≡ serial t → IsStalled t (serial t) → IsStalled t es
serial_stalled t es h c = let P : List Entry → Type 0 = λ xs. IsStalled t xs in subst P (sym h) c

-- a run stalled, by the state of its driver
pub stalled_at : (t : TraceValue) (es : List Entry) (s : State) → s ≡ state_behind t es → is_stalled t es s ≡ true → IsStalled t es
stalled_at t es s h c = ap (is_stalled t es) (sym h) ∙ c

pub serial_ok : (t : TraceValue) → IsTrace t → (x : Result Run RunError) → IfOk x (λ r. IsRun t r.journal.entries r.driver.state × IsComplete t (serial t)) → IfOk x (λ r. IsRunOf t r × IsComplete t r.journal.entries)
serial_ok t is (Ok r) h = (serial_run t is r h.0, serial_complete t r.journal.entries h.0.journal h.1)
serial_ok t is (Err e) h = tt

pub serial_err : (t : TraceValue) → IsTrace t → (x : Result Run RunError) → IfErr x (IsStalledRun t) → IfErr x (IsStalledRunOf t)
serial_err t is (Ok r) h = tt
serial_err t is (Err (Stalled r)) h = (serial_run t is r h.0, serial_stalled t r.journal.entries h.0.journal h.1)
serial_err t is (Err NoMemory) h = tt

-- ---- How far a run came.
end_by : (complete stalled : Bool) → End ≡ (if complete then End else (if stalled then Stall else Neither)) → complete ≡ true
end_by true stalled h = refl
end_by false true h = absurd (let f : End ≡ Stall = h in cc)
end_by false false h = absurd (let f : End ≡ Neither = h in cc)

stall_by : (complete stalled : Bool) → Stall ≡ (if complete then End else (if stalled then Stall else Neither)) → stalled ≡ true
stall_by true stalled h = absurd (let f : Stall ≡ End = h in cc)
stall_by false true h = refl
stall_by false false h = absurd (let f : Stall ≡ Neither = h in cc)

second : (a b : Bool) → (a && b) ≡ true → b ≡ true
second true b h = h
second false b h = absurd (let f : false ≡ true = h in cc)

pub end_reached : (t : TraceValue) (r : Run) → End ≡ reached_by t r → IsComplete t r.journal.entries
end_reached t r h = end_by (is_complete t r.journal.entries) (has_stalled t r.journal.entries r.driver) h

pub stall_reached : (t : TraceValue) (r : Run) → Stall ≡ reached_by t r → is_stalled t r.journal.entries r.driver.state ≡ true
stall_reached t r h = second (nat_le t.threads r.driver.made) (is_stalled t r.journal.entries r.driver.state) (stall_by (is_complete t r.journal.entries) (has_stalled t r.journal.entries r.driver) h)
