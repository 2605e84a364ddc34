-- No two of the histories are the same journal.
use Rattle.std.proofs.Common.{◌≡◌, ◌⊎◌, ℕ, zero, suc, ◌+◌, ◌≤◌, Bool, true, false, List, [], ◌∷◌, ◌++◌, refl, sym, ap, ◌∙◌, subst, arith, append_assoc, inl, inr}
use Rattle.std.proofs.lemmas.List.{append-nil}
use Rattle.std.specs.Prelude.{filter, cond}
use Rattle.std.specs.List.{flat_map, range_with_len}
use Rattle.egl_calls.specs.declared.entries.Entry.{Entry}
use Rattle.trace_reader.specs.Traces.{TraceValue}
use Rattle.trace_model.specs.Serial.{state_behind, most_turns}
use Rattle.trace_model.specs.Stalled.{threads_of}
use Rattle.trace_model.specs.Turns.{is_able}
use Rattle.trace_check.proofs.HoldsLaws.{due_is}
use Rattle.trace_outcomes.specs.Histories.{able_threads, after, branches, histories_from, histories}
use Rattle.trace_outcomes.specs.Plays.{IsAmong, AreDistinct}
use Rattle.trace_outcomes.proofs.AmongLaws.{among_either, among_passing, given_by}
use Rattle.trace_outcomes.proofs.TurnLaws.{after_by, goes_of}

-- ---- Lists without an item that stands twice.
distinct_both : {A : Type 0} (xs ys : List A) → AreDistinct xs → AreDistinct ys → ((x : A) → IsAmong x xs → IsAmong x ys → ⊥) → AreDistinct (xs ++ ys)
distinct_both [] ys d e apart = e
distinct_both {A} (x ∷ xs) ys d e apart = (λ h. later (among_either x xs ys h), distinct_both xs ys d.1 e (λ y i j. apart y (inr i) j))
  where
    later : IsAmong x xs ⊎ IsAmong x ys → ⊥
    later (inl i) = d.0 i
    later (inr j) = apart x (inl refl) j

distinct_passing : {A : Type 0} (p : A → Bool) (xs : List A) → AreDistinct xs → AreDistinct (filter p xs)
distinct_passing p [] d = tt
distinct_passing {A} p (x ∷ xs) d = by_test (p x) (distinct_passing p xs d.1)
  where
    by_test : (b : Bool) → AreDistinct (filter p xs) → AreDistinct (cond b (x ∷ filter p xs) (filter p xs))
    by_test true rest = (λ h. d.0 (among_passing p x xs h).among, rest)
    by_test false rest = rest

from_first : (u from count : ℕ) → IsAmong u (range_with_len from count) → from ≤ u
from_first u from zero h = absurd h
from_first u from (suc count) (inl e) = omega (arith, e)
from_first u from (suc count) (inr h) = omega (arith, from_first u (from + 1) count h)

distinct_range : (from count : ℕ) → AreDistinct (range_with_len from count)
distinct_range from zero = tt
distinct_range from (suc count) = (λ h. omega (arith, from_first from (from + 1) count h), distinct_range (from + 1) count)

-- items that give lists of which no two have an item in common
distinct_given : {A B : Type 0} (f : A → List B) (us : List A) → AreDistinct us → ((u : A) → IsAmong u us → AreDistinct (f u))
    → ((u v : A) (x : B) → IsAmong u us → IsAmong v us → IsAmong x (f u) → IsAmong x (f v) → u ≡ v) → AreDistinct (flat_map f us)
distinct_given f [] d each apart = tt
distinct_given {A} {B} f (u ∷ us) d each apart =
    distinct_both (f u) (flat_map f us) (each u (inl refl))
    (distinct_given f us d.1 (λ v i. each v (inr i)) (λ v w x i j. apart v w x (inr i) (inr j)))
    in_none
  where
    in_none : (x : B) → IsAmong x (f u) → IsAmong x (flat_map f us) → ⊥
    in_none x h g =
        let i = given_by f x us g in
        let P : A → Type 0 = λ v. IsAmong v us in
        d.0 (subst P (sym (apart u i.item x (inl refl) (inr i.among) h i.given)) i.among)

-- ---- Histories that go on from a journal begin with it.
record GoesOn (journal h : List Entry) : Type 0 where
  more : List Entry
  is : h ≡ journal ++ more

heads_same : {A : Type 0} (xs ys zs : List A) (a b : A) → xs ++ a ∷ ys ≡ xs ++ b ∷ zs → a ≡ b
heads_same [] ys zs a b h = cc
heads_same (x ∷ xs) ys zs a b h = heads_same xs ys zs a b (let t : xs ++ a ∷ ys ≡ xs ++ b ∷ zs = cc in t)

module _ (t : TraceValue) where
  alone : (journal h : List Entry) → IsAmong h (journal ∷ []) → GoesOn journal h
  alone journal h (inl e) = record { more = []; is = sym e ∙ sym (append-nil journal) }
  alone journal h (inr g) = absurd g

  -- by the turn of a thread
  record GoesBy (journal h : List Entry) (u : ℕ) : Type 0 where
    entry : Entry
    thread : entry.thread ≡ u
    more : List Entry
    is : h ≡ journal ++ entry ∷ more

  by_turn : (journal h : List Entry) (u : ℕ) → IsAmong u (able_threads t journal) → GoesOn (after t journal u) h → GoesBy journal h u
  by_turn journal h u i g =
      let goes = goes_of t journal u i in
      record {
        entry = goes.entry;
        thread = (due_is t journal u goes.entry goes.due).1;
        more = g.more;
        is =
            g.is
            ∙ ap (λ (js : List Entry). js ++ g.more) (after_by t journal u _ goes.due)
            ∙ append_assoc journal (goes.entry ∷ []) g.more;
      }

  begins_by : (journal h : List Entry) (us : List ℕ) (f : ℕ → List (List Entry)) → able_threads t journal ≡ us → ((u : ℕ) → IsAmong h (f u) → GoesOn (after t journal u) h) → IsAmong h (branches journal us f) → GoesOn journal h
  begins_by journal h [] f q on g = alone journal h g
  begins_by journal h (u ∷ us) f q on g =
      let i = given_by f h (u ∷ us) g in
      let P : List ℕ → Type 0 = λ ts. IsAmong i.item ts in
      let by = by_turn journal h i.item (subst P (sym q) i.among) (on i.item i.given) in
      record { more = by.entry ∷ by.more; is = by.is }

  begins : (n : ℕ) (journal h : List Entry) → IsAmong h (histories_from n t journal) → GoesOn journal h
  unfolding histories_from
  begins zero journal h g = alone journal h g
  begins (suc n) journal h g = begins_by journal h (able_threads t journal) (λ u. histories_from n t (after t journal u)) refl (λ u i. begins n (after t journal u) h i) g

  -- ---- The turns of two threads lead to other histories.
  one_thread : (journal h : List Entry) (u v : ℕ) → GoesBy journal h u → GoesBy journal h v → u ≡ v
  one_thread journal h u v g k =
      let same : g.entry ≡ k.entry = heads_same journal g.more k.more g.entry k.entry (sym g.is ∙ k.is) in
      sym g.thread ∙ ap (λ (e : Entry). e.thread) same ∙ k.thread

  able_distinct : (journal : List Entry) → AreDistinct (able_threads t journal)
  unfolding able_threads
  able_distinct journal = distinct_passing (is_able t.lines journal (state_behind t journal)) (threads_of t) (distinct_range 0 t.threads)

  distinct_by : (journal : List Entry) (us : List ℕ) (f : ℕ → List (List Entry)) → able_threads t journal ≡ us → ((u : ℕ) → AreDistinct (f u)) → ((u : ℕ) (h : List Entry) → IsAmong h (f u) → GoesOn (after t journal u) h) → AreDistinct (branches journal us f)
  distinct_by journal [] f q each on = (λ h. h, tt)
  distinct_by journal (u ∷ us) f q each on =
      let P : List ℕ → Type 0 = λ ts. AreDistinct ts in
      distinct_given f (u ∷ us) (subst P q (able_distinct journal)) (λ v i. each v) apart
    where
      turn : (v : ℕ) (h : List Entry) → IsAmong v (u ∷ us) → IsAmong h (f v) → GoesBy journal h v
      turn v h i g = let P : List ℕ → Type 0 = λ ts. IsAmong v ts in by_turn journal h v (subst P (sym q) i) (on v h g)

      apart : (v w : ℕ) (h : List Entry) → IsAmong v (u ∷ us) → IsAmong w (u ∷ us) → IsAmong h (f v) → IsAmong h (f w) → v ≡ w
      apart v w h i j g k = one_thread journal h v w (turn v h i g) (turn w h j k)

  distinct_from : (n : ℕ) (journal : List Entry) → AreDistinct (histories_from n t journal)
  unfolding histories_from
  distinct_from zero journal = (λ h. h, tt)
  distinct_from (suc n) journal =
      distinct_by journal (able_threads t journal) (λ u. histories_from n t (after t journal u)) refl
      (λ u. distinct_from n (after t journal u))
      (λ u h i. begins n (after t journal u) h i)

  pub no_two_same : AreDistinct (histories t)
  no_two_same = distinct_from (most_turns t) []
