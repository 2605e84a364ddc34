-- The histories behind a journal.
use Rattle.std.proofs.Common.{◌≡◌, ℕ, zero, suc, ◌<◌, ◌≤◌, List, [], ◌∷◌, length, refl, sym, ap, ◌∙◌, subst, arith, length-append, inl}
use Rattle.std.specs.List.{flat_map}
use Rattle.egl_calls.specs.declared.entries.Entry.{Entry}
use Rattle.trace_reader.specs.Order.{IsTrace}
use Rattle.trace_reader.specs.Traces.{TraceValue}
use Rattle.trace_model.specs.Serial.{most_turns}
use Rattle.trace_model.specs.TurnsLeft.{turns_left}
use Rattle.trace_model.proofs.EndLaws.{few_left}
use Rattle.trace_check.proofs.HoldsLaws.{Plays}
use Rattle.trace_outcomes.specs.Histories.{able_threads, after, branches, histories_from, histories_behind}
use Rattle.trace_outcomes.specs.Plays.{IsAmong}
use Rattle.trace_outcomes.proofs.AmongLaws.{same_each}
use Rattle.trace_outcomes.proofs.TurnLaws.{falls, after_by, plays_after, goes_of}

-- branches that agree on the threads
branches_same : (journal : List Entry) (us : List ℕ) (f g : ℕ → List (List Entry)) → ((u : ℕ) → IsAmong u us → f u ≡ g u) → branches journal us f ≡ branches journal us g
branches_same journal [] f g h = refl
branches_same journal (u ∷ us) f g h = same_each f g (u ∷ us) h

module _ (t : TraceValue) (is : IsTrace t) where
  -- the turn of each thread that can go on leaves fewer
  pub fewer : (journal : List Entry) (u : ℕ) → Plays t journal → IsAmong u (able_threads t journal) → turns_left t (after t journal u) < turns_left t journal
  fewer journal u p h =
      let g = goes_of t journal u h in
      let P : List Entry → Type 0 = λ js. turns_left t js < turns_left t journal in
      subst P (sym (after_by t journal u _ g.due)) (falls t journal g.entry p g.next)

  none_by : (journal : List Entry) (us : List ℕ) → able_threads t journal ≡ us → Plays t journal → turns_left t journal ≡ 0 → us ≡ []
  none_by journal [] h p z = refl
  none_by journal (u ∷ us) h p z =
      let P : List ℕ → Type 0 = λ ts. IsAmong u ts in
      absurd (omega (arith, z, fewer journal u p (subst P (sym h) (inl refl))))

  -- no thread can go on where no turns are left
  pub none_able : (journal : List Entry) → Plays t journal → turns_left t journal ≡ 0 → able_threads t journal ≡ []
  none_able journal p z = none_by journal (able_threads t journal) refl p z

  -- turns enough give the same histories
  pub same_turns : (n m : ℕ) (journal : List Entry) → Plays t journal → turns_left t journal ≤ n → turns_left t journal ≤ m → histories_from n t journal ≡ histories_from m t journal
  unfolding histories_from
  same_turns zero zero journal p a b = refl
  same_turns zero (suc m) journal p a b = sym (ap (λ (us : List ℕ). branches journal us (λ u. histories_from m t (after t journal u))) (none_able journal p (omega (arith, a))))
  same_turns (suc n) zero journal p a b = ap (λ (us : List ℕ). branches journal us (λ u. histories_from n t (after t journal u))) (none_able journal p (omega (arith, b)))
  same_turns (suc n) (suc m) journal p a b =
      branches_same journal (able_threads t journal) (λ u. histories_from n t (after t journal u)) (λ u. histories_from m t (after t journal u))
      (λ u h. same_turns n m (after t journal u) (plays_after t is journal u p) (omega (arith, a, fewer journal u p h)) (omega (arith, b, fewer journal u p h)))

  pub more_turns : (n : ℕ) (journal : List Entry) → histories_from (suc n) t journal ≡ branches journal (able_threads t journal) (λ u. histories_from n t (after t journal u))
  unfolding histories_from
  more_turns n journal = refl

  -- by the threads that can go on
  pub histories_by : (journal : List Entry) → Plays t journal → histories_behind t journal ≡ branches journal (able_threads t journal) (λ u. histories_behind t (after t journal u))
  histories_by journal p =
      same_turns (most_turns t) (suc (most_turns t)) journal p (few_left t journal) (omega (arith, few_left t journal))
      ∙ more_turns (most_turns t) journal

-- ---- There is at least one.
some_by : (journal : List Entry) (us : List ℕ) (more : ℕ → List (List Entry)) → ((u : ℕ) → 0 < length (more u)) → 0 < length (branches journal us more)
some_by journal [] more h = omega arith
some_by journal (u ∷ us) more h = omega (arith, h u, length-append (more u) (flat_map more us))

pub some_history : (n : ℕ) (t : TraceValue) (journal : List Entry) → 0 < length (histories_from n t journal)
unfolding histories_from
some_history zero t journal = omega arith
some_history (suc n) t journal = some_by journal (able_threads t journal) (λ u. histories_from n t (after t journal u)) (λ u. some_history n t (after t journal u))
