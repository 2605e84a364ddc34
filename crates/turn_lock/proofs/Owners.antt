-- Which live view owns which number, where one view changes or comes.
use Rattle.std.proofs.Common.{◌≡◌, ◌≢◌, ℕ, ◌+◌, ◌<◌, true, List, [], ◌∷◌, ◌++◌, length, set, refl, sym, ap, ◌∙◌, subst, inl, inr, ⊎_elim, arith, length-set, length-append}
use Rattle.std.specs.Prelude.{Contains, count_by}
use mathlib.Core.Logic.{dite}
use native.Mathlib.Decide.{ℕ_discrete}
use Rattle.atomic_table.proofs.Lists.{set_here, set_else, at_last, at_longer}
use Rattle.turn_lock.specs.declared.view.View.{View}
use Rattle.turn_lock.specs.Views.{Owns, At, is_live}
use Rattle.turn_lock.proofs.Tallies.{one_if, count_by-set}
use Rattle.turn_lock.proofs.Lists.{pairs_set, at_below, one_view, each_push}

module _ {S E : Type 0} where
  -- what a step keeps of a view
  pub record IsKin (v w : View S E) : Type 0 where
    pub live : w.live ≡ v.live
    pub number : w.number ≡ v.number
    pub ended : w.ended ≡ v.ended

  pub owned_before : (v w : View S E) (n : ℕ) → IsKin v w → Owns w n → Owns v n
  owned_before v w n k o = ⊎_elim (λ (e : n ≡ w.number). inl (e ∙ k.number)) (λ (h : Contains w.ended n). inr (subst (λ l. Contains l n) k.ended h)) o

  pub owned_after : (v w : View S E) (n : ℕ) → IsKin v w → Owns v n → Owns w n
  owned_after v w n k o = ⊎_elim (λ (e : n ≡ v.number). inl (e ∙ sym k.number)) (λ (h : Contains v.ended n). inr (subst (λ l. Contains l n) (sym k.ended) h)) o

  pub live_set : (l : List (View S E)) (i : ℕ) (v w : View S E) → At l i v → IsKin v w → count_by is_live (set l i w) ≡ count_by is_live l
  live_set l i v w e k = let same : one_if (is_live w) ≡ one_if (is_live v) = ap (λ b. one_if b) k.live in let h = count_by-set is_live l i v w e in omega arith

  -- two live views own no number in common
  abbrev pub AreApart : List (View S E) → Type 0
  AreApart views = (i j : ℕ) (v w : View S E) → At views i v → At views j w → v.live ≡ true → w.live ≡ true → i ≢ j → (n : ℕ) → Owns v n → ¬ (Owns w n)

  -- each number made is owned by a live view
  abbrev pub AreOwned : List (View S E) → Type 0
  AreOwned views = (n : ℕ) → n < length views → (i : ℕ) × (v : View S E) × At views i v × (v.live ≡ true) × Owns v n

  pub apart_set : (l : List (View S E)) (id : ℕ) (v w : View S E) → At l id v → IsKin v w → AreApart l → AreApart (set l id w)
  apart_set l id v w at k old = pairs_set (λ i u j u'. u.live ≡ true → u'.live ≡ true → i ≢ j → (n : ℕ) → Owns u n → ¬ (Owns u' n)) l id w
      (λ a b ne n o o'. ne refl)
      (λ j u ne here a b other n o o'. old id j v u at here (sym k.live ∙ a) b other n (owned_before v w n k o) o')
      (λ j u ne here a b other n o o'. old j id u v here at a (sym k.live ∙ b) other n o (owned_before v w n k o'))
      (λ i j u u' a b. old i j u u' a b)

  pub owned_set : (l : List (View S E)) (id : ℕ) (v w : View S E) → At l id v → IsKin v w → AreOwned l → AreOwned (set l id w)
  owned_set l id v w at k old n below = let h = old n (subst (λ z. n < z) (length-set l id w) below) in
      dite (ℕ_discrete h.0 id)
      (λ e. let same = one_view l h.0 id h.1 v h.2 at e in (id, w, set_here l id w (at_below l id v at), k.live ∙ (ap (λ (u : View S E). u.live) (sym same) ∙ h.3), owned_after v w n k (subst (λ (u : View S E). Owns u n) same h.4)))
      (λ ne. (h.0, h.1, set_else l id h.0 w ne ∙ h.2, h.3, h.4))

  pub apart_push : (l : List (View S E)) (a : View S E) → AreApart l → ((i : ℕ) (v : View S E) → At l i v → v.live ≡ true → (n : ℕ) → Owns v n → ¬ (Owns a n)) → AreApart (l ++ a ∷ [])
  apart_push l a old new i j v w e e' = each_push (λ x u. u.live ≡ true → w.live ≡ true → x ≢ j → (n : ℕ) → Owns u n → ¬ (Owns w n)) l a
      (λ x u at. each_push (λ y u'. u.live ≡ true → u'.live ≡ true → x ≢ y → (n : ℕ) → Owns u n → ¬ (Owns u' n)) l a
      (λ y u' at'. old x y u u' at at')
      (λ alive _ _ n o o'. new x u at alive n o o') j w e')
      (each_push (λ y u'. a.live ≡ true → u'.live ≡ true → length l ≢ y → (n : ℕ) → Owns a n → ¬ (Owns u' n)) l a
      (λ y u' at' _ alive _ n o o'. new y u' at' alive n o' o)
      (λ _ _ ne n o o'. ne refl) j w e')
      i v e

  pub owned_push : (l : List (View S E)) (a : View S E) → a.live ≡ true → a.number ≡ length l → AreOwned l → AreOwned (l ++ a ∷ [])
  owned_push l a live number old n below =
      let long : length (l ++ a ∷ []) ≡ length l + 1 = length-append l (a ∷ []) in
      dite (ℕ_discrete n (length l))
      (λ e. (length l, a, at_last l a (length l) refl, live, inl (e ∙ sym number)))
      (λ ne. let h = old n (omega arith) in (h.0, h.1, at_longer l (a ∷ []) h.0 h.1 h.2, h.3, h.4))
