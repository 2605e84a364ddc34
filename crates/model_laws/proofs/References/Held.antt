-- A table that is closed under references, and in which everything is held, is what is reached.
use Rattle.std.proofs.Common.{◌≡◌, ℕ, zero, suc, ◌+◌, ◌<◌, ◌≤◌, Bool, true, List, sym, ◌∙◌, arith, inl, inr, ◌⊎◌}
use Rattle.std.proofs.lemmas.Bool.{or_cases, or_left, or_right}
use Rattle.std.proofs.lemmas.List.Folds.{list_any-append}
use Rattle.std.specs.Prelude.{◌==◌}
use Rattle.std.specs.List.{flat_map}
use Rattle.egl_calls.proofs.Truths.{same_truth}
use Rattle.egl_model.specs.Graph.{is_in, marked, reached}
use Rattle.model_laws.proofs.References.GraphLaws.{any_at, any_found, is_in-flat_map}

pub record IsClosed (roots : List ℕ) (edges : ℕ → List ℕ) (rank : ℕ → ℕ) (keep : ℕ → Bool) : Type 0 where
  -- what a root leads to is kept, and so is what something kept refers to
  pub from_roots : (n : ℕ) → is_in n roots ≡ true → keep n ≡ true
  pub from_kept : (m n : ℕ) → keep m ≡ true → is_in n (edges m) ≡ true → keep n ≡ true
  -- what is kept is held by a root or by something kept
  pub held : (n : ℕ) → keep n ≡ true → (is_in n roots ≡ true) ⊎ ((m : ℕ) × (keep m ≡ true) × (is_in n (edges m) ≡ true))
  -- along a reference ranks fall
  pub falls : (m n : ℕ) → is_in n (edges m) ≡ true → rank n < rank m
  pub top : (n : ℕ) → rank n ≤ 4

marked_root : (roots : List ℕ) (edges : ℕ → List ℕ) (k n : ℕ) → is_in n roots ≡ true → is_in n (marked roots edges k) ≡ true
unfolding marked
marked_root roots edges zero n h = h
marked_root roots edges (suc k) n h = list_any-append (λ y. y == n) roots _ ∙ or_left _ _ h

marked_by : (roots : List ℕ) (edges : ℕ → List ℕ) (k m n : ℕ) → is_in m (marked roots edges k) ≡ true → is_in n (edges m) ≡ true → is_in n (marked roots edges (suc k)) ≡ true
unfolding marked
marked_by roots edges k m n h e = list_any-append (λ y. y == n) roots _ ∙ or_right _ _ (is_in-flat_map edges n (marked roots edges k) ∙ any_at (λ x. is_in n (edges x)) m (marked roots edges k) h e)

kept_if_marked : (roots : List ℕ) (edges : ℕ → List ℕ) (rank : ℕ → ℕ) (keep : ℕ → Bool) → IsClosed roots edges rank keep → (k n : ℕ) → is_in n (marked roots edges k) ≡ true → keep n ≡ true
unfolding marked
kept_if_marked roots edges rank keep c zero n h = c.from_roots n h
kept_if_marked roots edges rank keep c (suc k) n h =
    elim (or_cases _ _ (sym (list_any-append (λ y. y == n) roots (flat_map edges (marked roots edges k))) ∙ h)) [
      | inl e ↦ c.from_roots n e
      | inr e ↦ let f = any_found (λ x. is_in n (edges x)) (marked roots edges k) (sym (is_in-flat_map edges n (marked roots edges k)) ∙ e) in
          c.from_kept f.0 n (kept_if_marked roots edges rank keep c k f.0 f.1) f.2
    ]

marked_if_kept : (roots : List ℕ) (edges : ℕ → List ℕ) (rank : ℕ → ℕ) (keep : ℕ → Bool) → IsClosed roots edges rank keep → (k n : ℕ) → keep n ≡ true → 4 ≤ rank n + k → is_in n (marked roots edges k) ≡ true
marked_if_kept roots edges rank keep c zero n h r =
    elim (c.held n h) [
      | inl e ↦ marked_root roots edges zero n e
      | inr f ↦ let a = c.falls f.0 n f.2 in let b = c.top f.0 in absurd (omega arith)
    ]
marked_if_kept roots edges rank keep c (suc k) n h r =
    elim (c.held n h) [
      | inl e ↦ marked_root roots edges (suc k) n e
      | inr f ↦ let a = c.falls f.0 n f.2 in marked_by roots edges k f.0 n (marked_if_kept roots edges rank keep c k f.0 f.1 (omega arith)) f.2
    ]

-- so the counted table is the swept one
pub kept_is_reached : (roots : List ℕ) (edges : ℕ → List ℕ) (rank : ℕ → ℕ) (keep : ℕ → Bool) → IsClosed roots edges rank keep → (n : ℕ) → keep n ≡ reached roots edges n
kept_is_reached roots edges rank keep c n = same_truth _ _ (λ h. marked_if_kept roots edges rank keep c 4 n h (omega arith)) (λ h. kept_if_marked roots edges rank keep c 4 n h)
