-- The words that are left of a list, as they are taken one by one.
use Rattle.std.proofs.Common.{◌≡◌, ℕ, ◌+◌, List, [], ◌∷◌, ◌++◌, length, drop, refl, sym, ap, ◌∙◌, arith, Option, None, Some}
use Rattle.std.proofs.lemmas.List.{append-nil, append_assoc}
use Rattle.std.specs.Option.{MatchOption}
use Rattle.std.specs.Prelude.{map}

module _ {A B : Type 0} (f : A → B) where
  nothing : (xs : List A) → length xs ≡ 0 → xs ≡ []
  nothing [] h = refl
  nothing (x ∷ xs) h = absurd (omega (arith, h))

  -- what was left before the first is taken, and behind it
  behind_first : (o : Option A) (old new : List A) (n m : ℕ) → MatchOption o ((n ≡ 0) × (m ≡ 0)) (λ x. (old ≡ x ∷ new) × (m + 1 ≡ n)) → n ≡ length old → m ≡ length new → new ≡ drop 1 old
  behind_first None old new n m steps before behind =
      nothing new (sym behind ∙ steps.1) ∙ sym (ap (drop 1) (nothing old (sym before ∙ steps.0)))
  behind_first (Some x) old new n m steps before behind = sym (ap (drop 1) steps.0)

  pub begun : (ws : List B) (o : Option A) (old new : List A) (n m : ℕ) → ws ≡ [] → MatchOption o ((n ≡ 0) × (m ≡ 0)) (λ x. (old ≡ x ∷ new) × (m + 1 ≡ n)) → n ≡ length old → m ≡ length new → ws ++ map f new ≡ map f (drop 1 old)
  begun ws o old new n m none steps before behind = ap (λ (xs : List B). xs ++ map f new) none ∙ ap (map f) (behind_first o old new n m steps before behind)

  -- one more was taken
  pub taken : (ws ws' whole : List B) (x : A) (old new : List A) → ws' ≡ ws ++ f x ∷ [] → old ≡ x ∷ new → ws ++ map f old ≡ whole → ws' ++ map f new ≡ whole
  taken ws ws' whole x old new pushed step before =
      ap (λ (xs : List B). xs ++ map f new) pushed ∙ append_assoc ws (f x ∷ []) (map f new) ∙ ap (λ (xs : List A). ws ++ map f xs) (sym step) ∙ before

  -- none is left
  pub ended : (ws whole : List B) (old : List A) (n : ℕ) → n ≡ length old → n ≡ 0 → ws ++ map f old ≡ whole → ws ≡ whole
  ended ws whole old n long none before = sym (append-nil ws) ∙ ap (λ (xs : List A). ws ++ map f xs) (sym (nothing old (sym long ∙ none))) ∙ before
