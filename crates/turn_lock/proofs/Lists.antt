-- Lists of views, one of which changes or comes, and small facts on options and lists.
use Rattle.std.proofs.Common.{◌≡◌, ◌≢◌, ◌⊎◌, ℕ, zero, suc, ◌<◌, true, false, true≢false, List, [], ◌∷◌, ◌++◌, length, set, refl, sym, ap, ◌∙◌, subst, inl, inr, ⊎_elim, arith, Some, None}
use Rattle.std.specs.Prelude.{All, Contains, is_some, Option, slice_index_or}
use mathlib.Core.Option.{some-injective, some-ne-none}
use lib.ListN.{get_elem?}
use Rattle.atomic_table.proofs.Lists.{at_set}
use Rattle.turn_lock.specs.declared.view.View.{View}
use Rattle.turn_lock.specs.Views.{At}

pub off : false ≡ true → ⊥
off e = true≢false (sym e)

abbrev pub value_or : {A : Type 0} → A → Option A → A
value_or d None = d
value_or d (Some x) = x

-- an option has one value
pub one_value : {A : Type 0} (o : Option A) (a b : A) → o ≡ Some a → o ≡ Some b → a ≡ b
one_value o a b e f = ap (value_or a) (sym e ∙ f)

pub no_value : {A : Type 0} (o : Option A) (a : A) → o ≡ None → o ≡ Some a → ⊥
no_value o a e f = true≢false (ap is_some (sym f ∙ e))

abbrev pub carried_or : {A : Type 0} → A → List (ℕ × Option A) → A
carried_or d [] = d
carried_or d (p ∷ ps) = value_or d p.1

pub all_of_none : {A : Type 0} (P : A → Type 0) → All P []
all_of_none P i d inside = absurd (omega arith)

pub all_behind : {A : Type 0} (P : A → Type 0) (xs ys : List A) → All P (xs ++ ys) → All P ys
all_behind P [] ys a = a
all_behind P (x ∷ xs) ys a = all_behind P xs ys (λ i d h. a (suc i) d (omega arith))

-- where each element is and isn't so, there is none
pub none_is_both : {A : Type 0} (P : A → Type 0) (xs : List A) → All P xs → All (λ x. ¬ (P x)) xs → xs ≡ []
none_is_both P [] a b = refl
none_is_both P (x ∷ xs) a b = absurd (b 0 x (omega arith) (a 0 x (omega arith)))

pub none_contained : (x : ℕ) → Contains [] x → ⊥
none_contained x h = let inside = h.1 in absurd (omega arith)

-- a number is the first of a list, or behind it
pub contains_either : (x n : ℕ) (xs : List ℕ) → (x ≡ n) ⊎ (Contains xs x) → Contains (n ∷ xs) x
contains_either x n xs (inl e) = (0, omega arith, sym e)
contains_either x n xs (inr h) = let inside = h.1 in (suc h.0, omega arith, h.2)

pub either_contained : (x n : ℕ) (xs : List ℕ) → Contains (n ∷ xs) x → (x ≡ n) ⊎ (Contains xs x)
either_contained x n xs h = by_place h.0 h.1 h.2
  where
    by_place : (k : ℕ) → k < length (n ∷ xs) → slice_index_or (n ∷ xs) k x ≡ x → (x ≡ n) ⊎ (Contains xs x)
    by_place zero inside is = inl (sym is)
    by_place (suc k) inside is = inr (k, omega arith, is)

module _ {S E : Type 0} where
  -- what holds of the view that changed, and of the others, holds of each
  pub each_set : (P : ℕ → View S E → Type 0) (views : List (View S E)) (id : ℕ) (w : View S E) → P id w → ((j : ℕ) (u : View S E) → j ≢ id → At views j u → P j u)
      → (j : ℕ) (u : View S E) → At (set views id w) j u → P j u
  each_set P views id w mine others j u e = ⊎_elim (λ (t : (j ≡ id) × (w ≡ u)). subst (λ (x : ℕ × View S E). P x.0 x.1) (λ i. (sym t.0 i, t.1 i)) mine)
      (λ (t : (j ≢ id) × (At views j u)). others j u t.0 t.1) (at_set views id j w u e)

  -- the same of each two views
  pub pairs_set : (Q : ℕ → View S E → ℕ → View S E → Type 0) (views : List (View S E)) (id : ℕ) (w : View S E) → Q id w id w
      → ((j : ℕ) (u : View S E) → j ≢ id → At views j u → Q id w j u) → ((j : ℕ) (u : View S E) → j ≢ id → At views j u → Q j u id w)
      → ((i j : ℕ) (u u' : View S E) → At views i u → At views j u' → Q i u j u')
      → (i j : ℕ) (u u' : View S E) → At (set views id w) i u → At (set views id w) j u' → Q i u j u'
  pairs_set Q views id w self mine theirs old i j u u' e e' = each_set (λ a b. Q a b j u') views id w
      (each_set (λ a b. Q id w a b) views id w self mine j u' e')
      (λ a b ne at. each_set (λ c d. Q a b c d) views id w (theirs a b ne at) (λ c d ne' at'. old a c b d at at') j u' e')
      i u e

  pub at_below : (l : List (View S E)) (i : ℕ) (v : View S E) → At l i v → i < length l
  at_below [] i v e = absurd (some-ne-none v (sym e))
  at_below (x ∷ xs) zero v e = omega arith
  at_below (x ∷ xs) (suc i) v e = let h = at_below xs i v e in omega arith

  -- a place has one view
  pub one_view : (l : List (View S E)) (i j : ℕ) (v w : View S E) → At l i v → At l j w → i ≡ j → v ≡ w
  one_view l i j v w e e' same = some-injective v w (sym e ∙ ap (get_elem? l) same ∙ e')

  pub at_end : (l : List (View S E)) (a b : View S E) (j : ℕ) → At (l ++ a ∷ []) j b → (At l j b) ⊎ ((j ≡ length l) × (a ≡ b))
  at_end [] a b zero e = inr (refl, some-injective a b e)
  at_end [] a b (suc j) e = absurd (some-ne-none b (sym e))
  at_end (x ∷ xs) a b zero e = inl e
  at_end (x ∷ xs) a b (suc j) e = ⊎_elim (λ h. inl h) (λ (h : (j ≡ length xs) × (a ≡ b)). inr (ap suc h.0, h.1)) (at_end xs a b j e)

  -- what holds of the views, and of the one that came, holds of each
  pub each_push : (P : ℕ → View S E → Type 0) (l : List (View S E)) (a : View S E) → ((j : ℕ) (u : View S E) → At l j u → P j u) → P (length l) a → (j : ℕ) (u : View S E) → At (l ++ a ∷ []) j u → P j u
  each_push P l a old new j u e = ⊎_elim (λ (h : At l j u). old j u h) (λ (h : (j ≡ length l) × (a ≡ u)). subst (λ (x : ℕ × View S E). P x.0 x.1) (λ i. (sym h.0 i, h.1 i)) new) (at_end l a u j e)
