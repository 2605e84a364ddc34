-- What is among the items of a list.
use Rattle.std.proofs.Common.{◌≡◌, ◌⊎◌, ℕ, zero, suc, ◌+◌, ◌<◌, ◌≤◌, Bool, true, false, List, [], ◌∷◌, ◌++◌, refl, sym, ap, ◌∙◌, subst, arith, inl, inr}
use Rattle.std.proofs.lemmas.Bool.{eqb-true}
use Rattle.std.proofs.lemmas.Bool.Decides.{nat_tests}
use Rattle.std.specs.Prelude.{◌==◌, filter, cond}
use Rattle.std.specs.List.{flat_map, range_with_len}
use Rattle.trace_outcomes.specs.Plays.{IsAmong}

pub among_front : {A : Type 0} (x : A) (xs ys : List A) → IsAmong x xs → IsAmong x (xs ++ ys)
among_front x [] ys h = absurd h
among_front x (y ∷ more) ys (inl e) = inl e
among_front x (y ∷ more) ys (inr h) = inr (among_front x more ys h)

pub among_back : {A : Type 0} (x : A) (xs ys : List A) → IsAmong x ys → IsAmong x (xs ++ ys)
among_back x [] ys h = h
among_back x (y ∷ more) ys h = inr (among_back x more ys h)

pub among_either : {A : Type 0} (x : A) (xs ys : List A) → IsAmong x (xs ++ ys) → IsAmong x xs ⊎ IsAmong x ys
among_either x [] ys h = inr h
among_either x (y ∷ more) ys (inl e) = inl (inl e)
among_either {A} x (y ∷ more) ys (inr h) = later (among_either x more ys h)
  where
    later : IsAmong x more ⊎ IsAmong x ys → IsAmong x (y ∷ more) ⊎ IsAmong x ys
    later (inl g) = inl (inr g)
    later (inr g) = inr g

-- ---- What items give.
pub among_each : {A B : Type 0} (f : A → List B) (x : B) (u : A) (us : List A) → IsAmong u us → IsAmong x (f u) → IsAmong x (flat_map f us)
among_each f x u [] h g = absurd h
among_each {A} {B} f x u (v ∷ vs) (inl e) g = let P : A → Type 0 = λ w. IsAmong x (f w) in among_front x (f v) (flat_map f vs) (subst P (sym e) g)
among_each f x u (v ∷ vs) (inr h) g = among_back x (f v) (flat_map f vs) (among_each f x u vs h g)

-- the item that gives it
pub record IsGiven {A B : Type 0} (f : A → List B) (x : B) (us : List A) : Type 0 where
  pub item : A
  pub among : IsAmong item us
  pub given : IsAmong x (f item)

pub given_by : {A B : Type 0} (f : A → List B) (x : B) (us : List A) → IsAmong x (flat_map f us) → IsGiven f x us
given_by f x [] h = absurd h
given_by {A} {B} f x (v ∷ vs) h = by_part (λ g. given_by f x vs g) (among_either x (f v) (flat_map f vs) h)
  where
    by_part : (IsAmong x (flat_map f vs) → IsGiven f x vs) → IsAmong x (f v) ⊎ IsAmong x (flat_map f vs) → IsGiven f x (v ∷ vs)
    by_part on (inl g) = record { item = v; among = inl refl; given = g }
    by_part on (inr g) = let i = on g in record { item = i.item; among = inr i.among; given = i.given }

-- functions that agree on the items give the same
pub same_each : {A B : Type 0} (f g : A → List B) (us : List A) → ((u : A) → IsAmong u us → f u ≡ g u) → flat_map f us ≡ flat_map g us
same_each f g [] h = refl
same_each {A} {B} f g (u ∷ us) h =
    ap (λ (r : List B). r ++ flat_map f us) (h u (inl refl)) ∙ ap (λ (r : List B). g u ++ r) (same_each f g us (λ v i. h v (inr i)))

-- ---- What passes a test.
pub record PassesAmong {A : Type 0} (p : A → Bool) (x : A) (xs : List A) : Type 0 where
  pub passes : p x ≡ true
  pub among : IsAmong x xs

pub among_passing : {A : Type 0} (p : A → Bool) (x : A) (xs : List A) → IsAmong x (filter p xs) → PassesAmong p x xs
among_passing p x [] h = absurd h
among_passing {A} p x (y ∷ ys) h = by_test (λ g. among_passing p x ys g) (p y) refl h
  where
    more : PassesAmong p x ys → PassesAmong p x (y ∷ ys)
    more i = record { passes = i.passes; among = inr i.among }

    first : (IsAmong x (filter p ys) → PassesAmong p x ys) → p y ≡ true → (y ≡ x) ⊎ IsAmong x (filter p ys) → PassesAmong p x (y ∷ ys)
    first on q (inl e) = record { passes = sym (ap p e) ∙ q; among = inl e }
    first on q (inr g) = more (on g)

    by_test : (IsAmong x (filter p ys) → PassesAmong p x ys) → (b : Bool) → p y ≡ b → IsAmong x (cond b (y ∷ filter p ys) (filter p ys)) → PassesAmong p x (y ∷ ys)
    by_test on true q g = first on q g
    by_test on false q g = more (on g)

pub passing_among : {A : Type 0} (p : A → Bool) (x : A) (xs : List A) → p x ≡ true → IsAmong x xs → IsAmong x (filter p xs)
passing_among p x [] q h = absurd h
passing_among {A} p x (y ∷ ys) q (inl e) =
    let P : Bool → Type 0 = λ b. IsAmong x (cond b (y ∷ filter p ys) (filter p ys)) in
    subst P (sym (ap p e ∙ q)) (inl e)
passing_among {A} p x (y ∷ ys) q (inr h) = by_test (p y) (passing_among p x ys q h)
  where
    by_test : (b : Bool) → IsAmong x (filter p ys) → IsAmong x (cond b (y ∷ filter p ys) (filter p ys))
    by_test true g = inr g
    by_test false g = g

-- ---- Numbers in a row.
pub among_range : (u from count : ℕ) → IsAmong u (range_with_len from count) → u < from + count
among_range u from zero h = absurd h
among_range u from (suc count) (inl e) = omega (arith, e)
among_range u from (suc count) (inr h) = omega (arith, among_range u (from + 1) count h)

pub range_among : (u from count : ℕ) → from ≤ u → u < from + count → IsAmong u (range_with_len from count)
range_among u from zero le lt = absurd (omega (arith, le, lt))
range_among u from (suc count) le lt = by_first (λ next. range_among u (from + 1) count next (omega (arith, lt))) (from == u) refl
  where
    by_first : (from + 1 ≤ u → IsAmong u (range_with_len (from + 1) count)) → (b : Bool) → (from == u) ≡ b → IsAmong u (range_with_len from (suc count))
    by_first on true q = inl (eqb-true from u q)
    by_first on false q = let ne : from < u = grind (arith, nat_tests, q, le) in inr (on (omega (arith, ne)))
