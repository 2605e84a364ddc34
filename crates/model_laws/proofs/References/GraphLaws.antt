-- What is kept is what is reached, and to keep it again changes nothing.
use Rattle.std.proofs.Common.{◌≡◌, ℕ, zero, suc, ◌+◌, ◌≤◌, Bool, true, false, ◌||◌, ◌&&◌, ◌<◌, List, [], ◌∷◌, ◌++◌, refl, sym, ap, ◌∙◌, arith, inl, inr}
use Rattle.std.proofs.lemmas.Bool.{or_cases, eqb-true, eq-eqb, cond-true, cases_eq, cases_lt, and_from, and_parts, or_left, or_right}
use Rattle.std.proofs.lemmas.List.Folds.{list_any-append}
use Rattle.std.specs.Prelude.{◌==◌}
use Rattle.std.specs.List.{flat_map, list_any, range_with_len}
use Rattle.egl_calls.proofs.Truths.{same_truth}
use Rattle.egl_model.specs.Graph.{is_in, marked, reached, kept_edges}

-- each number of xs stands in ys
pub record Within (xs ys : List ℕ) : Type 0 where
  pub at : (n : ℕ) → is_in n xs ≡ true → is_in n ys ≡ true

pub any_at : (p : ℕ → Bool) (x : ℕ) (ys : List ℕ) → is_in x ys ≡ true → p x ≡ true → list_any p ys ≡ true
any_at p x [] h q = h
any_at p x (y ∷ ys) h q =
    elim (or_cases _ _ h) [
      | inl e ↦ or_left (p y) (list_any p ys) ((ap p (eqb-true y x e) ∙ q))
      | inr e ↦ or_right (p y) (list_any p ys) ((any_at p x ys e q))
    ]

pub any_within : (p : ℕ → Bool) (xs ys : List ℕ) → Within xs ys → list_any p xs ≡ true → list_any p ys ≡ true
any_within p [] ys w h = absurd (let e : false ≡ true = h in cc)
any_within p (x ∷ xs) ys w h =
    elim (or_cases _ _ h) [
      | inl e ↦ any_at p x ys (w.at x (or_left _ _ ((eq-eqb x x refl)))) e
      | inr e ↦ any_within p xs ys (record { at = λ n i. w.at n (or_right _ _ (i)) }) e
    ]

pub is_in-flat_map : (f : ℕ → List ℕ) (n : ℕ) (xs : List ℕ) → is_in n (flat_map f xs) ≡ list_any (λ m. is_in n (f m)) xs
is_in-flat_map f n [] = refl
is_in-flat_map f n (x ∷ xs) = list_any-append (λ y. y == n) (f x) (flat_map f xs) ∙ ap (λ b. is_in n (f x) || b) (is_in-flat_map f n xs)

pub within-flat_map : (f : ℕ → List ℕ) (xs ys : List ℕ) → Within xs ys → Within (flat_map f xs) (flat_map f ys)
within-flat_map f xs ys w = record {
  at = λ n h. is_in-flat_map f n ys ∙ any_within (λ m. is_in n (f m)) xs ys w (sym (is_in-flat_map f n xs) ∙ h);
}

pub within-append : (rs xs ys : List ℕ) → Within xs ys → Within (rs ++ xs) (rs ++ ys)
within-append rs xs ys w = record {
  at = λ n h. list_any-append (λ y. y == n) rs ys ∙
      elim (or_cases _ _ (sym (list_any-append (λ y. y == n) rs xs) ∙ h)) [
        | inl e ↦ or_left _ _ (e)
        | inr e ↦ or_right _ _ ((w.at n e))
      ];
}

pub grows : (roots : List ℕ) (edges : ℕ → List ℕ) (k : ℕ) → Within (marked roots edges k) (marked roots edges (suc k))
unfolding marked
grows roots edges zero = record { at = λ n h. list_any-append (λ y. y == n) roots (flat_map edges roots) ∙ or_left _ _ (h) }
grows roots edges (suc k) = within-append roots _ _ (within-flat_map edges _ _ (grows roots edges k))

within_trans : (xs ys zs : List ℕ) → Within xs ys → Within ys zs → Within xs zs
within_trans xs ys zs v w = record { at = λ n h. w.at n (v.at n h) }

within_self : (xs : List ℕ) → Within xs xs
within_self xs = record { at = λ n h. h }

-- where each number of xs is reached, the kept edges are the edges
pub flat_map-kept : (roots : List ℕ) (edges : ℕ → List ℕ) (xs : List ℕ) → Within xs (marked roots edges 4) → flat_map (kept_edges roots edges) xs ≡ flat_map edges xs
flat_map-kept roots edges [] w = refl
flat_map-kept roots edges (x ∷ xs) w =
    let here : reached roots edges x ≡ true = w.at x (or_left _ _ ((eq-eqb x x refl))) in
    let e : kept_edges roots edges x ≡ edges x = cond-true _ _ _ here in
    let r : flat_map (kept_edges roots edges) xs ≡ flat_map edges xs = flat_map-kept roots edges xs (record { at = λ n i. w.at n (or_right _ _ (i)) }) in
    cc

step_kept : (roots : List ℕ) (edges : ℕ → List ℕ) (k : ℕ) → Within (marked roots edges k) (marked roots edges 4) → marked roots (kept_edges roots edges) k ≡ marked roots edges k → marked roots (kept_edges roots edges) (suc k) ≡ marked roots edges (suc k)
unfolding marked
step_kept roots edges k w e = ap (λ xs. roots ++ flat_map (kept_edges roots edges) xs) e ∙ ap (λ xs. roots ++ xs) (flat_map-kept roots edges (marked roots edges k) w)

marked-zero : (roots : List ℕ) (edges : ℕ → List ℕ) → marked roots (kept_edges roots edges) 0 ≡ marked roots edges 0
unfolding marked
marked-zero roots edges = refl

pub marked-kept : (roots : List ℕ) (edges : ℕ → List ℕ) → marked roots (kept_edges roots edges) 4 ≡ marked roots edges 4
marked-kept roots edges =
    let w3 = grows roots edges 3 in
    let w2 = within_trans _ _ _ (grows roots edges 2) w3 in
    let w1 = within_trans _ _ _ (grows roots edges 1) w2 in
    let w0 = within_trans _ _ _ (grows roots edges 0) w1 in
    step_kept roots edges 3 w3 (step_kept roots edges 2 w2 (step_kept roots edges 1 w1 (step_kept roots edges 0 w0 (marked-zero roots edges))))

pub reached-kept : (roots : List ℕ) (edges : ℕ → List ℕ) (n : ℕ) → reached roots (kept_edges roots edges) n ≡ reached roots edges n
reached-kept roots edges n = ap (is_in n) (marked-kept roots edges)

-- ---- Only the edges of what is reached matter.
same_flat_map : (f g : ℕ → List ℕ) (xs zs : List ℕ) → Within xs zs → ((m : ℕ) → is_in m zs ≡ true → f m ≡ g m) → flat_map f xs ≡ flat_map g xs
same_flat_map f g [] zs w e = refl
same_flat_map f g (x ∷ xs) zs w e =
    let here : f x ≡ g x = e x (w.at x (or_left _ _ (eq-eqb x x refl))) in
    let r : flat_map f xs ≡ flat_map g xs = same_flat_map f g xs zs (record { at = λ n i. w.at n (or_right _ _ i) }) e in
    cc

same_step : (roots : List ℕ) (f g : ℕ → List ℕ) (k : ℕ) → Within (marked roots g k) (marked roots g 4) → ((m : ℕ) → reached roots g m ≡ true → f m ≡ g m) → marked roots f k ≡ marked roots g k → marked roots f (suc k) ≡ marked roots g (suc k)
unfolding marked
same_step roots f g k w e h = ap (λ xs. roots ++ flat_map f xs) h ∙ ap (λ xs. roots ++ xs) (same_flat_map f g (marked roots g k) (marked roots g 4) w e)

same_zero : (roots : List ℕ) (f g : ℕ → List ℕ) → marked roots f 0 ≡ marked roots g 0
unfolding marked
same_zero roots f g = refl

pub same_marked : (roots : List ℕ) (f g : ℕ → List ℕ) → ((m : ℕ) → reached roots g m ≡ true → f m ≡ g m) → marked roots f 4 ≡ marked roots g 4
same_marked roots f g e =
    let w3 = grows roots g 3 in
    let w2 = within_trans _ _ _ (grows roots g 2) w3 in
    let w1 = within_trans _ _ _ (grows roots g 1) w2 in
    let w0 = within_trans _ _ _ (grows roots g 0) w1 in
    same_step roots f g 3 w3 e (same_step roots f g 2 w2 e (same_step roots f g 1 w1 e (same_step roots f g 0 w0 e (same_zero roots f g))))

pub same_reached : (roots : List ℕ) (f g : ℕ → List ℕ) → ((m : ℕ) → reached roots g m ≡ true → f m ≡ g m) → (n : ℕ) → reached roots f n ≡ reached roots g n
same_reached roots f g e n = ap (is_in n) (same_marked roots f g e)

-- ---- What is reached, seen from behind: some holder below a number is.
pub in_range : (a n m : ℕ) → a ≤ m → m < a + n → is_in m (range_with_len a n) ≡ true
in_range a zero m h k = absurd (omega arith)
in_range a (suc n) m h k =
    elim (cases_eq a m) [
      | inl e ↦ or_left _ _ (eq-eqb a m e)
      | inr e ↦ or_right _ _ (in_range (a + 1) n m (omega arith) (omega arith))
    ]

-- an element that passes
pub any_found : (p : ℕ → Bool) (xs : List ℕ) → list_any p xs ≡ true → (m : ℕ) × (is_in m xs ≡ true) × (p m ≡ true)
any_found p [] h = absurd (let f : false ≡ true = h in cc)
any_found p (x ∷ xs) h =
    elim (or_cases _ _ h) [
      | inl e ↦ (x, or_left _ _ (eq-eqb x x refl), e)
      | inr e ↦ let r = any_found p xs e in (r.0, or_right _ _ r.1, r.2)
    ]

pub any_in_range : (p : ℕ → Bool) (xs : List ℕ) (count : ℕ) → ((m : ℕ) → count ≤ m → p m ≡ false) → list_any p xs ≡ list_any (λ m. p m && is_in m xs) (range_with_len 0 count)
any_in_range p xs count none = same_truth _ _
    (λ h. let r = any_found p xs h in
    elim (cases_lt r.0 count) [
      | inl l ↦ any_at (λ m. p m && is_in m xs) r.0 (range_with_len 0 count) (in_range 0 count r.0 (omega arith) (omega arith)) (and_from _ _ r.2 r.1)
      | inr l ↦ absurd (let a = none r.0 l in let b = r.2 in let c : false ≡ true = sym a ∙ b in cc)
    ])
    (λ h. let r = any_found (λ m. p m && is_in m xs) (range_with_len 0 count) h in let q = and_parts _ _ r.2 in any_at p r.0 xs q.1 q.0)

-- one more reference: a root, or an edge of what is reached by one reference less
pub marked_more : (roots : List ℕ) (edges : ℕ → List ℕ) (count k n : ℕ) → ((m : ℕ) → count ≤ m → edges m ≡ []) →
    is_in n (marked roots edges (suc k)) ≡ (is_in n roots || list_any (λ m. is_in n (edges m) && is_in m (marked roots edges k)) (range_with_len 0 count))
unfolding marked
marked_more roots edges count k n none =
    list_any-append (λ y. y == n) roots (flat_map edges (marked roots edges k))
    ∙ ap (λ b. is_in n roots || b) (is_in-flat_map edges n (marked roots edges k)
    ∙ any_in_range (λ m. is_in n (edges m)) (marked roots edges k) count (λ m h. ap (is_in n) (none m h)))
