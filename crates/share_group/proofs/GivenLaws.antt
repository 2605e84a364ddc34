-- What it is to generate names.
use Rattle.std.proofs.Common.{◌≡◌, ℕ, zero, suc, ◌+◌, ◌<◌, ◌≤◌, Bool, true, false, List, [], ◌∷◌, get_or, length, refl, ◌∙◌, ap, arith, inl, inr, length-append}
use Rattle.std.specs.Prelude.{All, AllPairs}
use Rattle.std.specs.Option.{is_some}
use Rattle.std.proofs.lemmas.Bool.{cases_eq, cases_order, ne_eqb, eq-eqb}
use Rattle.std.proofs.lemmas.List.Elements.{All-get_or, All-nil, All-push, All-weaker}
use Rattle.std.proofs.lemmas.List.Quantifiers.{all_pairs_push}
use Rattle.egl_calls.proofs.Truths.{false_by}
use Rattle.share_group.specs.declared.names.Name.{Name}
use Rattle.share_group.specs.Names.{Rise, after, fresh, given, is_used, put, unused_from}
use Rattle.share_group.specs.Laws.{GivesTheSmallest}
use Rattle.share_group.proofs.NameLaws.{put-less, put-same, put-more, low-unused, rise-after, smaller_used, taken_back, unused_not_used}

used_put : (e : Name) (xs : List Name) → is_used e.name (put e xs) ≡ true
used_put e [] = rw (eq-eqb e.name e.name refl) refl
used_put e (x ∷ xs) = elim (cases_order e.name x.name) [
  | inl q ↦ rw (put-same e x xs q, eq-eqb e.name e.name refl) refl
  | inr o ↦ elim o [
    | inl less ↦ rw (put-less e x xs less, eq-eqb e.name e.name refl) refl
    | inr more ↦ rw (put-more e x xs more, ne_eqb x.name e.name (λ q. absurd (omega arith))) (used_put e xs)
  ]
]

used_first : (k : ℕ) (x : Name) (xs ys : List Name) → (is_used k xs ≡ true → is_used k ys ≡ true) → is_used k (x ∷ xs) ≡ true → is_used k (x ∷ ys) ≡ true
used_first k x xs ys f h = elim (cases_eq x.name k) [
  | inl q ↦ rw (eq-eqb x.name k q) refl
  | inr ne ↦ rw (ne_eqb x.name k ne) (f (rw (ne_eqb x.name k ne) at h))
]

used_behind : (k : ℕ) (e : Name) (xs : List Name) → is_used k xs ≡ true → is_used k (e ∷ xs) ≡ true
used_behind k e xs h = elim (cases_eq e.name k) [
  | inl q ↦ rw (eq-eqb e.name k q) refl
  | inr ne ↦ rw (ne_eqb e.name k ne) h
]

used_renamed : (k : ℕ) (e x : Name) (xs : List Name) → e.name ≡ x.name → is_used k (x ∷ xs) ≡ true → is_used k (e ∷ xs) ≡ true
used_renamed k e x xs q h = elim (cases_eq e.name k) [
  | inl p ↦ rw (eq-eqb e.name k p) refl
  | inr ne ↦ rw (ne_eqb e.name k ne) (rw (ne_eqb x.name k (λ p. ne (q ∙ p))) at h)
]

-- a used name stays so
used_stays : (k : ℕ) (e : Name) (xs : List Name) → is_used k xs ≡ true → is_used k (put e xs) ≡ true
used_stays k e [] h = absurd cc
used_stays k e (x ∷ xs) h = elim (cases_order e.name x.name) [
  | inl q ↦ rw (put-same e x xs q) (used_renamed k e x xs q h)
  | inr o ↦ elim o [
    | inl less ↦ rw (put-less e x xs less) (used_behind k e (x ∷ xs) h)
    | inr more ↦ rw (put-more e x xs more) (used_first k x xs (put e xs) (used_stays k e xs) h)
  ]
]

used_after : (k n : ℕ) (xs : List Name) → is_used k xs ≡ true → is_used k (after n xs) ≡ true
unfolding after
used_after k zero xs h = h
used_after k (suc n) xs h = used_stays k (fresh (unused_from 1 (after n xs))) (after n xs) (used_after k n xs h)

not_both : (b : Bool) → b ≡ true → b ≡ false → ⊥
not_both b t f = cc

module _ (xs : List Name) (end : ℕ) (r : Rise 1 xs end) where
  next_unused : (n : ℕ) → is_used (unused_from 1 (after n xs)) (after n xs) ≡ false
  next_unused n = ap is_some (unused_not_used 1 (after n xs) (end + n) (rise-after n xs end r))

  many : (n : ℕ) → length (given n xs) ≡ n
  unfolding given
  many zero = refl
  many (suc n) = omega (arith, length-append (given n xs) (unused_from 1 (after n xs) ∷ []), many n)

  unused : (n : ℕ) → All (λ m. is_used m xs ≡ false) (given n xs)
  unfolding given
  unused zero = All-nil (λ m. is_used m xs ≡ false)
  unused (suc n) =
      let next = unused_from 1 (after n xs) in
      All-push (λ m. is_used m xs ≡ false) (given n xs) next (unused n) (false_by (is_used next xs) (is_used next (after n xs)) (used_after next n xs) (next_unused n))

  used : (n : ℕ) → All (λ m. is_used m (after n xs) ≡ true) (given n xs)
  unfolding after given
  used zero = All-nil (λ m. is_used m xs ≡ true)
  used (suc n) =
      let next = unused_from 1 (after n xs) in
      let now : List Name = put (fresh next) (after n xs) in
      All-push (λ m. is_used m now ≡ true) (given n xs) next (All-weaker (λ m. is_used m (after n xs) ≡ true) (λ m. is_used m now ≡ true) (λ m h. used_stays m (fresh next) (after n xs) h) (given n xs) (used n)) (used_put (fresh next) (after n xs))

  smaller : (n : ℕ) → All (λ m. (k : ℕ) → 1 ≤ k → k < m → is_used k (after n xs) ≡ true) (given n xs)
  unfolding after given
  smaller zero = All-nil (λ m. (k : ℕ) → 1 ≤ k → k < m → is_used k xs ≡ true)
  smaller (suc n) =
      let next = unused_from 1 (after n xs) in
      let now : List Name = put (fresh next) (after n xs) in
      All-push (λ m. (k : ℕ) → 1 ≤ k → k < m → is_used k now ≡ true) (given n xs) next (All-weaker (λ m. (k : ℕ) → 1 ≤ k → k < m → is_used k (after n xs) ≡ true) (λ m. (k : ℕ) → 1 ≤ k → k < m → is_used k now ≡ true) (λ m f k l h. used_stays k (fresh next) (after n xs) (f k l h)) (given n xs) (smaller n)) (λ k l h. used_stays k (fresh next) (after n xs) (smaller_used 1 k (after n xs) (end + n) (rise-after n xs end r) l h))

  before_next : (n m : ℕ) → is_used m (after n xs) ≡ true → ((k : ℕ) → 1 ≤ k → k < m → is_used k (after n xs) ≡ true) → m < unused_from 1 (after n xs)
  before_next n m here f = elim (cases_order m (unused_from 1 (after n xs))) [
    | inl q ↦ absurd (not_both (is_used m (after n xs)) here (ap (λ k. is_used k (after n xs)) q ∙ next_unused n))
    | inr o ↦ elim o [
      | inl less ↦ less
      | inr more ↦ absurd (not_both (is_used (unused_from 1 (after n xs)) (after n xs)) (f (unused_from 1 (after n xs)) (low-unused 1 (after n xs)) more) (next_unused n))
    ]
  ]

  rising : (n : ℕ) → AllPairs (λ a b. a < b) (given n xs)
  unfolding given
  rising zero = λ i j d h l. absurd (omega arith)
  rising (suc n) = all_pairs_push (λ a b. a < b) (given n xs) (unused_from 1 (after n xs)) (rising n) (λ k d h. before_next n (get_or (given n xs) k d) (All-get_or (λ m. is_used m (after n xs) ≡ true) (given n xs) k d h (used n)) (All-get_or (λ m. (k : ℕ) → 1 ≤ k → k < m → is_used k (after n xs) ≡ true) (given n xs) k d h (smaller n)))

pub gives_the_smallest : GivesTheSmallest
gives_the_smallest n end xs r = record {
  many = many xs end r n;
  rising = rising xs end r n;
  unused = unused xs end r n;
  used = used xs end r n;
  smaller = smaller xs end r n;
  back = taken_back n xs end r;
}
