-- Handles that are listed by their numbers.
use Rattle.std.proofs.Common.{◌≡◌, ◌≢◌, ℕ, zero, suc, ◌+◌, ◌<◌, ◌≤◌, Bool, ◌==◌, if◌then◌else◌, List, [], ◌∷◌, ◌++◌, Option, None, Some, refl, sym, ◌∙◌, ap, arith, add-one, inl, inr, IfSome}
use Rattle.std.specs.List.{filter, find, last_or}
use Rattle.std.specs.Option.{option_to_list, option_or}
use Rattle.std.proofs.lemmas.List.{append-nil}
use Rattle.std.proofs.lemmas.List.Elements.{filter-append}
use Rattle.std.proofs.lemmas.List.Folds.{find-append}
use Rattle.std.proofs.lemmas.Bool.{cases_eq, cases_lt, ne_eqb, eq-eqb}
use Rattle.display_table.specs.declared.handles.Handle.{Handle}
use Rattle.display_table.specs.Handles.{RiseFrom}
use Rattle.display_table.specs.Tables.{listed}

pub listed-same : (f g : ℕ → Option Handle) (n : ℕ) → ((k : ℕ) → k < n → f k ≡ g k) → listed f n ≡ listed g n
unfolding listed
listed-same f g zero h = refl
listed-same f g (suc n) h = rw (listed-same f g n (λ k l. h k (omega arith)), h n (omega arith)) refl

pub listed-more : (f : ℕ → Option Handle) (n : ℕ) → listed f (n + 1) ≡ listed f n ++ option_to_list (f n)
unfolding listed
listed-more f n = rw add-one refl

pub listed-none : (f : ℕ → Option Handle) (n : ℕ) → ((k : ℕ) → k < n → f k ≡ None) → listed f n ≡ []
unfolding listed
listed-none f zero h = refl
listed-none f (suc n) h = rw (listed-none f n (λ k l. h k (omega arith)), h n (omega arith)) refl

-- a filter of the list lists what a filter of each place leaves
pub filter-listed : (p : Handle → Bool) (f g : ℕ → Option Handle) (n : ℕ) → ((k : ℕ) → filter p (option_to_list (f k)) ≡ option_to_list (g k)) → filter p (listed f n) ≡ listed g n
unfolding listed
filter-listed p f g zero h = refl
filter-listed p f g (suc n) h = rw (filter-append p (listed f n) (option_to_list (f n)), filter-listed p f g n h, h n) refl

-- the handle of the last number stands last
pub listed-last : (f g : ℕ → Option Handle) (m n : ℕ) (h : Handle) → m < n → f m ≡ Some h → ((k : ℕ) → m < k → f k ≡ None) → ((k : ℕ) → g k ≡ (if k == m then None else f k)) → listed f n ≡ listed g n ++ h ∷ []
unfolding listed
listed-last f g m zero h low found last rest = absurd (omega arith)
listed-last f g m (suc n) h low found last rest =
    elim (cases_eq n m) [
      | inl e ↦
          let here : f n ≡ Some h = ap f e ∙ found in
          let gone : g n ≡ None = rest n ∙ ap (λ b. if b then None else f n) (eq-eqb n m e) in
          let below : listed f n ≡ listed g n = listed-same f g n (λ k l. sym (rest k ∙ ap (λ b. if b then None else f k) (ne_eqb k m (λ q. absurd (omega arith))))) in
          rw (here, gone, below, append-nil (listed g n)) refl
      | inr ne ↦
          let beyond : f n ≡ None = last n (omega arith) in
          let gone : g n ≡ None = rest n ∙ ap (λ b. if b then None else f n) (ne_eqb n m ne) ∙ beyond in
          rw (beyond, gone, append-nil (listed f n), append-nil (listed g n)) (listed-last f g m n h (omega arith) found last rest)
    ]

pub last_or-push : (o : Option Handle) (xs : List Handle) (h : Handle) → last_or o (xs ++ h ∷ []) ≡ Some h
last_or-push o [] h = refl
last_or-push o (x ∷ xs) h = last_or-push (Some x) xs h

find-none : (p : Handle → Bool) (f : ℕ → Option Handle) (n : ℕ) → ((k : ℕ) → k < n → find p (option_to_list (f k)) ≡ None) → find p (listed f n) ≡ None
unfolding listed
find-none p f zero h = refl
find-none p f (suc n) h = rw (find-append p (listed f n) (option_to_list (f n)), find-none p f n (λ k l. h k (omega arith)), h n (omega arith)) refl

option_or-none : (o : Option Handle) → option_or o None ≡ o
option_or-none None = refl
option_or-none (Some h) = refl

-- a search that only one number answers
pub find-listed : (p : Handle → Bool) (f : ℕ → Option Handle) (m n : ℕ) → ((k : ℕ) → k ≢ m → find p (option_to_list (f k)) ≡ None) → (n ≤ m → f m ≡ None) → find p (listed f n) ≡ find p (option_to_list (f m))
unfolding listed
find-listed p f m zero others out = rw (out (omega arith)) refl
find-listed p f m (suc n) others out =
    rw (find-append p (listed f n) (option_to_list (f n))) (elim (cases_eq n m) [
      | inl e ↦ rw (find-none p f n (λ k l. others k (λ q. absurd (omega arith)))) (ap (λ k. find p (option_to_list (f k))) e)
      | inr ne ↦ rw (others n ne, option_or-none (find p (listed f n))) (find-listed p f m n others (λ l. out (omega arith)))
    ])

rise-weaken : (low : ℕ) (xs : List Handle) (m n : ℕ) → RiseFrom low xs m → m ≤ n → RiseFrom low xs n
rise-weaken low [] m n r l = omega arith
rise-weaken low (x ∷ xs) m n r l = (r.0, rise-weaken (x.number + 1) xs m n r.1 l)

rise-push : (low : ℕ) (xs : List Handle) (h : Handle) (m n : ℕ) → RiseFrom low xs m → m ≤ h.number → h.number + 1 ≤ n → RiseFrom low (xs ++ h ∷ []) n
rise-push low [] h m n r l e = (omega arith, e)
rise-push low (x ∷ xs) h m n r l e = (r.0, rise-push (x.number + 1) xs h m n r.1 l e)

pub record IsNumbered (low n : ℕ) (h : Handle) : Type 0 where
  pub number : h.number ≡ n
  pub high : low ≤ n

rise-option : (low : ℕ) (xs : List Handle) (n : ℕ) (o : Option Handle) → RiseFrom low xs n → IfSome o (IsNumbered low n) → RiseFrom low (xs ++ option_to_list o) (suc n)
rise-option low xs n None r i = rw (append-nil xs) (rise-weaken low xs n (suc n) r (omega arith))
rise-option low xs n (Some h) r i = rise-push low xs h n (suc n) r (omega arith) (omega arith)

below_none : (low k : ℕ) (o : Option Handle) → k < low → IfSome o (IsNumbered low k) → o ≡ None
below_none low k None l i = refl
below_none low k (Some h) l i = absurd (omega arith)

pub rise-listed : (low : ℕ) (f : ℕ → Option Handle) (n : ℕ) → ((k : ℕ) → IfSome (f k) (IsNumbered low k)) → low ≤ n → RiseFrom low (listed f n) n
unfolding listed
rise-listed low f zero each l = l
rise-listed low f (suc n) each l =
    elim (cases_lt n low) [
      | inl s ↦ rw (listed-none f n (λ k q. below_none low k (f k) (omega arith) (each k)), below_none low n (f n) s (each n)) l
      | inr s ↦ rise-option low (listed f n) n (f n) (rise-listed low f n each s) (each n)
    ]
