-- Fences that are listed by their numbers.
use Rattle.std.proofs.Common.{◌≡◌, ◌≢◌, ℕ, zero, suc, ◌+◌, ◌<◌, ◌≤◌, Bool, true, false, not, ◌==◌, if◌then◌else◌, [], ◌∷◌, ◌++◌, Option, None, Some, refl, sym, ◌∙◌, ap, arith, add-one, inl, inr, IfSome, map, subst}
use Rattle.std.specs.List.{filter, find}
use Rattle.std.specs.Option.{option_to_list, option_or, option_map, is_some}
use Rattle.std.proofs.lemmas.List.{map-append}
use Rattle.std.proofs.lemmas.List.Elements.{filter-append}
use Rattle.std.proofs.lemmas.List.Folds.{find-append}
use Rattle.std.proofs.lemmas.Bool.{cases_eq, ne_eqb, eq-eqb, le-ltb, lt-ltb}
use Rattle.egl_calls.proofs.Truths.{or_true}
use Rattle.fence_sync.specs.declared.fences.Fence.{Fence}
use Rattle.fence_sync.specs.declared.tables.Kept.{Kept}
use Rattle.fence_sync.specs.Fences.{flushed, flushed_of, is_of, is_signalled, signalled, signalled_in, signalled_one, without}
use Rattle.fence_sync.specs.Tables.{fence_of, fences_in, is_flushed, listed, marked_kept, signalled_at, AreMade}

listed-same : (f g : ℕ → Option Fence) (n : ℕ) → ((k : ℕ) → k < n → f k ≡ g k) → listed f n ≡ listed g n
unfolding listed
listed-same f g zero h = refl
listed-same f g (suc n) h = rw (listed-same f g n (λ k l. h k (omega arith)), h n (omega arith)) refl

listed-more : (f : ℕ → Option Fence) (n : ℕ) → listed f (n + 1) ≡ listed f n ++ option_to_list (f n)
unfolding listed
listed-more f n = rw add-one refl

filter-listed : (p : Fence → Bool) (f g : ℕ → Option Fence) (n : ℕ) → ((k : ℕ) → filter p (option_to_list (f k)) ≡ option_to_list (g k)) → filter p (listed f n) ≡ listed g n
unfolding listed
filter-listed p f g zero h = refl
filter-listed p f g (suc n) h = rw (filter-append p (listed f n) (option_to_list (f n)), filter-listed p f g n h, h n) refl

map-listed : (p : Fence → Fence) (f g : ℕ → Option Fence) (n : ℕ) → ((k : ℕ) → k < n → map p (option_to_list (f k)) ≡ option_to_list (g k)) → map p (listed f n) ≡ listed g n
unfolding listed
map-listed p f g zero h = refl
map-listed p f g (suc n) h = rw (map-append p (listed f n) (option_to_list (f n)), map-listed p f g n (λ k l. h k (omega arith)), h n (omega arith)) refl

find-none : (p : Fence → Bool) (f : ℕ → Option Fence) (n : ℕ) → ((k : ℕ) → k < n → find p (option_to_list (f k)) ≡ None) → find p (listed f n) ≡ None
unfolding listed
find-none p f zero h = refl
find-none p f (suc n) h = rw (find-append p (listed f n) (option_to_list (f n)), find-none p f n (λ k l. h k (omega arith)), h n (omega arith)) refl

option_or-none : (o : Option Fence) → option_or o None ≡ o
option_or-none None = refl
option_or-none (Some h) = refl

find-listed : (p : Fence → Bool) (f : ℕ → Option Fence) (m n : ℕ) → ((k : ℕ) → k ≢ m → find p (option_to_list (f k)) ≡ None) → (n ≤ m → f m ≡ None) → find p (listed f n) ≡ find p (option_to_list (f m))
unfolding listed
find-listed p f m zero others out = rw (out (omega arith)) refl
find-listed p f m (suc n) others out =
    rw (find-append p (listed f n) (option_to_list (f n))) (elim (cases_eq n m) [
      | inl e ↦ rw (find-none p f n (λ k l. others k (λ q. absurd (omega arith)))) (ap (λ k. find p (option_to_list (f k))) e)
      | inr ne ↦ rw (others n ne, option_or-none (find p (listed f n))) (find-listed p f m n others (λ l. out (omega arith)))
    ])

-- at one number

same_fence : (u w : ℕ → Option ℕ) (n : ℕ) (o : Option Kept) → ((c : ℕ) → is_flushed (u c) n ≡ is_flushed (w c) n) → fence_of u n o ≡ fence_of w n o
same_fence u w n None h = refl
same_fence u w n (Some k) h = rw (h k.context) refl

unmade : (made n : ℕ) (o : Option Kept) → IfSome o (λ k. n < made) → made ≤ n → o ≡ None
unmade made n None i l = refl
unmade made n (Some k) i l = absurd (omega arith)

no_fence : (u : ℕ → Option ℕ) (n : ℕ) (o : Option Kept) → o ≡ None → fence_of u n o ≡ None
no_fence u n o e = rw e refl

-- a fence that was noted under a context that had none unflushed is flushed still
flushed_still : (u w : ℕ → Option ℕ) (context made n : ℕ) → n < made → ((k : ℕ) → w k ≡ (if k == context then Some made else u k)) → u context ≡ None → (c : ℕ) → is_flushed (u c) n ≡ is_flushed (w c) n
flushed_still u w context made n l e none c = elim (cases_eq c context) [
  | inl q ↦
      let new : w c ≡ Some made = e c ∙ ap (λ b. if b then Some made else u c) (eq-eqb c context q) in
      let old : u c ≡ None = ap u q ∙ none in
      rw (new, old) (sym (lt-ltb n made l))
  | inr ne ↦ ap (λ o. is_flushed o n) (sym (e c ∙ ap (λ b. if b then Some made else u c) (ne_eqb c context ne)))
]

noted : (kept : ℕ → Option Kept) (u w : ℕ → Option ℕ) (context made : ℕ) → ((k : ℕ) → w k ≡ (if k == context then Some made else u k)) → u context ≡ None → fences_in kept w made ≡ fences_in kept u made
unfolding fences_in
noted kept u w context made e none = listed-same _ _ made (λ n l. sym (same_fence u w n (kept n) (flushed_still u w context made n l e none)))

same-fences : (kept more : ℕ → Option Kept) (u w : ℕ → Option ℕ) (made : ℕ) → ((n : ℕ) → more n ≡ kept n) → ((c : ℕ) → w c ≡ u c) → fences_in more w made ≡ fences_in kept u made
unfolding fences_in
same-fences kept more u w made e d = listed-same _ _ made (λ n l. rw (e n) (same_fence w u n (kept n) (λ c. ap (λ o. is_flushed o n) (d c))))

-- a new fence, which isn't flushed
pub created : (kept more : ℕ → Option Kept) (u : ℕ → Option ℕ) (context made from : ℕ) (k : Kept) → k.context ≡ context → k.is_signalled ≡ false → u context ≡ Some from → from ≤ made → ((n : ℕ) → more n ≡ (if n == made then Some k else kept n)) → fences_in more u (made + 1) ≡ fences_in kept u made ++ record { sync = made; context = context; is_signalled = false } ∷ []
unfolding fences_in
created kept more u context made from k c s e l h =
    let here : more made ≡ Some k = h made ∙ ap (λ b. if b then Some k else kept made) (eq-eqb made made refl) in
    let below : listed (λ n. fence_of u n (more n)) made ≡ listed (λ n. fence_of u n (kept n)) made = listed-same _ _ made (λ n q. ap (fence_of u n) (h n ∙ ap (λ b. if b then Some k else kept n) (ne_eqb n made (λ r. absurd (omega arith))))) in
    rw (listed-more (λ n. fence_of u n (more n)) made, below, here, c, s, e, le-ltb made from l) refl

other_number : (sync : ℕ) (u : ℕ → Option ℕ) (n : ℕ) (o : Option Kept) → n ≢ sync → find (is_of sync) (option_to_list (fence_of u n o)) ≡ None
other_number sync u n None ne = refl
other_number sync u n (Some k) ne = rw (ne_eqb n sync ne) refl

found_here : (u : ℕ → Option ℕ) (n : ℕ) (o : Option Kept) → signalled_in (find (is_of n) (option_to_list (fence_of u n o))) ≡ signalled_at u n o
found_here u n None = refl
found_here u n (Some k) = rw (eq-eqb n n refl) refl

pub signalled_found : (sync made : ℕ) (kept : ℕ → Option Kept) (u : ℕ → Option ℕ) → AreMade kept u made → is_signalled sync (fences_in kept u made) ≡ signalled_at u sync (kept sync)
unfolding fences_in
signalled_found sync made kept u t =
    ap signalled_in (find-listed (is_of sync) (λ n. fence_of u n (kept n)) sync made (λ k ne. other_number sync u k (kept k) ne) (λ l. no_fence u sync (kept sync) (unmade made sync (kept sync) (t.each sync) l)))
    ∙ found_here u sync (kept sync)

-- a context is flushed

flushed_one : (context n : ℕ) (u w : ℕ → Option ℕ) (o : Option Kept) → is_flushed (w context) n ≡ true → ((c : ℕ) → c ≢ context → w c ≡ u c) → map (flushed_of context) (option_to_list (fence_of u n o)) ≡ option_to_list (fence_of w n o)
flushed_one context n u w None h e = refl
flushed_one context n u w (Some k) h e = elim (cases_eq k.context context) [
  | inl q ↦
      let new : is_flushed (w k.context) n ≡ true = ap (λ c. is_flushed (w c) n) q ∙ h in
      rw (eq-eqb k.context context q, new, or_true k.is_signalled) refl
  | inr ne ↦ rw (ne_eqb k.context context ne, e k.context ne) refl
]

pub flushed_fences : (context made : ℕ) (kept : ℕ → Option Kept) (u w : ℕ → Option ℕ) → ((n : ℕ) → n < made → is_flushed (w context) n ≡ true) → ((c : ℕ) → c ≢ context → w c ≡ u c) → fences_in kept w made ≡ flushed context (fences_in kept u made)
unfolding fences_in
flushed_fences context made kept u w h e = sym (map-listed (flushed_of context) (λ n. fence_of u n (kept n)) (λ n. fence_of w n (kept n)) made (λ n l. flushed_one context n u w (kept n) (h n l) e))

raised_here : (made n : ℕ) (o p : Option ℕ) → n < made → p ≡ (if is_some o then Some made else None) → is_flushed p n ≡ true
raised_here made n None p l e = rw e refl
raised_here made n (Some from) p l e = rw e (lt-ltb n made l)

pub raised : (context made : ℕ) (kept : ℕ → Option Kept) (u w : ℕ → Option ℕ) → ((c : ℕ) → w c ≡ (if c == context then (if is_some (u context) then Some made else None) else u c)) → fences_in kept w made ≡ flushed context (fences_in kept u made)
raised context made kept u w e = flushed_fences context made kept u w
    (λ n l. raised_here made n (u context) (w context) l (e context ∙ ap (λ b. if b then (if is_some (u context) then Some made else None) else u context) (eq-eqb context context refl)))
    (λ c ne. e c ∙ ap (λ b. if b then (if is_some (u context) then Some made else None) else u c) (ne_eqb c context ne))

pub forgotten : (context made : ℕ) (kept : ℕ → Option Kept) (u w : ℕ → Option ℕ) → ((c : ℕ) → w c ≡ (if c == context then None else u c)) → fences_in kept w made ≡ flushed context (fences_in kept u made)
forgotten context made kept u w e = flushed_fences context made kept u w
    (λ n l. ap (λ o. is_flushed o n) (e context ∙ ap (λ b. if b then None else u context) (eq-eqb context context refl)))
    (λ c ne. e c ∙ ap (λ b. if b then None else u c) (ne_eqb c context ne))

-- a fence is signalled by itself

marked_same : (sync n : ℕ) (u : ℕ → Option ℕ) (a : Option Kept) → n ≡ sync → map (signalled_one sync) (option_to_list (fence_of u n a)) ≡ option_to_list (fence_of u n (option_map marked_kept a))
marked_same sync n u None q = refl
marked_same sync n u (Some k) q = rw (eq-eqb n sync q) refl

marked_other : (sync n : ℕ) (u : ℕ → Option ℕ) (a : Option Kept) → n ≢ sync → map (signalled_one sync) (option_to_list (fence_of u n a)) ≡ option_to_list (fence_of u n a)
marked_other sync n u None ne = refl
marked_other sync n u (Some k) ne = rw (ne_eqb n sync ne) refl

marked_at : (sync n : ℕ) (u : ℕ → Option ℕ) (a b o : Option Kept) → o ≡ (if n == sync then b else a) → (n ≡ sync → b ≡ option_map marked_kept a) → map (signalled_one sync) (option_to_list (fence_of u n a)) ≡ option_to_list (fence_of u n o)
marked_at sync n u a b o e h = elim (cases_eq n sync) [
  | inl q ↦ rw (e, eq-eqb n sync q, h q) (marked_same sync n u a q)
  | inr ne ↦ rw (e, ne_eqb n sync ne) (marked_other sync n u a ne)
]

pub marked : (sync made : ℕ) (kept more : ℕ → Option Kept) (u : ℕ → Option ℕ) → ((n : ℕ) → more n ≡ (if n == sync then option_map marked_kept (kept n) else kept n)) → fences_in more u made ≡ signalled sync (fences_in kept u made)
unfolding fences_in
marked sync made kept more u e = sym (map-listed (signalled_one sync) (λ n. fence_of u n (kept n)) (λ n. fence_of u n (more n)) made (λ n l. marked_at sync n u (kept n) (option_map marked_kept (kept n)) (more n) (e n) (λ q. refl)))

-- a fence goes

gone_same : (sync n : ℕ) (u : ℕ → Option ℕ) (a : Option Kept) → n ≡ sync → filter (λ f. not (is_of sync f)) (option_to_list (fence_of u n a)) ≡ []
gone_same sync n u None q = refl
gone_same sync n u (Some k) q = rw (eq-eqb n sync q) refl

gone_other : (sync n : ℕ) (u : ℕ → Option ℕ) (a : Option Kept) → n ≢ sync → filter (λ f. not (is_of sync f)) (option_to_list (fence_of u n a)) ≡ option_to_list (fence_of u n a)
gone_other sync n u None ne = refl
gone_other sync n u (Some k) ne = rw (ne_eqb n sync ne) refl

gone_at : (sync n : ℕ) (u : ℕ → Option ℕ) (a o : Option Kept) → o ≡ (if n == sync then None else a) → filter (λ f. not (is_of sync f)) (option_to_list (fence_of u n a)) ≡ option_to_list (fence_of u n o)
gone_at sync n u a o e = elim (cases_eq n sync) [
  | inl q ↦ rw (e, eq-eqb n sync q) (gone_same sync n u a q)
  | inr ne ↦ rw (e, ne_eqb n sync ne) (gone_other sync n u a ne)
]

pub gone : (sync made : ℕ) (kept more : ℕ → Option Kept) (u : ℕ → Option ℕ) → ((n : ℕ) → more n ≡ (if n == sync then None else kept n)) → fences_in more u made ≡ without sync (fences_in kept u made)
unfolding fences_in
gone sync made kept more u e = sym (filter-listed (λ f. not (is_of sync f)) (λ n. fence_of u n (kept n)) (λ n. fence_of u n (more n)) made (λ n. gone_at sync n u (kept n) (more n) (e n)))

pub none_made : (kept : ℕ → Option Kept) (u : ℕ → Option ℕ) → fences_in kept u 0 ≡ []
unfolding fences_in listed
none_made kept u = refl

pub has_first : (o : Option ℕ) → is_some o ≡ true → (first : ℕ) × (o ≡ Some first)
has_first None e = cc
has_first (Some first) e = (first, refl)

pub below_made : (made first : ℕ) (o : Option ℕ) → IfSome o (λ k. k ≤ made) → o ≡ Some first → first ≤ made
below_made made first None i e = cc
below_made made first (Some k) i e = let q : k ≡ first = cc in subst (λ n. n ≤ made) q i

pub has_none : (o : Option ℕ) → is_some o ≡ false → o ≡ None
has_none None e = refl
has_none (Some first) e = cc

-- a new fence of a context that has a first unflushed one
pub created_known : (kept more : ℕ → Option Kept) (u : ℕ → Option ℕ) (context made : ℕ) → AreMade kept u made → is_some (u context) ≡ true → ((n : ℕ) → more n ≡ (if n == made then Some (record { context = context; is_signalled = false }) else kept n)) → fences_in more u (made + 1) ≡ fences_in kept u made ++ record { sync = made; context = context; is_signalled = false } ∷ []
created_known kept more u context made t h e =
    let first : (n : ℕ) × (u context ≡ Some n) = has_first (u context) h in
    let k : Kept = record { context = context; is_signalled = false } in
    created kept more u context made first.0 k refl refl first.1 (below_made made first.0 (u context) (t.from context) first.1) e

-- and of one that had none
pub created_noted : (kept more : ℕ → Option Kept) (u w : ℕ → Option ℕ) (context made : ℕ) → ((k : ℕ) → w k ≡ (if k == context then Some made else u k)) → u context ≡ None → ((n : ℕ) → more n ≡ (if n == made then Some (record { context = context; is_signalled = false }) else kept n)) → fences_in more w (made + 1) ≡ fences_in kept u made ++ record { sync = made; context = context; is_signalled = false } ∷ []
created_noted kept more u w context made d none e =
    let k : Kept = record { context = context; is_signalled = false } in
    let here : w context ≡ Some made = d context ∙ ap (λ b. if b then Some made else u context) (eq-eqb context context refl) in
    created kept more w context made made k refl refl here (omega arith) e
    ∙ ap (λ fs. fs ++ record { sync = made; context = context; is_signalled = false } ∷ []) (noted kept u w context made d none)

-- a new fence is taken back
taken_back : (kept more less : ℕ → Option Kept) (u : ℕ → Option ℕ) (made : ℕ) (k : Kept) → AreMade kept u made → ((n : ℕ) → more n ≡ (if n == made then Some k else kept n)) → ((n : ℕ) → less n ≡ (if n == made then None else more n)) → (n : ℕ) → less n ≡ kept n
taken_back kept more less u made k t a b n = elim (cases_eq n made) [
  | inl q ↦ b n ∙ ap (λ c. if c then None else more n) (eq-eqb n made q) ∙ sym (unmade made n (kept n) (t.each n) (omega arith))
  | inr ne ↦ b n ∙ ap (λ c. if c then None else more n) (ne_eqb n made ne) ∙ a n ∙ ap (λ c. if c then Some k else kept n) (ne_eqb n made ne)
]

pub fences_back : (kept more less : ℕ → Option Kept) (u w : ℕ → Option ℕ) (made : ℕ) (k : Kept) → AreMade kept u made → ((n : ℕ) → more n ≡ (if n == made then Some k else kept n)) → ((n : ℕ) → less n ≡ (if n == made then None else more n)) → ((c : ℕ) → w c ≡ u c) → fences_in less w made ≡ fences_in kept u made
fences_back kept more less u w made k t a b d = same-fences kept less u w made (taken_back kept more less u made k t a b) d

pub made_back : (kept more less : ℕ → Option Kept) (u w : ℕ → Option ℕ) (made : ℕ) (k : Kept) → AreMade kept u made → ((n : ℕ) → more n ≡ (if n == made then Some k else kept n)) → ((n : ℕ) → less n ≡ (if n == made then None else more n)) → ((c : ℕ) → w c ≡ u c) → AreMade less w made
made_back kept more less u w made k t a b d = record {
  each = λ n. rw (taken_back kept more less u made k t a b n) (t.each n);
  from = λ c. rw (d c) (t.from c);
}
