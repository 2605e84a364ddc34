-- The numbers that are posted: flags of the small ones, and the others in their order.
use Rattle.std.proofs.Common.{◌≡◌, ◌≢◌, ℕ, ◌<◌, ◌≤◌, Bool, true, false, ◌&&◌, ◌||◌, List, [], ◌∷◌, ◌++◌, zero, suc, length, replicate, set, get_or-set_same, get_or-set_other, refl, sym, ap, subst, ◌∙◌, arith, Ordering, Result, Ok, Err}
use Rattle.std.proofs.lemmas.Bool.{eqb-true}
use Rattle.std.proofs.lemmas.Bool.Decides.{nat_tests}
use Rattle.std.specs.Prelude.{◌==◌, OnOk, if◌then◌else◌}
use Rattle.std.specs.List.{list_any}
use Rattle.std.specs.BTreeMap.{is_at}
use Rattle.std.specs.BTreeSet.{insert_key}
use Rattle.std.specs.Ordering.{match_ordering, nat_cmp}
use Rattle.std.specs.declared.cmp.Ordering.TheVariants.{Less, Equal, Greater}
use Rattle.egl_calls.specs.declared.entries.Entry.{Entry}
use Rattle.egl_calls.specs.declared.memory.NoMemory.{NoMemory}
use Rattle.egl_model.specs.Arguments.{number}
use Rattle.trace_model.specs.Turns.{is_post}
use Rattle.trace_session.specs.declared.posts.TheConstants.{MOST_FLAGS}
use Rattle.trace_session.specs.Learning.{IsFlaggedWith, IsPostedBy, IsPostedWith}
use Rattle.trace_session.specs.Posts.{PostsValue, has_flag, is_flagged, is_other, is_among}

or_false : (b : Bool) → (b || false) ≡ b
or_false true = refl
or_false false = refl

or_true : (b : Bool) → true ≡ (b || true)
or_true true = refl
or_true false = refl

or_swap : (a b : Bool) → (a || b) ≡ (b || a)
or_swap true true = refl
or_swap true false = refl
or_swap false true = refl
or_swap false false = refl

or_again : (a b : Bool) → (a || b) ≡ ((a || b) || a)
or_again true b = refl
or_again false true = refl
or_again false false = refl

or_apart : (a b c : Bool) → (a || (b || c)) ≡ ((a || b) || c)
or_apart true b c = refl
or_apart false b c = refl

-- ---- The others.
at_is : (n k : ℕ) → is_at (nat_cmp n) k ≡ (k == n)
at_is n k = grind (arith, nat_tests)

-- a set has the numbers that are among its keys
pub among_is : (n : ℕ) (ks : List ℕ) → list_any (is_at (nat_cmp n)) ks ≡ is_other ks n
among_is n [] = refl
among_is n (k ∷ ks) = ap (λ (b : Bool). b || list_any (is_at (nat_cmp n)) ks) (at_is n k) ∙ ap (λ (b : Bool). (k == n) || b) (among_is n ks)

-- and then the new one
inserted : (ks : List ℕ) (m n : ℕ) → is_other (insert_key nat_cmp ks m) n ≡ (is_other ks n || (m == n))
inserted [] m n = or_false (m == n)
inserted (k ∷ ks) m n = by_order (inserted ks m n) (nat_cmp m k) refl
  where
    by_order : is_other (insert_key nat_cmp ks m) n ≡ (is_other ks n || (m == n)) → (o : Ordering) → nat_cmp m k ≡ o → is_other (match_ordering o (m ∷ k ∷ ks) (k ∷ ks) (k ∷ insert_key nat_cmp ks m)) n ≡ (is_other (k ∷ ks) n || (m == n))
    by_order rest Less h = or_swap (m == n) (is_other (k ∷ ks) n)
    by_order rest Equal h =
        let same : (k == n) ≡ (m == n) = grind (arith, nat_tests, h) in
        or_again (k == n) (is_other ks n) ∙ ap (λ (b : Bool). is_other (k ∷ ks) n || b) same
    by_order rest Greater h = ap (λ (b : Bool). (k == n) || b) rest ∙ or_apart (k == n) (is_other ks n) (m == n)

-- ---- The flags.
pub widened : (flags : List Bool) (more n : ℕ) → is_flagged (flags ++ replicate more false) n ≡ is_flagged flags n
widened [] more n = none more n
  where
    none : (more n : ℕ) → is_flagged (replicate more false) n ≡ false
    none zero n = refl
    none (suc more) zero = refl
    none (suc more) (suc n) = none more n
widened (b ∷ bs) more zero = refl
widened (b ∷ bs) more (suc n) = widened bs more n

pub flagged : (old wide : List Bool) (m : ℕ) → ((n : ℕ) → is_flagged wide n ≡ is_flagged old n) → m < length wide → IsFlaggedWith old m (set wide m true)
flagged old wide m same within n = by_number (m == n) refl
  where
    by_number : (b : Bool) → (m == n) ≡ b → is_flagged (set wide m true) n ≡ (is_flagged old n || b)
    by_number true q =
        let P : ℕ → Type 0 = λ k. is_flagged (set wide m true) k ≡ true in
        subst P (eqb-true m n q) (get_or-set_same wide m true false within) ∙ or_true (is_flagged old n)
    by_number false q =
        let other : n ≢ m = grind (arith, nat_tests, q) in
        get_or-set_other wide m n true false other ∙ same n ∙ sym (or_false (is_flagged old n))

-- ---- One number more.
pub added_flag : (old new : PostsValue) (m : ℕ) → m < MOST_FLAGS → IsFlaggedWith old.flags m new.flags → new.others ≡ old.others → IsPostedWith old m new
added_flag old new m small f o n = by_flag (has_flag n) refl
  where
    by_flag : (b : Bool) → has_flag n ≡ b → (if b then is_flagged new.flags n else is_other new.others n) ≡ ((if b then is_flagged old.flags n else is_other old.others n) || (m == n))
    by_flag true h = f n
    by_flag false h =
        let apart : (m == n) ≡ false = grind (arith, nat_tests, h, small) in
        ap (λ (ks : List ℕ). is_other ks n) o ∙ sym (or_false (is_other old.others n)) ∙ ap (λ (b : Bool). is_other old.others n || b) (sym apart)

pub added_other : (old new : PostsValue) (m : ℕ) → MOST_FLAGS ≤ m → new.flags ≡ old.flags → new.others ≡ insert_key nat_cmp old.others m → IsPostedWith old m new
added_other old new m large f o n = by_flag (has_flag n) refl
  where
    by_flag : (b : Bool) → has_flag n ≡ b → (if b then is_flagged new.flags n else is_other new.others n) ≡ ((if b then is_flagged old.flags n else is_other old.others n) || (m == n))
    by_flag true h =
        let apart : (m == n) ≡ false = grind (arith, nat_tests, h, large) in
        ap (λ (fs : List Bool). is_flagged fs n) f ∙ sym (or_false (is_flagged old.flags n)) ∙ ap (λ (b : Bool). is_flagged old.flags n || b) (sym apart)
    by_flag false h = ap (λ (ks : List ℕ). is_other ks n) o ∙ inserted old.others m n

-- ---- By an entry.
posted : (old new : PostsValue) (e : Entry) → is_post e.call.kind ≡ true → IsPostedWith old (number e.call 0) new → IsPostedBy old e new
posted old new e k h n = h n ∙ ap (λ (b : Bool). is_among old n || (b && (number e.call 0 == n))) (sym k)

pub posted_if_ok : (r : Result (Unit {0}) NoMemory) (old new : PostsValue) (e : Entry) → is_post e.call.kind ≡ true → OnOk r (IsPostedWith old (number e.call 0) new) → OnOk r (IsPostedBy old e new)
posted_if_ok (Ok u) old new e k h = posted old new e k h
posted_if_ok (Err x) old new e k h = tt

pub not_posted : (old : PostsValue) (e : Entry) → is_post e.call.kind ≡ false → IsPostedBy old e old
not_posted old e k n = sym (or_false (is_among old n)) ∙ ap (λ (b : Bool). is_among old n || (b && (number e.call 0 == n))) (sym k)
