-- Answers without a list, and with a name alone.
use Rattle.std.proofs.Common.{◌≡◌, ◌≢◌, ℕ, ◌≤◌, Bool, true, false, ℤ, List, [], ◌∷◌, length, get_or, refl, sym, ap, ◌∙◌, arith, Some}
use Rattle.std.proofs.lemmas.Bool.Decides.{Decides-int_eq}
use Rattle.std.proofs.lemmas.List.{get_or_past}
use Rattle.std.proofs.lemmas.Slice.Eq.{slice_eq-Decides}
use Rattle.std.specs.Cmp.Lexicographic.{pointwise}
use Rattle.std.specs.Ordering.{int_eq}
use Rattle.std.specs.Prelude.{pos, slice_index_or}
use Rattle.egl_calls.specs.Calls.{ReplyValue}
use Rattle.egl_calls.specs.Errors.{is_done}
use Rattle.egl_calls.specs.declared.errors.Outcome.{Outcome}
use Rattle.egl_calls.specs.declared.errors.Outcome.TheVariants.{Done}
use Rattle.trace_session.specs.Sessions.{kept_of}
use Rattle.trace_session.specs.Slots.{named_answer, plain_answer}

no_list : (xs : List ℤ) → length xs ≡ 0 → [] ≡ xs
no_list [] h = refl
no_list (x ∷ xs) h = absurd (omega (arith, h))

pub plain_is : (r : ReplyValue) → length r.list ≡ 0 → Some (plain_answer r.value) ≡ Some (kept_of r)
plain_is r h = ap (λ (xs : List ℤ). Some (record { outcome = Done; value = r.value; list = xs; bytes = [] })) (no_list r.list h)

one_item : (xs : List ℤ) (x : ℤ) → length xs ≡ 1 → x ≡ get_or xs 0 x → x ∷ [] ≡ xs
one_item [] x h is = absurd (omega (arith, h))
one_item (y ∷ []) x h is = ap (λ (z : ℤ). z ∷ []) is
one_item (y ∷ z ∷ zs) x h is = absurd (omega (arith, h))

pub named_is : (r : ReplyValue) (name : ℤ) → length r.list ≡ 1 → r.value ≡ pos 0 → name ≡ get_or r.list 0 name → Some (named_answer name) ≡ Some (kept_of r)
named_is r name long value is =
    ap (λ (xs : List ℤ). Some (record { outcome = Done; value = pos 0; list = xs; bytes = [] })) (one_item r.list name long is)
    ∙ ap (λ (z : ℤ). Some (record { outcome = Done; value = z; list = r.list; bytes = [] })) (sym value)

-- behind the name the list has nothing
pub unnamed : (name : ℤ) (k : ℕ) → k ≢ 0 → pos 0 ≡ slice_index_or (name ∷ []) k (pos 0)
unnamed name k other =
    let behind : 1 ≤ k = omega (arith, other) in
    sym (get_or_past (name ∷ []) k (pos 0) behind)

-- ---- An answer that was kept already.
no_bytes : (xs : List ℕ) → length xs ≡ 0 → xs ≡ []
no_bytes [] h = refl
no_bytes (x ∷ xs) h = absurd (omega (arith, h))

done_is : (o : Outcome) → is_done o ≡ true → o ≡ Done
done_is Done h = refl
done_is o h = absurd (let f : false ≡ true = h in cc)

-- what has the value and the list of a reply, and no bytes, is what is kept of it
pub same_kept : (k r : ReplyValue) (equal : Bool) → is_done k.outcome ≡ true → length k.bytes ≡ 0 → k.value ≡ r.value → equal ≡ pointwise int_eq k.list r.list → equal ≡ true → k ≡ kept_of r
same_kept k r equal done none value compared is =
    let list : k.list ≡ r.list = (slice_eq-Decides Decides-int_eq k.list r.list equal compared).0 is in
    ap (λ (o : Outcome). record { outcome = o; value = k.value; list = k.list; bytes = k.bytes }) (done_is k.outcome done)
    ∙ ap (λ (z : ℤ). record { outcome = Done; value = z; list = k.list; bytes = k.bytes }) value
    ∙ ap (λ (xs : List ℤ). record { outcome = Done; value = r.value; list = xs; bytes = k.bytes }) list
    ∙ ap (λ (bs : List ℕ). record { outcome = Done; value = r.value; list = r.list; bytes = bs }) (no_bytes k.bytes none)
