-- The places of a display's handles, by their numbers.
use Rattle.std.proofs.Common.{◌≡◌, ℕ, ◌+◌, ◌-◌, ◌<◌, ◌≤◌, ◌⊎◌, Bool, true, false, ◌==◌, if◌then◌else◌, List, [], ◌∷◌, ◌++◌, filter, length, slice_get, Option, None, Some, IsSome, is_some, refl, sym, ◌∙◌, ap, subst, arith, inl, inr, nat_eq}
use Rattle.std.specs.Cmp.{nat_eq_equiv}
use Rattle.std.specs.List.{IsDistinct}
use Rattle.std.specs.Map.{keys_of, lookup}
use Rattle.std.specs.Option.{option_flatten, option_map, option_or, option_to_list}
use Rattle.std.proofs.lemmas.Bool.{cases_eq, ne_eqb, eq-eqb}
use Rattle.std.proofs.lemmas.List.{append-nil, length-append, map-append}
use Rattle.std.proofs.lemmas.Map.Entries.{lookup-filter-values, option_filter}
use Rattle.display_table.specs.declared.handles.Handle.{Handle}
use Rattle.display_table.specs.Tables.{at_number, IsLast, NumbersRise, Places}

one_of : (b : Bool) → (b ≡ true) ⊎ (b ≡ false)
one_of true = inl refl
one_of false = inr refl

-- numbers that rise

pub rise-more : (low : ℕ) (ns : List ℕ) (m n : ℕ) → m ≤ n → NumbersRise low ns m → NumbersRise low ns n
unfolding NumbersRise
rise-more low [] m n l r = omega (arith, l, r)
rise-more low (k ∷ ks) m n l r = (r.0, rise-more (k + 1) ks m n l r.1)

rise-less : (m n : ℕ) (ns : List ℕ) (end : ℕ) → m ≤ n → NumbersRise n ns end → NumbersRise m ns end
unfolding NumbersRise
rise-less m n [] end l r = omega (arith, l, r)
rise-less m n (k ∷ ks) end l r = (omega (arith, l, r.0), r.1)

rise-push : (low : ℕ) (ns : List ℕ) (n : ℕ) → NumbersRise low ns n → NumbersRise low (ns ++ n ∷ []) (n + 1)
unfolding NumbersRise
rise-push low [] n r = (r, omega arith)
rise-push low (k ∷ ks) n r = (r.0, rise-push (k + 1) ks n r.1)

-- the last number is greater than all others
rise-front : (low : ℕ) (ns : List ℕ) (n end : ℕ) → NumbersRise low (ns ++ n ∷ []) end → NumbersRise low ns n × (n < end)
unfolding NumbersRise
rise-front low [] n end r = (r.0, omega (arith, r.1))
rise-front low (k ∷ ks) n end r = let more = rise-front (k + 1) ks n end r.1 in ((r.0, more.0), more.1)

rise_low : (low : ℕ) (ns : List ℕ) (end : ℕ) → NumbersRise low ns end → low ≤ end
unfolding NumbersRise
rise_low low [] end r = r
rise_low low (k ∷ ks) end r = let more = rise_low (k + 1) ks end r.1 in omega (arith, r.0, more)

rise-filter : (p : ℕ × Option Handle → Bool) (low : ℕ) (es : Places) (end : ℕ) → NumbersRise low (keys_of es) end → NumbersRise low (keys_of (filter p es)) end
unfolding NumbersRise
rise-filter p low [] end r = r
rise-filter p low (e ∷ es) end r = elim (one_of (p e)) [
  | inl q ↦ rw q (r.0, rise-filter p (e.0 + 1) es end r.1)
  | inr q ↦ rw q (rise-less low (e.0 + 1) (keys_of (filter p es)) end (omega (arith, r.0)) (rise-filter p (e.0 + 1) es end r.1))
]

-- nothing stands beyond the last number

pub missing : (low : ℕ) (es : Places) (n end : ℕ) → NumbersRise low (keys_of es) end → end ≤ n → lookup (nat_eq n) es ≡ None
unfolding NumbersRise
missing low [] n end r l = refl
missing low (e ∷ es) n end r l =
    let high = rise_low (e.0 + 1) (keys_of es) end r.1 in
    rw (ne_eqb n e.0 (λ q. absurd (omega (arith, q, high, l)))) (missing (e.0 + 1) es n end r.1 l)

pub beyond_places : (low : ℕ) (es : Places) (n end : ℕ) → NumbersRise low (keys_of es) end → end ≤ n → at_number es n ≡ None
unfolding at_number
beyond_places low es n end r l = ap option_flatten (missing low es n end r l)

pub none_there : (g : ℕ → Option Handle) (n : ℕ) → g n ≡ None → (k : ℕ) → g k ≡ (if k == n then None else g k)
none_there g n e k = elim (cases_eq k n) [
  | inl q ↦ rw (eq-eqb k n q) (ap g q ∙ e)
  | inr ne ↦ rw (ne_eqb k n ne) refl
]

-- a last place

lookup-push : (es : Places) (e : ℕ × Option Handle) (n : ℕ) → lookup (nat_eq n) (es ++ e ∷ []) ≡ option_or (lookup (nat_eq n) es) (if nat_eq n e.0 then Some e.1 else None)
lookup-push [] e n = refl
lookup-push (x ∷ es) e n = elim (one_of (nat_eq n x.0)) [
  | inl q ↦ rw q refl
  | inr q ↦ rw q (lookup-push es e n)
]

or-empty : (o : Option (Option Handle)) (b : Bool) (h : Option Handle) → h ≡ None → option_flatten (option_or o (if b then Some h else None)) ≡ option_flatten o
or-empty (Some x) b h e = refl
or-empty None true h e = e
or-empty None false h e = refl

or-nothing : (o : Option (Option Handle)) → option_flatten (option_or o None) ≡ option_flatten o
or-nothing (Some x) = refl
or-nothing None = refl

at_number-empty : (es : Places) (e : ℕ × Option Handle) (n : ℕ) → e.1 ≡ None → at_number (es ++ e ∷ []) n ≡ at_number es n
unfolding at_number
at_number-empty es e n gone = ap option_flatten (lookup-push es e n) ∙ or-empty (lookup (nat_eq n) es) (nat_eq n e.0) e.1 gone

at_number-push : (es : Places) (e : ℕ × Option Handle) (n : ℕ) → NumbersRise 3 (keys_of es) e.0 → at_number (es ++ e ∷ []) n ≡ (if n == e.0 then e.1 else at_number es n)
unfolding at_number
at_number-push es e n r = ap option_flatten (lookup-push es e n) ∙ elim (cases_eq n e.0) [
  | inl q ↦ rw (eq-eqb n e.0 q, missing 3 es n e.0 r (omega (arith, q))) refl
  | inr ne ↦ rw (ne_eqb n e.0 ne) (or-nothing (lookup (nat_eq n) es))
]

pub rises-push : (es fs : Places) (k : ℕ) (h : Option Handle) → fs ≡ es ++ (k, h) ∷ [] → NumbersRise 3 (keys_of es) k → NumbersRise 3 (keys_of fs) (k + 1)
rises-push es fs k h e r = rw (e, map-append (λ (p : ℕ × Option Handle). p.0) es ((k, h) ∷ [])) (rise-push 3 (keys_of es) k r)

rises-front : (es fs : Places) (e : ℕ × Option Handle) (end : ℕ) → es ≡ fs ++ e ∷ [] → NumbersRise 3 (keys_of es) end → NumbersRise 3 (keys_of fs) e.0 × (e.0 < end)
rises-front es fs e end is r = rise-front 3 (keys_of fs) e.0 end (subst (λ ns. NumbersRise 3 ns end) (ap keys_of is ∙ map-append (λ (p : ℕ × Option Handle). p.0) fs (e ∷ [])) r)

pub rises-pop : (es fs : Places) (e : ℕ × Option Handle) (end : ℕ) → es ≡ fs ++ e ∷ [] → NumbersRise 3 (keys_of es) end → NumbersRise 3 (keys_of fs) end
rises-pop es fs e end is r =
    let front = rises-front es fs e end is r in
    rise-more 3 (keys_of fs) e.0 end (omega (arith, front.1)) front.0

-- the last handle, taken
pub last_taken : (es fs : Places) (e : ℕ × Option Handle) (h : Handle) (end : ℕ) → es ≡ fs ++ e ∷ [] → e.1 ≡ Some h → NumbersRise 3 (keys_of es) end → IsLast (at_number es) (at_number fs) h
last_taken es fs e h end is some r =
    let front = (rises-front es fs e end is r).0 in
    let with_last : (n : ℕ) → at_number es n ≡ (if n == e.0 then e.1 else at_number fs n) = λ n. ap (λ l. at_number l n) is ∙ at_number-push fs e n front in
    record {
      number = e.0;
      found = with_last e.0 ∙ rw (eq-eqb e.0 e.0 refl) some;
      last = λ n l. with_last n ∙ rw (ne_eqb n e.0 (λ q. absurd (omega (arith, q, l)))) (beyond_places 3 fs n e.0 front (omega (arith, l)));
      rest = λ n. elim (cases_eq n e.0) [
        | inl q ↦ rw (eq-eqb n e.0 q) (beyond_places 3 fs n e.0 front (omega (arith, q)))
        | inr ne ↦ rw (ne_eqb n e.0 ne) (sym (with_last n ∙ rw (ne_eqb n e.0 ne) refl))
      ];
    }

none_from : (h : Option Handle) → is_some h ≡ false → h ≡ None
none_from None e = refl
none_from (Some x) e = absurd (let no : true ≡ false = e in cc)

slice_get-push : (es : Places) (e : ℕ × Option Handle) → slice_get (es ++ e ∷ []) (length es) ≡ Some e
slice_get-push [] e = refl
slice_get-push (x ∷ es) e = slice_get-push es e

-- the same places without the last, which has no handle
pub record FromPop (start es : Places) : Type 0 where
  pub same : (n : ℕ) → at_number es n ≡ at_number start n
  pub rise : (end : ℕ) → NumbersRise 3 (keys_of start) end → NumbersRise 3 (keys_of es) end

pub pop_more : (start es fs : Places) (e : ℕ × Option Handle) → es ≡ fs ++ e ∷ [] → e.1 ≡ None → FromPop start es → FromPop start fs
pop_more start es fs e is gone f = record {
  same = λ n. sym (ap (λ l. at_number l n) is ∙ at_number-empty fs e n gone) ∙ f.same n;
  rise = λ end r. rises-pop es fs e end is (f.rise end r);
}

pub last-from_same : (f g f' : ℕ → Option Handle) (h : Handle) → ((n : ℕ) → g n ≡ f n) → IsLast g f' h → IsLast f f' h
last-from_same f g f' h same l = record {
  number = l.number;
  found = sym (same l.number) ∙ l.found;
  last = λ n m. sym (same n) ∙ l.last n m;
  rest = λ n. l.rest n ∙ rw (same n) refl;
}

-- what came off the end is what stood there, and has no handle
pub pop_empty : (start es fs : Places) (o : Option (ℕ × Option Handle)) (k : ℕ) (h : Option Handle) → es ≡ fs ++ option_to_list o → IsSome o → Some (k, h) ≡ slice_get es (length es - 1) → is_some h ≡ false → FromPop start es → FromPop start fs
pop_empty start es fs None k h is s at gone f = absurd (let no : false ≡ true = s in cc)
pop_empty start es fs (Some e) k h is s at gone f =
    let place : length es - 1 ≡ length fs = omega (arith, ap (λ (l : Places). length l) is, length-append fs (e ∷ [])) in
    let last : slice_get es (length es - 1) ≡ Some e = rw (place, is) (slice_get-push fs e) in
    let same : h ≡ e.1 = ap (λ (p : Option (ℕ × Option Handle)). option_flatten (option_map (λ q. q.1) p)) (at ∙ last) in
    pop_more start es fs e is (none_from e.1 (ap is_some (sym same) ∙ gone)) f

at_number-nil : (n : ℕ) → at_number [] n ≡ None
unfolding at_number
at_number-nil n = refl

-- no place is left
pub none_left : (start es fs gs : Places) → (0 < length es → ⊥) → es ≡ fs ++ [] → gs ≡ fs → FromPop start es → (n : ℕ) → (at_number start n ≡ None) × (at_number gs n ≡ None)
none_left start [] fs gs none is same f n = (sym (f.same n) ∙ at_number-nil n, rw (same ∙ sym (append-nil fs) ∙ sym is) (at_number-nil n))
none_left start (e ∷ es) fs gs none is same f n = absurd (none (omega arith))

-- a place that is found or written

pub at_number-lookup : (es : Places) (n : ℕ) (o : Option (Option Handle)) → o ≡ lookup (nat_eq n) es → at_number es n ≡ option_flatten o
unfolding at_number
at_number-lookup es n o e = ap option_flatten (sym e)

pub written : (es fs : Places) (k : ℕ) (h : Option Handle) → ((q : ℕ) → lookup (nat_eq q) fs ≡ (if nat_eq k q then Some h else lookup (nat_eq q) es)) → (n : ℕ) → at_number fs n ≡ (if n == k then h else at_number es n)
unfolding at_number
written es fs k h u n = ap option_flatten (u n) ∙ elim (cases_eq n k) [
  | inl q ↦ rw (eq-eqb n k q, eq-eqb k n (sym q)) refl
  | inr ne ↦ rw (ne_eqb n k ne, ne_eqb k n (λ q. ne (sym q))) refl
]

-- empty places, left out

full : (o : Option (Option Handle)) → option_flatten (option_filter is_some o) ≡ option_flatten o
full None = refl
full (Some None) = refl
full (Some (Some h)) = refl

pub at_number-filter : (es : Places) → IsDistinct nat_eq (keys_of es) → (n : ℕ) → at_number (filter (λ (e : ℕ × Option Handle). is_some e.1) es) n ≡ at_number es n
unfolding at_number
at_number-filter es d n = ap option_flatten (lookup-filter-values nat_eq_equiv is_some n es d) ∙ full (lookup (nat_eq n) es)

pub rises-filter : (es : Places) (end : ℕ) → NumbersRise 3 (keys_of es) end → NumbersRise 3 (keys_of (filter (λ (e : ℕ × Option Handle). is_some e.1) es)) end
rises-filter es end r = rise-filter (λ (e : ℕ × Option Handle). is_some e.1) 3 es end r
