-- The contexts that made a fence and haven't ended, as the keys of a map.
use Rattle.std.proofs.Common.{◌≡◌, ℕ, Bool, true, false, cond, if◌then◌else◌, List, [], ◌∷◌, refl, sym, ap, ◌∙◌, None}
use Rattle.std.proofs.lemmas.Map.Made.{is_some-lookup}
use Rattle.std.specs.Option.{is_some}
use Rattle.std.specs.declared.cmp.Ordering.{Ordering}
use Rattle.std.specs.declared.cmp.Ordering.TheVariants.{Less, Equal, Greater}
use Rattle.std.specs.Ordering.{match_ordering, nat_cmp}
use Rattle.std.specs.Map.{keys_of, lookup, remove_entry}
use Rattle.std.specs.BTreeMap.{insert_entry, is_at}
use Rattle.std.specs.BTreeSet.{insert_key}
use Rattle.fence_sync.specs.Fences.{is_live, with_context, without_context}

pub keys_inserted : (es : List (ℕ × ℕ)) (k v : ℕ) → keys_of (insert_entry nat_cmp es k v) ≡ insert_key nat_cmp (keys_of es) k
keys_inserted [] k v = refl
keys_inserted (e ∷ es) k v = by (nat_cmp k e.0) (keys_inserted es k v)
  where
    by : (o : Ordering) → keys_of (insert_entry nat_cmp es k v) ≡ insert_key nat_cmp (keys_of es) k →
        keys_of (match_ordering o ((k, v) ∷ e ∷ es) ((e.0, v) ∷ es) (e ∷ insert_entry nat_cmp es k v)) ≡ match_ordering o (k ∷ e.0 ∷ keys_of es) (e.0 ∷ keys_of es) (e.0 ∷ insert_key nat_cmp (keys_of es) k)
    by Less h = refl
    by Equal h = refl
    by Greater h = ap (λ ks. e.0 ∷ ks) h

pub keys_removed : (es : List (ℕ × ℕ)) (k : ℕ) → keys_of (remove_entry (is_at (nat_cmp k)) es) ≡ without_context k (keys_of es)
keys_removed [] k = refl
keys_removed (e ∷ es) k = by (is_at (nat_cmp k) e.0) (keys_removed es k)
  where
    by : (b : Bool) → keys_of (remove_entry (is_at (nat_cmp k)) es) ≡ without_context k (keys_of es) →
        keys_of (cond b es (e ∷ remove_entry (is_at (nat_cmp k)) es)) ≡ cond b (keys_of es) (e.0 ∷ without_context k (keys_of es))
    by true h = refl
    by false h = ap (λ ks. e.0 ∷ ks) h

pub live_found : (es : List (ℕ × ℕ)) (k : ℕ) → is_live k (keys_of es) ≡ is_some (lookup (is_at (nat_cmp k)) es)
live_found es k = sym (is_some-lookup (is_at (nat_cmp k)) es)

-- a context that nothing is kept of
pub is_gone : (es : List (ℕ × ℕ)) (k : ℕ) → lookup (is_at (nat_cmp k)) es ≡ None → is_live k (keys_of es) ≡ false
is_gone es k e = live_found es k ∙ ap is_some e

-- the list with a context that was there, and with one that wasn't
pub joins_known : (es : List (ℕ × ℕ)) (k : ℕ) → is_some (lookup (is_at (nat_cmp k)) es) ≡ true → with_context k (keys_of es) ≡ keys_of es
joins_known es k h = ap (λ b. if b then keys_of es else insert_key nat_cmp (keys_of es) k) (live_found es k ∙ h)

pub joins_new : (es : List (ℕ × ℕ)) (k : ℕ) → is_some (lookup (is_at (nat_cmp k)) es) ≡ false → with_context k (keys_of es) ≡ insert_key nat_cmp (keys_of es) k
joins_new es k h = ap (λ b. if b then keys_of es else insert_key nat_cmp (keys_of es) k) (live_found es k ∙ h)
