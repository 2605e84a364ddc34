-- The padded list of records.
use Rattle.std.proofs.Common.{◌≡◌, ℕ, ◌<◌, ◌≤◌, length-append, ◌-◌, ◌+◌, ◌||◌, Bool, false, List, ◌++◌, length, set, get_or, refl, sym, ap, ◌∙◌, replicate, length-set, zero, suc, arith, [], ◌∷◌, lit<, map}
use Rattle.egl_model.specs.Contexts.{draws_with, is_drawn_with}
use Rattle.std.proofs.lemmas.List.{append_assoc, set-append_left, get_or_append_left, append-nil}
use Rattle.std.proofs.lemmas.List.Folds.{list_any-append}
use Rattle.std.proofs.lemmas.Grind.{flat_map-append}
use Rattle.std.specs.List.{list_any, flat_map}
use Rattle.egl_calls.proofs.Truths.{or_false}
use Rattle.display_table.specs.declared.handles.Handle.{Handle}
use Rattle.egl_model.specs.declared.records.ThreadRecord.{ThreadRecord}
use Rattle.egl_model.specs.State.{initial, capacity}
use Rattle.egl_model.specs.Currents.{has_context, has_surface, others, is_context_elsewhere, is_surface_elsewhere}
use Rattle.egl_model.specs.Sweep.{held_by, roots_of}
use Rattle.driver_facts.specs.Threads.{padded}

pub padded_set : (rs : List ThreadRecord) (t : ℕ) (r : ThreadRecord) → t < length rs → padded (set rs t r) ≡ set (padded rs) t r
unfolding padded
padded_set rs t r h = ap (λ n. set rs t r ++ replicate (capacity - n) initial) (length-set rs t r) ∙ sym (set-append_left rs _ t r h)

pub get_or_padded : (rs : List ThreadRecord) (t : ℕ) (r : ThreadRecord) → t < length rs → get_or (padded rs) t r ≡ get_or rs t r
unfolding padded
get_or_padded rs t r h = get_or_append_left rs _ r t h

some_room : 0 < capacity
unfolding capacity
some_room = lit< tt

one_and_rest : (n : ℕ) → 0 < n → (initial ∷ []) ++ replicate (n - 1) initial ≡ replicate n initial
one_and_rest zero h = absurd (omega arith)
one_and_rest (suc n) h = let e : suc n - 1 ≡ n = omega arith in rw e refl

-- one initial thread
pub padded_one : padded (initial ∷ []) ≡ replicate capacity initial
unfolding padded
padded_one = one_and_rest capacity some_room

-- an initial record holds nothing, so the records of threads that were never made are no roots
hold_nothing : (n : ℕ) → flat_map held_by (replicate n initial) ≡ []
hold_nothing zero = refl
hold_nothing (suc n) = hold_nothing n

pub roots_padded : (hs : List Handle) (rs : List ThreadRecord) → roots_of hs rs ≡ roots_of hs (padded rs)
unfolding roots_of padded
roots_padded hs rs =
    ap (λ xs. map (λ (h : Handle). h.object) hs ++ xs)
    (sym (flat_map-append held_by rs (replicate (capacity - length rs) initial)
    ∙ ap (λ xs. flat_map held_by rs ++ xs) (hold_nothing (capacity - length rs))
    ∙ append-nil _))

-- a test that initial records don't pass
none_pass : (p : ThreadRecord → Bool) (n : ℕ) → p initial ≡ false → list_any p (replicate n initial) ≡ false
none_pass p zero e = refl
none_pass p (suc n) e = ap (λ b. b || list_any p (replicate n initial)) e ∙ none_pass p n e

any_padded : (p : ThreadRecord → Bool) (rs : List ThreadRecord) → p initial ≡ false → list_any p (padded rs) ≡ list_any p rs
unfolding padded
any_padded p rs e = list_any-append p rs _ ∙ ap (λ b. list_any p rs || b) (none_pass p _ e) ∙ or_false _

any_other : (p : ThreadRecord → Bool) (rs : List ThreadRecord) (t : ℕ) → t < length rs → p initial ≡ false → list_any p (others rs t) ≡ list_any p (others (padded rs) t)
any_other p rs t h e = sym (any_padded p (others rs t) e) ∙ ap (list_any p) (padded_set rs t initial h)

pub context_elsewhere_padded : (rs : List ThreadRecord) (t n : ℕ) → t < length rs → list_any (has_context n) (others rs t) ≡ is_context_elsewhere (padded rs) t n
unfolding is_context_elsewhere
context_elsewhere_padded rs t n h = any_other (has_context n) rs t h refl

pub surface_elsewhere_padded : (rs : List ThreadRecord) (t n : ℕ) → t < length rs → list_any (has_surface n) (others rs t) ≡ is_surface_elsewhere (padded rs) t n
unfolding is_surface_elsewhere
surface_elsewhere_padded rs t n h = any_other (has_surface n) rs t h refl

pub drawn_padded : (rs : List ThreadRecord) (n : ℕ) → list_any (draws_with n) rs ≡ is_drawn_with (padded rs) n
unfolding is_drawn_with
drawn_padded rs n = sym (any_padded (draws_with n) rs refl)

pub length_padded : (rs : List ThreadRecord) → length rs ≤ length (padded rs)
unfolding padded
length_padded rs = omega (arith, length-append rs (replicate (capacity - length rs) initial))

-- one initial record more is one fewer to pad with
pub padded_more : (rs : List ThreadRecord) → length rs < capacity → padded (rs ++ initial ∷ []) ≡ padded rs
unfolding padded
padded_more rs h =
    append_assoc rs (initial ∷ []) _
    ∙ ap (λ xs. rs ++ xs) (ap (λ n. initial ∷ replicate n initial) (ap (λ n. capacity - n) (length-append rs (initial ∷ [])) ∙ fewer capacity (length rs)) ∙ one_and_rest (capacity - length rs) (left capacity (length rs) h))
  where
    fewer : (k n : ℕ) → k - (n + 1) ≡ (k - n) - 1
    fewer k n = omega arith

    left : (k n : ℕ) → n < k → 0 < k - n
    left k n h = omega arith
