-- The triples that have an object are as many as its references from objects, handles and threads.
use Rattle.std.proofs.Common.{◌≡◌, ℕ, ◌+◌, Bool, ◌==◌, cond, List, [], ◌∷◌, ◌++◌, map, refl, sym, ap, arith, Option, None, Some}
use Rattle.std.proofs.lemmas.List.Sums.{sum_by-append, sum_by-cons}
use Rattle.std.specs.List.{count_by, flat_map}
use Rattle.std.specs.Prelude.{option_to_list}
use Rattle.display_table.specs.declared.handles.Handle.{Handle}
use Rattle.driver_objects.specs.declared.objects.Object.{Object}
use Rattle.egl_model.specs.declared.records.Bound.{Bound}
use Rattle.egl_model.specs.declared.records.ThreadRecord.{ThreadRecord}
use Rattle.model_laws.specs.Refs.{Holder, Triple, bound_in, by_object, by_thread, handle_ref, in_slot, in_slots, object_refs, refs, thread_refs}
use Rattle.model_laws.specs.Shapes.{slots_in}
use Rattle.model_laws.specs.Slots.{Slot, ends}
use Rattle.egl_model.specs.State.{State}
use Rattle.model_laws.proofs.References.WholeSweep.{edges_as_ends}
use Rattle.egl_model.specs.Sweep.{bound_object, edges_in, held_by, references, roots}
use Rattle.object_table.specs.Tables.{references_to}
use Rattle.ref_store.specs.Counts.{times}
use Rattle.ref_store.proofs.CountLaws.{times_append, times_none}
use Rattle.driver_facts.specs.Counts.{count_of}
use Rattle.driver_facts.proofs.RootLaws.{objects_of, times_roots}

abbrev has : ℕ → Triple → Bool
has n x = x.object == n

abbrev having : ℕ → List Triple → ℕ
having n xs = count_by (has n) xs

having_cons : (n : ℕ) (x : Triple) (xs : List Triple) → having n (x ∷ xs) ≡ cond (has n x) 1 0 + having n xs
having_cons n x xs = sum_by-cons (λ y. cond (has n y) 1 0) x xs

having_append : (n : ℕ) (xs ys : List Triple) → having n (xs ++ ys) ≡ having n xs + having n ys
having_append n xs ys = sum_by-append (λ y. cond (has n y) 1 0) xs ys

times_cons : (n m : ℕ) (ms : List ℕ) → times n (m ∷ ms) ≡ cond (m == n) 1 0 + times n ms
unfolding times
times_cons n m ms = sum_by-cons (λ x. cond (x == n) 1 0) m ms

in_handles : (n : ℕ) (hs : List Handle) → having n (map handle_ref hs) ≡ times n (objects_of hs)
in_handles n [] = sym (times_none n)
in_handles n (h ∷ hs) = omega (arith, having_cons n (handle_ref h) (map handle_ref hs), times_cons n h.object (objects_of hs), in_handles n hs)

in_wait : (n : ℕ) (h : Holder) (i : ℕ) (w : Option ℕ) → having n (in_slot h i w) ≡ times n (option_to_list w)
in_wait n h i None = sym (times_none n)
in_wait n h i (Some s) = omega (arith, having_cons n (record { holder = h; slot = i; object = s }) [], times_cons n s [], times_none n)

in_edges : (n : ℕ) (h : Holder) (xs : List Slot) → having n (in_slots h xs) ≡ times n (ends xs)
unfolding in_slots
in_edges n h [] = sym (times_none n)
in_edges n h (x ∷ xs) = omega (arith, having_append n (in_slot h x.place x.to) (in_slots h xs), in_wait n h x.place x.to, in_edges n h xs, times_append n (option_to_list x.to) (ends xs))

in_objects : (n k : ℕ) (os : List (Option Object)) → having n (object_refs k os) ≡ references_to n os
unfolding object_refs references_to
in_objects n k [] = refl
in_objects n k (o ∷ os) = omega (arith, having_append n (in_slots (by_object k) (slots_in o)) (object_refs (k + 1) os), in_edges n (by_object k) (slots_in o), ap (times n) (edges_as_ends o), in_objects n (k + 1) os, sum_by-cons (λ x. times n (edges_in x)) o os)

in_bound : (n : ℕ) (h : Holder) (i : ℕ) (b : Option Bound) → having n (in_slot h i (bound_in b)) ≡ times n (bound_object b)
in_bound n h i None = sym (times_none n)
in_bound n h i (Some b) = omega (arith, having_cons n (record { holder = h; slot = i; object = b.object }) [], times_cons n b.object [], times_none n)

in_record : (n t : ℕ) (r : ThreadRecord) → having n (in_slot (by_thread t) 0 (bound_in r.context) ++ in_slot (by_thread t) 1 (bound_in r.draw) ++ in_slot (by_thread t) 2 (bound_in r.read) ++ in_slot (by_thread t) 3 r.wait) ≡ times n (held_by r)
in_record n t r =
    let h = by_thread t in
    let c = in_slot h 0 (bound_in r.context) in
    let d = in_slot h 1 (bound_in r.draw) in
    let e = in_slot h 2 (bound_in r.read) in
    omega (
      arith,
      having_append n ((c ++ d) ++ e) (in_slot h 3 r.wait),
      having_append n (c ++ d) e,
      having_append n c d,
      in_bound n h 0 r.context,
      in_bound n h 1 r.draw,
      in_bound n h 2 r.read,
      in_wait n h 3 r.wait,
      times_append n ((bound_object r.context ++ bound_object r.draw) ++ bound_object r.read) (option_to_list r.wait),
      times_append n (bound_object r.context ++ bound_object r.draw) (bound_object r.read),
      times_append n (bound_object r.context) (bound_object r.draw),
    )

in_threads : (n t : ℕ) (rs : List ThreadRecord) → having n (thread_refs t rs) ≡ times n (flat_map held_by rs)
unfolding thread_refs
in_threads n t [] = sym (times_none n)
in_threads n t (r ∷ rs) =
    let h = by_thread t in
    omega (arith, having_append n (in_slot h 0 (bound_in r.context) ++ in_slot h 1 (bound_in r.draw) ++ in_slot h 2 (bound_in r.read) ++ in_slot h 3 r.wait) (thread_refs (t + 1) rs), in_record n t r, in_threads n (t + 1) rs, times_append n (held_by r) (flat_map held_by rs))

-- an object's count is that of its references
pub count_is : (n : ℕ) (s : State) → count_of s n ≡ references_to n s.objects + times n (roots s)
unfolding count_of refs
count_is n s = omega (arith, having_append n (map handle_ref s.handles ++ object_refs 0 s.objects) (thread_refs 0 s.threads), having_append n (map handle_ref s.handles) (object_refs 0 s.objects), in_handles n s.handles, in_objects n 0 s.objects, in_threads n 0 s.threads, times_roots n s.handles s.threads)

-- and so what is a sibling is found by it
pub references_counted : (n : ℕ) (s : State) → count_of s n ≡ references s n
unfolding references references_to times
references_counted n s = count_is n s
