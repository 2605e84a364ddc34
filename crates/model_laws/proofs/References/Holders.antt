-- What exists is named.
use Rattle.std.proofs.Common.{◌≡◌, ℕ, suc, arith, ◌⊎◌, inl, inr, true, List, [], ◌∷◌, ◌++◌, refl, sym, ap, ◌∙◌, Option, None, Some, get_or}
use Rattle.std.specs.List.{flat_map}
use Rattle.std.specs.Option.{option_to_list}
use Rattle.std.specs.Prelude.{Contains}
use Rattle.egl_calls.specs.declared.entries.Entry.{Entry}
use Rattle.driver_objects.specs.declared.objects.Object.{Object}
use Rattle.display_table.specs.declared.handles.Handle.{Handle}
use Rattle.egl_model.specs.declared.records.Bound.{Bound}
use Rattle.egl_model.specs.declared.records.ThreadRecord.{ThreadRecord}
use Rattle.egl_model.specs.Graph.{is_in, marked}
use Rattle.surface_store.specs.Windows.{windows_ok}
use Rattle.surface_store.specs.declared.windows.WindowSpec.{WindowSpec}
use Rattle.egl_model.specs.State.{State, initial, opening, record_of}
use Rattle.model_laws.specs.Shapes.{slots_in}
use Rattle.model_laws.specs.Slots.{Slot, ends}
use Rattle.egl_model.specs.Sweep.{bound_object, edges_at, edges_in, held_by, is_reached, roots}
use Rattle.egl_model.specs.History.{replay_from}
use Rattle.model_laws.specs.Laws.{HasNoLitter}
use Rattle.egl_model.specs.Links.{is_root, refers}
use Rattle.model_laws.specs.Named.{Exists, IsBoundTo, IsHandled, IsHeldBy, IsHeldByThread, IsInSlot, IsUsed}
use Rattle.model_laws.proofs.References.GraphLaws.{any_found, is_in-flat_map}
use Rattle.model_laws.proofs.Changes.LinkedSteps.{head_or_tail, in_cases, named_by, roots_cases}
use Rattle.model_laws.proofs.References.Slots.{no_edge}
use Rattle.model_laws.proofs.References.WholeSweep.{edges_as_ends}
use Rattle.model_laws.proofs.References.LitterLaws.{no_litter-opening, no_litter-replay}

-- ---- Handles.
more_handles : (x : Handle) (hs : List Handle) (n : ℕ) → (h : Handle) × (Contains hs h) × (h.object ≡ n) → (h : Handle) × (Contains (x ∷ hs) h) × (h.object ≡ n)
more_handles x hs n r = (r.0, (suc r.1.0, omega (arith, r.1.1), r.1.2), r.2)

handle_of : (hs : List Handle) (n : ℕ) → is_in n (named_by hs) ≡ true → (h : Handle) × (Contains hs h) × (h.object ≡ n)
unfolding named_by
handle_of [] n i = no_edge n i
handle_of (x ∷ hs) n i = elim (head_or_tail n x.object (named_by hs) i) [
  | inl e ↦ (x, (0, omega arith, refl), e)
  | inr e ↦ more_handles x hs n (handle_of hs n e)
]

-- ---- Threads.
thread_of : (ts : List ThreadRecord) (n : ℕ) → is_in n (flat_map held_by ts) ≡ true → (t : ℕ) × (is_in n (held_by (get_or ts t initial)) ≡ true)
thread_of [] n i = no_edge n i
thread_of (x ∷ ts) n i = elim (in_cases n (held_by x) (flat_map held_by ts) i) [
  | inl e ↦ (0, e)
  | inr e ↦ let r = thread_of ts n e in (suc r.0, r.1)
]

bound_to : (n : ℕ) (o : Option Bound) → is_in n (bound_object o) ≡ true → IsBoundTo n o
bound_to n None i = no_edge n i
bound_to n (Some b) i = elim (head_or_tail n b.object [] i) [
  | inl e ↦ (b, refl, e)
  | inr e ↦ no_edge n e
]

waited_for : (n : ℕ) (o : Option ℕ) → is_in n (option_to_list o) ≡ true → o ≡ Some n
waited_for n None i = no_edge n i
waited_for n (Some m) i = elim (head_or_tail n m [] i) [
  | inl e ↦ ap Some e
  | inr e ↦ no_edge n e
]

held_how : (s : State) (t n : ℕ) → is_in n (held_by (record_of s t)) ≡ true → IsHeldBy s t n
held_how s t n i =
    let r = record_of s t in
    elim (in_cases n (bound_object r.context ++ bound_object r.draw ++ bound_object r.read) (option_to_list r.wait) i) [
      | inr e ↦ inr (inr (inr (waited_for n r.wait e)))
      | inl e ↦ elim (in_cases n (bound_object r.context ++ bound_object r.draw) (bound_object r.read) e) [
        | inr f ↦ inr (inr (inl (bound_to n r.read f)))
        | inl f ↦ elim (in_cases n (bound_object r.context) (bound_object r.draw) f) [
          | inl g ↦ inl (bound_to n r.context g)
          | inr g ↦ inr (inl (bound_to n r.draw g))
        ]
      ]
    ]

-- ---- Objects.
more_slots : (x : Slot) (xs : List Slot) (n : ℕ) → IsInSlot xs n → IsInSlot (x ∷ xs) n
more_slots x xs n r = (r.0, (suc r.1.0, omega (arith, r.1.1), r.1.2), r.2)

in_slot : (ls : List Slot) (n : ℕ) → is_in n (ends ls) ≡ true → IsInSlot ls n
in_slot [] n i = no_edge n i
in_slot (x ∷ xs) n i = elim (in_cases n (option_to_list x.to) (ends xs) i) [
  | inl e ↦ (x, (0, omega arith, refl), waited_for n x.to e)
  | inr e ↦ more_slots x xs n (in_slot xs n e)
]

used_by : (o : Option Object) (n : ℕ) → is_in n (edges_in o) ≡ true → IsInSlot (slots_in o) n
used_by o n i = in_slot (slots_in o) n (ap (is_in n) (sym (edges_as_ends o)) ∙ i)

-- ---- So what exists is named.
root_or_next : (s : State) (n : ℕ) → is_reached s n ≡ true → (is_root s n ≡ true) ⊎ ((m : ℕ) × (refers s m n ≡ true))
unfolding marked
root_or_next s n h = elim (in_cases n (roots s) (flat_map (edges_at s.objects) (marked (roots s) (edges_at s.objects) 3)) h) [
  | inl e ↦ inl e
  | inr e ↦ let f = any_found (λ m. is_in n (edges_at s.objects m)) (marked (roots s) (edges_at s.objects) 3) (sym (is_in-flat_map (edges_at s.objects) n (marked (roots s) (edges_at s.objects) 3)) ∙ e) in inr (f.0, f.2)
]

pub holder : (s : State) → HasNoLitter s → (n : ℕ) → Exists s n → IsHandled s n ⊎ (IsHeldByThread s n ⊎ IsUsed s n)
unfolding edges_at
holder s l n h = elim (root_or_next s n (l.each n h)) [
  | inl e ↦ elim (roots_cases s.handles s.threads n e) [
    | inl f ↦ inl (handle_of s.handles n f)
    | inr f ↦ let r = thread_of s.threads n f in inr (inl (r.0, held_how s r.0 n r.1))
  ]
  | inr e ↦ inr (inr (e.0, used_by (get_or s.objects e.0 None) n e.1))
]

pub holder-replay : (windows : List WindowSpec) → windows_ok windows ≡ true → (video : ℕ) (entries : List Entry) (n : ℕ) → Exists (replay_from (opening windows video) entries) n →
    IsHandled (replay_from (opening windows video) entries) n ⊎ (IsHeldByThread (replay_from (opening windows video) entries) n ⊎ IsUsed (replay_from (opening windows video) entries) n)
holder-replay windows ok video entries n h = holder (replay_from (opening windows video) entries) (no_litter-replay (opening windows video) entries (no_litter-opening windows ok video)) n h
