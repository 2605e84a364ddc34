-- References as triples, and what goes by a step.
use Rattle.std.specs.Prelude.{◌≡◌, ℕ, ◌+◌, Bool, true, false, ◌&&◌, ◌==◌, not, List, [], ◌∷◌, ◌++◌, length, map, Option, None, Some}
use Rattle.std.specs.List.{sum_by, count_by, list_any, range_with_len}
use Rattle.std.specs.Option.{option_map_or, option_map}
use Rattle.driver_objects.specs.declared.objects.Object.{Object}
use Rattle.driver_objects.specs.Objects.{edges_of}
use Rattle.display_table.specs.declared.handles.Handle.{Handle}
use Rattle.egl_model.specs.declared.records.Bound.{Bound}
use Rattle.egl_model.specs.declared.records.ThreadRecord.{ThreadRecord}
use Rattle.driver_objects.specs.Links.{is_apart}
use Rattle.egl_model.specs.State.{State, object_at, has_object}
use Rattle.model_laws.specs.Shapes.{slots_in}
use Rattle.model_laws.specs.Slots.{Slot}

-- what refers to an object: a valid handle, a thread, or an object
pub data Holder : Type 0 where
  by_handle : ℕ → Holder
  by_thread : ℕ → Holder
  by_object : ℕ → Holder

-- a reference: what refers, by which of its slots, and to which object
pub record Triple : Type 0 where
  pub holder : Holder
  pub slot : ℕ
  pub object : ℕ

abbrev pub is_same_holder : Holder → Holder → Bool
is_same_holder (by_handle m) (by_handle n) = m == n
is_same_holder (by_thread m) (by_thread n) = m == n
is_same_holder (by_object m) (by_object n) = m == n
is_same_holder h k = false

abbrev pub is_same : Triple → Triple → Bool
is_same x y = is_same_holder x.holder y.holder && ((x.slot == y.slot) && (x.object == y.object))

-- a reference in a slot, where there is one
abbrev pub in_slot : Holder → ℕ → Option ℕ → List Triple
in_slot h i None = []
in_slot h i (Some t) = record { holder = h; slot = i; object = t } ∷ []

-- the references of slots
unfoldable pub in_slots : Holder → List Slot → List Triple
in_slots h [] = []
in_slots h (x ∷ xs) = in_slot h x.place x.to ++ in_slots h xs

abbrev pub bound_in : Option Bound → Option ℕ
bound_in b = option_map (λ x. x.object) b

abbrev pub handle_ref : Handle → Triple
handle_ref h = record { holder = by_handle h.number; slot = 0; object = h.object }

-- the references of the objects, from number n on
unfoldable pub object_refs : ℕ → List (Option Object) → List Triple
object_refs n [] = []
object_refs n (o ∷ os) = in_slots (by_object n) (slots_in o) ++ object_refs (n + 1) os

-- the references of the threads, from number t on: the current context, the surfaces, and the sync that is waited for
unfoldable pub thread_refs : ℕ → List ThreadRecord → List Triple
thread_refs t [] = []
thread_refs t (r ∷ rs) =
    (in_slot (by_thread t) 0 (bound_in r.context) ++ in_slot (by_thread t) 1 (bound_in r.draw) ++ in_slot (by_thread t) 2 (bound_in r.read) ++ in_slot (by_thread t) 3 r.wait)
    ++ thread_refs (t + 1) rs

-- no name stands twice in a group: so no two references of an object stand in one slot
abbrev pub is_apart_in : Option Object → Bool
is_apart_in o = option_map_or is_apart o true

abbrev pub AreNamesApart : State → Type 0
AreNamesApart s = (n : ℕ) → is_apart_in (object_at s n) ≡ true

-- all references of a state
unfoldable pub refs : State → List Triple
refs s = (map handle_ref s.handles ++ object_refs 0 s.objects) ++ thread_refs 0 s.threads

abbrev pub has_ref : List Triple → Triple → Bool
has_ref xs x = list_any (is_same x) xs

-- how many references of a state another hasn't
unfoldable pub refs_gone : State → State → ℕ
refs_gone s new = count_by (λ x. not (has_ref (refs new) x)) (refs s)

-- how many objects of a state another hasn't
unfoldable pub objects_gone : State → State → ℕ
objects_gone s new = count_by (λ n. has_object s n && not (has_object new n)) (range_with_len 0 (length s.objects))

-- one for each object, one for each of its references, and one for each handle
unfoldable pub size : State → ℕ
size s = sum_by (λ o. option_map_or (λ x. 1 + length (edges_of x)) o 0) s.objects + length s.handles
