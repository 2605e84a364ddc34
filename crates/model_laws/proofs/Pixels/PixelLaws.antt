-- Pixels are counted as they are made, and never more than may be.
use Rattle.std.proofs.Common.{◌≡◌, ℕ, ◌+◌, ℤ, ◌≤◌, Bool, true, false, cond, List, [], ◌∷◌, ◌++◌, refl, sym, ap, ◌∙◌, arith, length, Option, None, Some, map, get_or}
use Rattle.std.specs.List.{range_with_len, sum_by}
use Rattle.std.proofs.lemmas.List.{ext_get_or}
use Rattle.std.proofs.lemmas.List.FromFn.{length-map-range_with_len, get_or-map-range_with_len}
use Rattle.std.proofs.lemmas.List.Sums.{sum_by-append, sum_by-cons, sum_by-le-sum_by}
use Rattle.egl_calls.specs.Calls.{CallValue}
use Rattle.egl_calls.specs.Arguments.{signed}
use Rattle.driver_objects.specs.declared.objects.Object.{Object}
use Rattle.egl_model.specs.Graph.{reached}
use Rattle.egl_model.specs.State.{State}
use Rattle.egl_model.specs.Surfaces.{asked_height, asked_width, asks_for_largest, created_pbuffer, surface_bytes, pbuffer_objects, side_of}
use Rattle.egl_model.specs.Arguments.{number}
use Rattle.egl_model.specs.Contexts.{context_objects, created_context, shared_group}
use Rattle.egl_model.specs.Sweep.{bytes_in, edges_at, kept_in, live_bytes, swept}
use Rattle.surface_store.specs.declared.windows.WindowSpec.{WindowSpec}
use Rattle.egl_model.specs.Windows.{asks_for_single, created_window, named_place, named_spec, window_objects}
use Rattle.model_laws.specs.Wants.{asked_bytes, window_bytes}

-- ---- A sweep takes no bytes.
sum_by-over_map : {X Y : Type 0} (f : Y → ℕ) (g : X → Y) (xs : List X) → sum_by f (map g xs) ≡ sum_by (λ x. f (g x)) xs
sum_by-over_map f g [] = refl
sum_by-over_map f g (x ∷ xs) = sum_by-cons f (g x) (map g xs) ∙ ap (λ n. f (g x) + n) (sum_by-over_map f g xs) ∙ sym (sum_by-cons (λ y. f (g y)) x xs)

all_places : (os : List (Option Object)) → map (λ k. get_or os k None) (range_with_len 0 (length os)) ≡ os
all_places os = ext_get_or None (map (λ k. get_or os k None) (range_with_len 0 (length os))) os (length-map-range_with_len (λ k. get_or os k None) 0 (length os))
    (λ i h. get_or-map-range_with_len (λ k. get_or os k None) 0 (length os) i i None (let e = length-map-range_with_len (λ k. get_or os k None) 0 (length os) in omega (arith, e)) (omega arith))

fewer_bytes : (b : Bool) (o : Option Object) → bytes_in (cond b o None) ≤ bytes_in o
fewer_bytes true o = omega arith
fewer_bytes false o = omega arith

pub live_bytes-swept : (rs : List ℕ) (os : List (Option Object)) → live_bytes (swept rs os) ≤ live_bytes os
unfolding live_bytes swept
live_bytes-swept rs os =
    let a = sum_by-over_map bytes_in (kept_in rs os) (range_with_len 0 (length os)) in
    let b = sum_by-over_map bytes_in (λ k. get_or os k None) (range_with_len 0 (length os)) in
    let c = ap (sum_by bytes_in) (all_places os) in
    let d = sum_by-le-sum_by (λ k. bytes_in (kept_in rs os k)) (λ k. bytes_in (get_or os k None)) (range_with_len 0 (length os)) (λ k. fewer_bytes (reached rs (edges_at os) k) (get_or os k None)) in
    omega (arith, a, b, c, d)

-- ---- New objects take what the facts count.
pbuffer_objects_bytes : (n : ℕ) (config : ℤ) (w h : ℕ) (largest : Bool) → live_bytes (pbuffer_objects n config w h largest) ≡ surface_bytes config w h
unfolding live_bytes
pbuffer_objects_bytes n config w h largest = omega arith

live_bytes-append : (xs ys : List (Option Object)) → live_bytes (xs ++ ys) ≡ live_bytes xs + live_bytes ys
unfolding live_bytes
live_bytes-append xs ys = sum_by-append bytes_in xs ys

pub live_bytes-created_pbuffer : (s : State) (c : CallValue) → live_bytes (created_pbuffer s c).objects ≡ live_bytes s.objects + asked_bytes c
live_bytes-created_pbuffer s c =
    let n = length s.objects in let w = side_of (asked_width c) in let h = side_of (asked_height c) in
    live_bytes-append s.objects (pbuffer_objects n (signed c 1) w h (asks_for_largest c))
    ∙ ap (λ k. live_bytes s.objects + k) (pbuffer_objects_bytes n (signed c 1) w h (asks_for_largest c))

window_objects_bytes : (n : ℕ) (config : ℤ) (spec : WindowSpec) (single : Bool) (place : Option ℕ) → live_bytes (window_objects n config spec single place) ≡ surface_bytes config spec.w spec.h
unfolding live_bytes
window_objects_bytes n config spec single place = omega arith

pub live_bytes-created_window : (s : State) (c : CallValue) → live_bytes (created_window s c).objects ≡ live_bytes s.objects + window_bytes s c
live_bytes-created_window s c =
    let n = length s.objects in
    live_bytes-append s.objects (window_objects n (signed c 1) (named_spec s c) (asks_for_single c) (named_place s c))
    ∙ ap (λ k. live_bytes s.objects + k) (window_objects_bytes n (signed c 1) (named_spec s c) (asks_for_single c) (named_place s c))

context_bytes : (n : ℕ) (config d : ℕ) (group : Option ℕ) → live_bytes (context_objects n config d group) ≡ 0
unfolding live_bytes
context_bytes n config d None = refl
context_bytes n config d (Some group) = refl

pub live_bytes-created_context : (s : State) (c : CallValue) → live_bytes (created_context s c).objects ≡ live_bytes s.objects
live_bytes-created_context s c =
    let a = live_bytes-append s.objects (context_objects (length s.objects) (number c 1) (number c 0) (shared_group s c)) in
    let b = context_bytes (length s.objects) (number c 1) (number c 0) (shared_group s c) in
    omega (arith, a, b)
