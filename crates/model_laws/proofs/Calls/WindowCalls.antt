-- What surfaces of windows and swaps keep, and that they pass what is put for others.
use Rattle.std.proofs.Common.{◌≡◌, ℕ, ◌+◌, ◌<◌, ◌≤◌, ℤ, Bool, true, false, List, [], ◌∷◌, refl, ap, ◌∙◌, arith, length, ltb, eqb, cond, ◌*◌, sym, is_some, Option, None, Some}
use Rattle.std.specs.Prelude.{All}
use Rattle.std.specs.Option.{option_and_then, option_map, option_map_or}
use Rattle.std.proofs.lemmas.Bool.{eqb-true}
use Rattle.std.proofs.lemmas.List.{length-replicate}
use Rattle.std.proofs.lemmas.List.Quantifiers.{position-Some}
use Rattle.egl_calls.specs.Ranges.{unsigned}
use Rattle.egl_calls.specs.Calls.{CallValue}
use Rattle.egl_calls.specs.declared.kinds.Kind.TheVariants.{Egl}
use Rattle.egl_calls.specs.declared.kinds.EglKind.TheVariants.{CreateWindowSurface}
use Rattle.egl_calls.specs.Arguments.{signed}
use Rattle.call_rules.proofs.EglLaws.{window_allowed}
use Rattle.pixel_rows.specs.Images.{ImageValue, blank}
use Rattle.surface_store.proofs.WindowLaws.{place_inside}
use Rattle.surface_store.specs.Formats.{format_of}
use Rattle.surface_store.specs.Windows.{WindowValue}
use Rattle.surface_store.specs.WindowTables.{fits, no_window, place_of, spec_of, swapped_windows, window_at}
use Rattle.surface_store.specs.declared.windows.WindowSpec.{WindowSpec}
use Rattle.pixel_formats.specs.declared.formats.Format.{Format}
use Rattle.driver_objects.specs.Storages.{IsImageOf, StorageValue, shown_by, swapped_image, swapped_storage}
use Rattle.driver_objects.specs.declared.kinds.ObjectKind.TheVariants.{Storage as a_storage, Surface as a_surface_kind}
use Rattle.driver_objects.specs.declared.objects.Object.TheVariants.{Context, Storage}
use Rattle.driver_objects.specs.declared.surfaces.BackedSurface.{BackedSurface}
use Rattle.display_table.specs.declared.handles.Handle.{Handle}
use Rattle.display_table.specs.declared.handles.HandleKind.TheVariants.{Surface as a_surface}
use Rattle.egl_model.specs.declared.records.Bound.{Bound}
use Rattle.egl_model.specs.declared.records.ThreadRecord.{ThreadRecord}
use Rattle.egl_model.specs.Arguments.{number}
use Rattle.egl_model.specs.Currents.{bound_surface, draw_storage, is_bound}
use Rattle.egl_model.specs.EglCalls.{egl_refusal}
use Rattle.egl_model.specs.Facts.{facts_of}
use Rattle.model_laws.specs.Extents.{making, quiet}
use Rattle.model_laws.specs.Full.{IsFull, IsWindow}
use Rattle.egl_model.specs.Handles.{with_handle}
use Rattle.egl_model.specs.Objects.{as_surface, change_storage, with_image}
use Rattle.egl_model.specs.Parts.{own_objects, put_own}
use Rattle.model_laws.specs.Shapes.{shapes}
use Rattle.model_laws.specs.Slots.{Sides}
use Rattle.model_laws.specs.Sound.{front_sides, window_sides}
use Rattle.egl_model.specs.State.{State, record_of}
use Rattle.egl_model.specs.Sweep.{live_bytes}
use Rattle.egl_model.specs.Windows.{asks_for_single, back_of, created_window, draws_to, is_used_at, named_place, named_spec, one_at, surfaces_at, swapped, swapped_surface, swapped_with, undeclared, window_objects}
use Rattle.model_laws.proofs.Steps.Blinds.{blind-length, blind-own_storage, blind-record, draw_alone}
use Rattle.model_laws.proofs.Changes.Keeps.{Acts, Blind, acts_of, acts_self, by_full_moves, by_quiet_moves}
use Rattle.model_laws.proofs.Changes.Moves.{Add, Change, Name, Swap}
use Rattle.model_laws.proofs.Changes.NewObjects.{full-blank, with_own_pixels, without_pixels}
use Rattle.model_laws.proofs.References.Places.{new_frozen, new_kind, new_sides}
use Rattle.model_laws.proofs.Parts.Puts.{blind-surface}
use Rattle.model_laws.proofs.Changes.Setters.{KeepsForm, setter-image, suits-image}
use Rattle.model_laws.proofs.Changes.Writes.{IsBlind, blind-written, sum-written}

-- ---- What is seen of windows.
-- what is named has at most the longest sides
sides_of : (ws : List WindowValue) (o : Option ℕ) → ((k : ℕ) → o ≡ Some k → k < length ws) → All IsWindow ws →
    let spec = option_map_or spec_of (option_map (window_at ws) o) undeclared in (spec.w ≤ 2048) × (spec.h ≤ 2048)
sides_of ws None inside a = (omega arith, omega arith)
sides_of ws (Some k) inside a = let h = a k no_window (inside k refl) in (h.sides.widest, h.sides.highest)

named_sides : (s : State) (c : CallValue) → IsFull s → ((named_spec s c).w ≤ 2048) × ((named_spec s c).h ≤ 2048)
named_sides s c f = sides_of s.windows (place_of (number c 2) s.windows) (place_inside (number c 2) s.windows) f.windows

one-blind : (k : ℕ) → IsBlind (λ o. option_map_or (one_at k) o 0)
one-blind k (Some (Context c)) = refl
one-blind k (Some (Storage v)) = refl
one-blind k o = refl

pub blind-used : (t : ℕ) (p : Option ℕ) (s : State) → Blind t s (λ a. is_used_at a.objects p)
unfolding surfaces_at
blind-used t None s w v x ne = refl
blind-used t (Some k) s w v x ne = ap (ltb 0) (sum-written (λ o. option_map_or (one_at k) o 0) (one-blind k) (own_objects s v) x s.objects)

pub blind-draws_to : (t : ℕ) (h : Option Handle) (s : State) → Blind t s (λ a. draws_to a t h)
blind-draws_to t None s w v x ne = refl
blind-draws_to t (Some h) s w v x ne = ap (λ (r : ThreadRecord). is_bound h.object r.draw) (blind-record t s w v x ne)

blind-bound : (t : ℕ) (b : Option Bound) (s : State) → Blind t s (λ a. bound_surface a b)
blind-bound t None s w v x ne = refl
blind-bound t (Some b) s w v x ne = blind-written as_surface blind-surface (own_objects s v) x s.objects b.object

blind-draw_surface : (t : ℕ) (s : State) → Blind t s (λ a. bound_surface a (record_of a t).draw)
blind-draw_surface t s w v x ne = ap (λ (r : ThreadRecord). bound_surface (put_own s v x) r.draw) (blind-record t s w v x ne) ∙ blind-bound t (record_of s t).draw s w v x ne

-- ---- eglCreateWindowSurface.
abbrev sides_asked : WindowSpec → Option Sides
sides_asked spec = Some (record { width = spec.w; height = spec.h })

-- the sides of what the call names are those of the window of its id
shown_at : (n : ℕ) (ws : List WindowValue) (o : Option ℕ) → place_of n ws ≡ o → is_some o ≡ true → (id : ℤ) → let spec = option_map_or spec_of (option_map (window_at ws) o) undeclared in
    Some spec.id ≡ Some id → sides_asked spec ≡ window_sides (unsigned id) ws
shown_at n ws None e i id h = absurd (let f : false ≡ true = i in cc)
shown_at n ws (Some k) e i id h =
    let is : (window_at ws k).id ≡ id = let f : Some (window_at ws k).id ≡ Some id = h in cc in
    let same : unsigned id ≡ n = ap unsigned (sym is) ∙ eqb-true (unsigned (window_at ws k).id) n (position-Some (λ (w : WindowValue). eqb (unsigned w.id) n) ws k no_window e).1 in
    sym (ap (λ m. window_sides m ws) same ∙ ap (λ (p : Option ℕ). option_map front_sides (option_map (window_at ws) p)) e)

spec_is_shown : (s : State) (c : CallValue) → is_some (named_place s c) ≡ true → (id : ℤ) → Some (named_spec s c).id ≡ Some id →
    sides_asked (named_spec s c) ≡ window_sides (unsigned id) s.windows
spec_is_shown s c i id h = shown_at (number c 2) s.windows (named_place s c) refl i id h

pub acts-window : (s : State) (t : ℕ) (c : CallValue) → c.kind ≡ Egl CreateWindowSurface → egl_refusal s t CreateWindowSurface c ≡ None → Acts making t s (λ a. created_window a c)
unfolding egl_refusal live_bytes
acts-window s t c h r =
    let n = length s.objects in let spec = named_spec s c in
    let new = window_objects n (signed c 1) spec (asks_for_single c) (named_place s c) in
    acts_of {A = ℕ × (WindowSpec × Option ℕ)} making t s (λ a. (length a.objects, (named_spec a c, named_place a c)))
    (λ y a. with_handle a (number c 0) a_surface y.0 (window_objects y.0 (signed c 1) y.1.0 (asks_for_single c) y.1.1))
    (λ w v x ne. ap (λ k. (k, (named_spec s c, named_place s c))) (blind-length t s w v x ne))
    (by_full_moves t s (Add new ∷ Name (number c 0) a_surface n ∷ []) (tt, (tt, tt))
    (λ f. let a = named_sides s c f in ((tt, (full-blank (format_of (signed c 1)) spec.w spec.h a.0 a.1, tt)), (tt, tt)))
    (λ p. let a = (window_allowed c (facts_of s t c) h r).room in omega (arith, a))
    (λ w. (
      ((new_kind s.objects new 1 (n + 1) a_storage refl refl, tt), with_own_pixels _ (n + 0) _ (omega arith) (new_frozen s.objects new 1 (n + 0 + 1) (omega arith)) (new_sides s.objects new 1 (n + 0 + 1) (omega arith)) (spec_is_shown s c (window_allowed c (facts_of s t c) h r).window), (tt, without_pixels _ (n + 1) _ refl refl, tt)),
      λ v. (new_kind s.objects new 0 n a_surface_kind (omega arith) refl, tt),
    )))

-- ---- eglSwapBuffers.
form-emptied : (f : Format) (w k : ℕ) (z : Bool) (i : ImageValue) → i.owned ≡ true → IsImageOf f w k z i → IsImageOf f w k z (blank i.format i.width i.height)
form-emptied f w k z i e a = record {
  image = record { wide = a.image.wide; high = a.image.high; area = length-replicate (i.height * i.width) _ };
  format = a.format;
  width = a.width;
  height = a.height;
  owned = sym e ∙ a.owned;
}

form-swapped : (id : ℕ) (preserve : Bool) (ws : List WindowValue) → KeepsForm (swapped_image id preserve ws)
form-swapped id preserve ws = record { each = λ f w k z i a. by f w k z i a i.owned (fits id i ws) preserve refl }
  where
    by : (f : Format) (w k : ℕ) (z : Bool) (i : ImageValue) → IsImageOf f w k z i → (o b p : Bool) → i.owned ≡ o → IsImageOf f w k z (cond o (cond b (cond p i (blank i.format i.width i.height)) i) i)
    by f w k z i a false b p e = a
    by f w k z i a true false p e = a
    by f w k z i a true true true e = a
    by f w k z i a true true false e = form-emptied f w k z i e a

-- what is posted is the image, where its bytes are its own
acts-posted : (t : ℕ) (s : State) (x : BackedSurface) (id : ℕ) (i : ImageValue) (owned : Bool) (ws : List WindowValue) → draw_storage s t ≡ Some x.storage →
    Acts quiet t s (λ a. record a { objects = change_storage (swapped_storage id x.surface.preserve ws) x.storage a.objects; windows = cond owned (swapped_windows id i a.windows) a.windows })
unfolding change_storage
acts-posted t s x id i true ws e = let h = swapped_image id x.surface.preserve ws in
    by_quiet_moves t s (Change x.storage (with_image h) ∷ Swap id i ∷ []) refl (setter-image h (form-swapped id x.surface.preserve ws), (tt, tt)) (λ w. (suits-image t (shapes s.objects) s x.storage h (draw_alone s t x.storage e w), λ v. (tt, tt)))
acts-posted t s x id i false ws e = let h = swapped_image id x.surface.preserve ws in
    by_quiet_moves t s (Change x.storage (with_image h) ∷ []) refl (setter-image h (form-swapped id x.surface.preserve ws), tt) (λ w. (suits-image t (shapes s.objects) s x.storage h (draw_alone s t x.storage e w), tt))

acts-shown : (t : ℕ) (s : State) (x : BackedSurface) (id : ℕ) (o : Option ImageValue) (ws : List WindowValue) → draw_storage s t ≡ Some x.storage →
    Acts quiet t s (λ a. record a { objects = change_storage (swapped_storage id x.surface.preserve ws) x.storage a.objects; windows = shown_by id o a.windows })
unfolding change_storage
acts-shown t s x id None ws e = let h = swapped_image id x.surface.preserve ws in
    by_quiet_moves t s (Change x.storage (with_image h) ∷ []) refl (setter-image h (form-swapped id x.surface.preserve ws), tt) (λ w. (suits-image t (shapes s.objects) s x.storage h (draw_alone s t x.storage e w), tt))
acts-shown t s x id (Some i) ws e = acts-posted t s x id i i.owned ws e

acts-with : (t : ℕ) (s : State) (x : BackedSurface) (o : Option ℤ) → draw_storage s t ≡ Some x.storage → Acts quiet t s (swapped_with x o)
acts-with t s x None e = acts_self t s
acts-with t s x (Some id) e = acts_of {A = Option ImageValue × List WindowValue} quiet t s (λ a. (back_of a x, a.windows))
    (λ y a. record a { objects = change_storage (swapped_storage (unsigned id) x.surface.preserve y.1) x.storage a.objects; windows = shown_by (unsigned id) y.0 a.windows })
    (λ w v y ne. ap (λ o. (option_and_then (λ (z : StorageValue). z.image) o, s.windows)) (blind-own_storage t (Some x.storage) s (λ n f u. draw_alone s t n (e ∙ f) u) w v y ne))
    (acts-shown t s x (unsigned id) (back_of s x) s.windows e)

acts-surface : (t : ℕ) (s : State) (y : Option BackedSurface) → draw_storage s t ≡ option_map (λ x. x.storage) y → Acts quiet t s (swapped_surface y)
acts-surface t s None e = acts_self t s
acts-surface t s (Some x) e = acts-with t s x x.surface.window e

pub acts-swap : (s : State) (t : ℕ) → Acts quiet t s (λ a. swapped a t)
acts-swap s t = acts_of quiet t s (λ a. bound_surface a (record_of a t).draw) (λ y a. swapped_surface y a) (blind-draw_surface t s) (acts-surface t s (bound_surface s (record_of s t).draw) refl)
