-- What a swap shows, and what it leaves of the back buffer.
use Rattle.std.proofs.Common.{◌≡◌, ◌≢◌, ℕ, ℤ, pos, Bool, true, false, cond, not, List, refl, sym, ap, subst, ◌∙◌, get_or, set, eqb, Option, None, Some, is_some}
use Rattle.std.specs.Prelude.{All}
use Rattle.std.specs.Option.{option_map, option_map_or}
use Rattle.std.specs.Ordering.{int_eq}
use Rattle.std.proofs.lemmas.Bool.{and_from, eq-eqb, eqb-true, not-false}
use Rattle.std.proofs.lemmas.List.{get_or-set_other, get_or-set_same}
use Rattle.std.proofs.lemmas.List.Quantifiers.{position-Some}
use Rattle.std.proofs.lemmas.Option.{none-some, same_Some}
use Rattle.egl_calls.specs.Calls.{CallValue}
use Rattle.egl_calls.specs.Ranges.{unsigned}
use Rattle.egl_calls.specs.declared.errors.EglError.TheVariants.{Success}
use Rattle.egl_calls.specs.declared.kinds.EglKind.TheVariants.{SwapBuffers}
use Rattle.egl_names.specs.declared.codes.TheConstants.{EGL_BUFFER_DESTROYED, EGL_BUFFER_PRESERVED}
use Rattle.call_rules.proofs.EglLaws.{rows_off}
use Rattle.call_rules.proofs.TestLaws.{given_last}
use Rattle.pixel_formats.specs.declared.formats.Format.{Format}
use Rattle.pixel_formats.specs.declared.formats.Format.TheVariants.{Rgba8888}
use Rattle.pixel_rows.specs.Images.{ImageValue, blank}
use Rattle.surface_store.specs.Windows.{WindowValue, posted}
use Rattle.surface_store.specs.WindowTables.{fits, has_sides_of, no_window, place_of, posted_to, swapped_back, swapped_windows, window_at, window_of}
use Rattle.surface_store.proofs.WindowLaws.{place_inside}
use Rattle.driver_objects.specs.Storages.{AreImageOf, IsImageOf, StorageValue, shown_by, swapped_image, swapped_storage}
use Rattle.driver_objects.specs.declared.kinds.ObjectKind.{ObjectKind}
use Rattle.driver_objects.specs.declared.kinds.ObjectKind.TheVariants.{Storage as a_storage, Surface as a_surface_kind}
use Rattle.driver_objects.specs.declared.objects.Object.{Object}
use Rattle.driver_objects.specs.declared.objects.Object.TheVariants.{Context, Storage, Surface}
use Rattle.driver_objects.specs.declared.surfaces.BackedSurface.{BackedSurface}
use Rattle.display_table.specs.declared.handles.Handle.{Handle}
use Rattle.display_table.specs.declared.handles.HandleKind.TheVariants.{Surface as a_surface}
use Rattle.egl_model.specs.declared.records.Bound.{Bound}
use Rattle.egl_model.specs.declared.records.ThreadRecord.{ThreadRecord}
use Rattle.egl_model.specs.Currents.{bound_surface, current_context, is_bound}
use Rattle.egl_model.specs.EglCalls.{egl_refusal}
use Rattle.egl_model.specs.Facts.{facts_of}
use Rattle.egl_model.specs.Flushes.{flush, flushed_to}
use Rattle.egl_model.specs.Handles.{handle_at}
use Rattle.egl_model.specs.Objects.{as_storage, as_surface, change_storage, surface_in, surface_of, with_context, with_storage}
use Rattle.egl_model.specs.Parts.{image_in}
use Rattle.egl_model.specs.State.{State, initial, object_at, record_of, set_error}
use Rattle.egl_model.specs.Step.{step}
use Rattle.egl_model.specs.Sweep.{roots, sweep}
use Rattle.egl_model.specs.Windows.{back_of, draws_to, front_of, swapped_surface, swapped_with}
use Rattle.model_laws.specs.Full.{Full, IsWindow}
use Rattle.model_laws.specs.Kinds.{KindsFit}
use Rattle.model_laws.specs.Shapes.{Goes, HasKind, Leads, shapes, slots_in}
use Rattle.model_laws.specs.Slots.{Sides}
use Rattle.model_laws.specs.Sound.{IsSound, IsWhole, front_sides, window_sides}
use Rattle.model_laws.specs.Swaps.{HasSwapBehavior, IsSwap}
use Rattle.model_laws.proofs.Waits.FenceLaws.{at_changed, seen_flushed}
use Rattle.model_laws.proofs.Changes.Moves.{frozen_in, own_in, sides_in, window_id_in}
use Rattle.model_laws.proofs.Parts.OtherParts.{is_storage_there}
use Rattle.model_laws.proofs.References.Places.{frozen_at-shapes, own_at-shapes, same_at_set, sides_at-shapes, window_id_at-shapes}
use Rattle.model_laws.proofs.Steps.RefusalLaws.{allowed_egl_state}
use Rattle.model_laws.proofs.Steps.StepKeeps.{sound-step}
use Rattle.model_laws.proofs.References.SweepLaws.{left_as_it_was}
use Rattle.model_laws.proofs.References.WholeSweep.{exists_at}
use Rattle.model_laws.proofs.Windows.WindowForms.{place-put}

-- ---- The surface that is swapped is the one that the thread draws to.
bound_of : (s : State) (h : Option Handle) (b : Option Bound) (x : BackedSurface) → option_map_or (λ (k : Handle). is_bound k.object b) h false ≡ true → surface_of s h ≡ Some x → bound_surface s b ≡ Some x
bound_of s None b x d e = absurd (none-some x e)
bound_of s (Some h) None x d e = absurd (let f : false ≡ true = d in cc)
bound_of s (Some h) (Some b) x d e = ap (surface_in s.objects) (eqb-true b.object h.object d) ∙ e

drawn : (s : State) (t : ℕ) (c : CallValue) (x : BackedSurface) → IsSwap s t c x → bound_surface s (record_of s t).draw ≡ Some x
unfolding egl_refusal
drawn s t c x h =
    let off = rows_off c (facts_of s t c) SwapBuffers h.allowed.call.kind h.allowed.allowed in
    bound_of s (handle_at s c 1 a_surface) (record_of s t).draw x (not-false (draws_to s t (handle_at s c 1 a_surface)) (given_last (not (draws_to s t (handle_at s c 1 a_surface))) (is_some (handle_at s c 1 a_surface)) (not-false _ off.1.1.0) off.1.1.1.0)) h.names

-- the state behind the call, before what nothing reaches is gone
abbrev behind : State → ℕ → State
behind g t = set_error (flush g t) t Success

swap_state : (s : State) (t : ℕ) (c : CallValue) (x : BackedSurface) (o : Option ℤ) → IsSwap s t c x → x.surface.window ≡ o → (step s t c).state ≡ sweep (behind (swapped_with x o s) t)
swap_state s t c x o h e =
    allowed_egl_state s t SwapBuffers c h.allowed
    ∙ ap (λ (y : Option BackedSurface). sweep (behind (swapped_surface y s) t)) (drawn s t c x h)
    ∙ ap (λ (z : Option ℤ). sweep (behind (swapped_with x z s) t)) e

-- ---- Its back buffer.
is_surface : (o : Option Object) (x : BackedSurface) → as_surface o ≡ Some x → o ≡ Some (Surface x)
is_surface (Some (Surface y)) x e = ap (λ (z : BackedSurface). Some (Surface z)) (same_Some y x e)
is_surface o x e = absurd (none-some x e)

abbrev sides_by : ℕ → ℕ → Option Sides
sides_by w h = Some (record { width = w; height = h })

record IsBack (o : Option Object) (i : ImageValue) : Type 0 where
  pub sides : sides_in o ≡ sides_by i.width i.height
  pub owned : frozen_in o ≡ false → i.owned ≡ true

of_image : (f : Format) (w h : ℕ) (z : Bool) (o : Option ImageValue) (i : ImageValue) → o ≡ Some i → AreImageOf f w h z o → IsImageOf f w h z i
of_image f w h z None i e a = absurd (none-some i e)
of_image f w h z (Some j) i e a = subst (IsImageOf f w h z) (same_Some j i e) a

is_back : (o : Option Object) (i : ImageValue) → image_in o ≡ Some i → Full o → IsBack o i
is_back (Some (Storage v)) i e f =
    let a = of_image v.format v.width v.height v.frozen v.image i e f.0.image in
    record {
      sides = ap (λ (w : ℕ). sides_by w v.height) (sym a.width) ∙ ap (λ (h : ℕ). sides_by i.width h) (sym a.height);
      owned = λ z. a.owned ∙ ap not z;
    }
is_back o i e f = absurd (none-some i e)

-- what is known of a surface whose number is m, with this back buffer
record IsKept (s : State) (x : BackedSurface) (i : ImageValue) : Type 0 where
  pub owned : i.owned ≡ true
  pub window : (id : ℤ) → x.surface.window ≡ Some id → window_sides (unsigned id) s.windows ≡ sides_by i.width i.height

kept_at : (s : State) (m : ℕ) (x : BackedSurface) (i : ImageValue) → IsSound s → surface_in s.objects m ≡ Some x → back_of s x ≡ Some i → IsKept s x i
kept_at s m x i h e b =
    let o = is_surface (object_at s m) x e in
    let own = own_at-shapes s.objects m ∙ ap own_in o in
    let k = is_back (object_at s x.storage) i b (h.full.each x.storage) in
    record {
      owned = k.owned (sym (frozen_at-shapes s.objects x.storage) ∙ h.whole.thawed.each m x.storage own);
      window = λ id w.
          sym (h.whole.sides.window m id (window_id_at-shapes s.objects m ∙ ap window_id_in o ∙ w))
          ∙ sym (h.whole.sides.storage m x.storage own) ∙ sides_at-shapes s.objects x.storage ∙ k.sides;
    }

kept_by : (s : State) (b : Option Bound) (x : BackedSurface) (i : ImageValue) → IsSound s → bound_surface s b ≡ Some x → back_of s x ≡ Some i → IsKept s x i
kept_by s None x i h e b = absurd (none-some x e)
kept_by s (Some n) x i h e b = kept_at s n.object x i h e b

kept : (s : State) (t : ℕ) (c : CallValue) (x : BackedSurface) (i : ImageValue) → IsSound s → IsSwap s t c x → back_of s x ≡ Some i → IsKept s x i
kept s t c x i h w b = kept_by s (record_of s t).draw x i h (drawn s t c x w) b

-- each surface of a thread has a back buffer
full_image : (o : Option Object) → is_some (as_storage o) ≡ true → Full o → is_some (image_in o) ≡ true
full_image (Some (Storage v)) e f = f.1
full_image o e f = absurd (let g : false ≡ true = e in cc)

-- ---- What the windows show.
-- a front and a back buffer with one pair of sides, and the pixels of the one on the other
same_front : (f i : ImageValue) → f.format ≡ Rgba8888 → f.width ≡ i.width → f.height ≡ i.height → f.owned ≡ i.owned → record f { pixels = i.pixels } ≡ record i { format = Rgba8888 }
same_front f i a b c d = λ k. record { format = a k; width = b k; height = c k; pixels = i.pixels; owned = d k }

front_posted : (n k : ℕ) (i : ImageValue) (ws : List WindowValue) → place_of n ws ≡ Some k → option_map (λ (w : WindowValue). w.front) (window_of n (set ws k (posted i (window_at ws k)))) ≡ Some (posted i (window_at ws k)).front
front_posted n k i ws e =
    ap (λ (o : Option ℕ). option_map (λ (w : WindowValue). w.front) (option_map (window_at (set ws k (posted i (window_at ws k)))) o)) (place-put n k i ws ∙ e)
    ∙ ap (λ (w : WindowValue). Some w.front) (get_or-set_same ws k (posted i (window_at ws k)) no_window (place_inside n ws k e))

-- the two sides of a pair that is another
width_is : (a b c d : ℕ) → sides_by a b ≡ sides_by c d → a ≡ c
width_is a b c d e = ap (λ (o : Option Sides). option_map_or (λ (x : Sides). x.width) o 0) e

height_is : (a b c d : ℕ) → sides_by a b ≡ sides_by c d → b ≡ d
height_is a b c d e = ap (λ (o : Option Sides). option_map_or (λ (x : Sides). x.height) o 0) e

front_shown : (n : ℕ) (i : ImageValue) (ws : List WindowValue) (o : Option ℕ) → place_of n ws ≡ o → All IsWindow ws → window_sides n ws ≡ sides_by i.width i.height → i.owned ≡ true →
    (fits n i ws ≡ true) × (option_map (λ (w : WindowValue). w.front) (window_of n (swapped_windows n i ws)) ≡ Some (record i { format = Rgba8888 }))
front_shown n i ws None e a si own = absurd (let f : None ≡ sides_by i.width i.height = ap (λ (o : Option ℕ). option_map front_sides (option_map (window_at ws) o)) (sym e) ∙ si in cc)
front_shown n i ws (Some k) e a si own =
    let w = window_at ws k in
    let here : sides_by w.front.width w.front.height ≡ sides_by i.width i.height =
    ap (λ (o : Option ℕ). option_map front_sides (option_map (window_at ws) o)) (sym e) ∙ si in
    let wide = width_is w.front.width w.front.height i.width i.height here in
    let high = height_is w.front.width w.front.height i.width i.height here in
    let fit : fits n i ws ≡ true =
    ap (λ (o : Option ℕ). option_map_or (has_sides_of i) (option_map (window_at ws) o) false) e
    ∙ and_from (eqb w.front.width i.width) (eqb w.front.height i.height) (eq-eqb w.front.width i.width wide) (eq-eqb w.front.height i.height high) in
    let is = a k no_window (place_inside n ws k e) in (
      fit,
      ap (λ b. option_map (λ (w : WindowValue). w.front) (window_of n (cond b (posted_to n i ws) ws))) fit
          ∙ ap (λ (o : Option ℕ). option_map (λ (w : WindowValue). w.front) (window_of n (option_map_or (λ k. set ws k (posted i (window_at ws k))) o ws))) e
          ∙ front_posted n k i ws e
          ∙ ap Some (same_front w.front i is.format wide high (is.owned ∙ sym own)),
    )

-- another window shows what it showed
ids_apart : (n j k l : ℕ) (ws : List WindowValue) → j ≢ n → place_of n ws ≡ Some k → place_of j ws ≡ Some l → l ≢ k
ids_apart n j k l ws ne e f same = ne (sym (id_at j l f) ∙ ap (λ m. unsigned (window_at ws m).id) same ∙ id_at n k e)
  where
    id_at : (n k : ℕ) → place_of n ws ≡ Some k → unsigned (window_at ws k).id ≡ n
    id_at n k e = eqb-true (unsigned (window_at ws k).id) n (position-Some (λ (w : WindowValue). eqb (unsigned w.id) n) ws k no_window e).1

other_at : (n j k : ℕ) (i : ImageValue) (ws : List WindowValue) (o : Option ℕ) → j ≢ n → place_of n ws ≡ Some k → place_of j ws ≡ o →
    option_map (window_at (set ws k (posted i (window_at ws k)))) o ≡ option_map (window_at ws) o
other_at n j k i ws None ne e f = refl
other_at n j k i ws (Some l) ne e f = ap Some (get_or-set_other ws k l (posted i (window_at ws k)) no_window (ids_apart n j k l ws ne e f))

other_posted : (n j : ℕ) (i : ImageValue) (ws : List WindowValue) (o : Option ℕ) → j ≢ n → place_of n ws ≡ o → window_of j (option_map_or (λ k. set ws k (posted i (window_at ws k))) o ws) ≡ window_of j ws
other_posted n j i ws None ne e = refl
other_posted n j i ws (Some k) ne e =
    ap (option_map (window_at (set ws k (posted i (window_at ws k))))) (place-put j k i ws) ∙ other_at n j k i ws (place_of j ws) ne e refl

other_swapped : (n j : ℕ) (i : ImageValue) (ws : List WindowValue) → j ≢ n → window_of j (swapped_windows n i ws) ≡ window_of j ws
other_swapped n j i ws ne = by (fits n i ws)
  where
    by : (b : Bool) → window_of j (cond b (posted_to n i ws) ws) ≡ window_of j ws
    by true = other_posted n j i ws (place_of n ws) ne refl
    by false = refl

other_shown : (n j : ℕ) (o : Option ImageValue) (ws : List WindowValue) → j ≢ n → window_of j (shown_by n o ws) ≡ window_of j ws
other_shown n j None ws ne = refl
other_shown n j (Some i) ws ne = by i.owned
  where
    by : (b : Bool) → window_of j (cond b (swapped_windows n i ws) ws) ≡ window_of j ws
    by true = other_swapped n j i ws ne
    by false = refl

-- ---- What is left of the back buffer: the surface and its storage are still there.
surface_flushed : (k : ℕ) (o : Option Object) → as_surface (with_context (flushed_to k) o) ≡ as_surface o
surface_flushed k (Some (Context c)) = refl
surface_flushed k o = refl

image_flushed : (k : ℕ) (o : Option Object) → image_in (with_context (flushed_to k) o) ≡ image_in o
image_flushed k (Some (Context c)) = refl
image_flushed k o = refl

surfaces_as : (s d : State) (b : Option Bound) → ((m : ℕ) → surface_in d.objects m ≡ surface_in s.objects m) → bound_surface d b ≡ bound_surface s b
surfaces_as s d None e = refl
surfaces_as s d (Some b) e = e b.object

drawn_behind : (s g : State) (t : ℕ) (x : BackedSurface) → g.threads ≡ s.threads → ((m : ℕ) → surface_in g.objects m ≡ surface_in s.objects m) → bound_surface s (record_of s t).draw ≡ Some x →
    bound_surface (behind g t) (record_of (behind g t) t).draw ≡ Some x
drawn_behind s g t x e f h =
    let d = behind g t in
    ap (bound_surface d) (same_at_set (λ (r : ThreadRecord). r.draw) g.threads t (record (record_of g t) { error = Success }) initial refl t ∙ ap (λ (ts : List ThreadRecord). (get_or ts t initial).draw) e)
    ∙ surfaces_as s d (record_of s t).draw (λ m. seen_flushed as_surface surface_flushed (current_context g t) g.objects m ∙ f m) ∙ h

as_it_was : (d : State) (k : ObjectKind) (n : ℕ) → HasKind (shapes (sweep d).objects) k n → object_at (sweep d) n ≡ object_at d n
as_it_was d k n h = left_as_it_was (roots d) d.objects n (exists_at (sweep d) k n h)

storage_stays : (d : State) (b : Option Bound) (x : BackedSurface) → KindsFit (shapes (sweep d).objects) (sweep d) → Goes (shapes (sweep d).objects) a_surface_kind (option_map (λ (c : Bound). c.object) b) → bound_surface d b ≡ Some x →
    object_at (sweep d) x.storage ≡ object_at d x.storage
storage_stays d None x k g e = absurd (none-some x e)
storage_stays d (Some b) x k g e =
    let leads = subst (λ (o : Option Object). Leads (shapes (sweep d).objects) (slots_in o)) (as_it_was d a_surface_kind b.object g ∙ is_surface (object_at d b.object) x e) (k.objects b.object) in
    as_it_was d a_storage x.storage leads.0

back_stays : (s g : State) (t : ℕ) (x : BackedSurface) → IsWhole (shapes (sweep (behind g t)).objects) (sweep (behind g t)) → g.threads ≡ s.threads → ((m : ℕ) → surface_in g.objects m ≡ surface_in s.objects m) →
    bound_surface s (record_of s t).draw ≡ Some x → back_of (sweep (behind g t)) x ≡ image_in (object_at g x.storage)
back_stays s g t x w e f h =
    let d = behind g t in
    ap image_in (storage_stays d (record_of d t).draw x w.kinds (w.kinds.threads t).1.0 (drawn_behind s g t x e f h))
    ∙ seen_flushed image_in image_flushed (current_context g t) g.objects x.storage

-- with the window swapped, and without one
surface_changed : (f : StorageValue → StorageValue) (o : Option Object) → as_surface (with_storage f o) ≡ as_surface o
surface_changed f (Some (Storage v)) = refl
surface_changed f o = refl

image_changed : (n : ℕ) (p : Bool) (ws : List WindowValue) (o : Option Object) (i : ImageValue) → image_in o ≡ Some i → image_in (with_storage (swapped_storage n p ws) o) ≡ Some (swapped_image n p ws i)
image_changed n p ws (Some (Storage v)) i e = ap (option_map (swapped_image n p ws)) e
image_changed n p ws o i e = absurd (none-some i e)

back_swapped : (s : State) (t : ℕ) (c : CallValue) (x : BackedSurface) (id : ℤ) (i : ImageValue) → IsSound s → IsSwap s t c x → x.surface.window ≡ Some id → back_of s x ≡ Some i →
    back_of (step s t c).state x ≡ Some (swapped_image (unsigned id) x.surface.preserve s.windows i)
unfolding change_storage
back_swapped s t c x id i h a e b =
    let g = swapped_with x (Some id) s in
    let f = swapped_storage (unsigned id) x.surface.preserve s.windows in
    let is = swap_state s t c x (Some id) a e in
    ap (λ (z : State). back_of z x) is
    ∙ back_stays s g t x (subst (λ (z : State). IsWhole (shapes z.objects) z) is (sound-step s t c h).whole) refl
    (λ m. same_at_set as_surface s.objects x.storage _ None (surface_changed f (object_at s x.storage)) m) (drawn s t c x a)
    ∙ ap image_in (at_changed (with_storage f) refl s.objects x.storage)
    ∙ image_changed (unsigned id) x.surface.preserve s.windows (object_at s x.storage) i b

-- ---- The clauses.
pub has_back : (s : State) (t : ℕ) (c : CallValue) (x : BackedSurface) → IsSound s → IsSwap s t c x → is_some (back_of s x) ≡ true
has_back s t c x h a =
    let storage = ap (option_map (λ (y : BackedSurface). y.storage)) (drawn s t c x a) in
    full_image (object_at s x.storage) (is_storage_there s (record_of s t).draw x.storage h.whole storage) (h.full.each x.storage)

shown : (s : State) (t : ℕ) (c : CallValue) (x : BackedSurface) (id : ℤ) (i : ImageValue) → IsSound s → IsSwap s t c x → x.surface.window ≡ Some id → back_of s x ≡ Some i →
    (fits (unsigned id) i s.windows ≡ true) × (option_map (λ (w : WindowValue). w.front) (window_of (unsigned id) (swapped_windows (unsigned id) i s.windows)) ≡ Some (record i { format = Rgba8888 }))
shown s t c x id i h a e b =
    let k = kept s t c x i h a b in
    front_shown (unsigned id) i s.windows (place_of (unsigned id) s.windows) refl h.full.windows (k.window id e) k.owned

pub front_shows : (s : State) (t : ℕ) (c : CallValue) (x : BackedSurface) (id : ℤ) (i : ImageValue) → IsSound s → IsSwap s t c x → x.surface.window ≡ Some id → back_of s x ≡ Some i →
    front_of (unsigned id) (step s t c).state ≡ Some (record i { format = Rgba8888 })
front_shows s t c x id i h a e b =
    let front = λ (ws : List WindowValue). option_map (λ (w : WindowValue). w.front) (window_of (unsigned id) ws) in
    ap (λ (z : State). front_of (unsigned id) z) (swap_state s t c x (Some id) a e)
    ∙ ap (λ (o : Option ImageValue). front (shown_by (unsigned id) o s.windows)) b
    ∙ ap (λ (own : Bool). front (cond own (swapped_windows (unsigned id) i s.windows) s.windows)) (kept s t c x i h a b).owned
    ∙ (shown s t c x id i h a e b).1

pub others_show : (s : State) (t : ℕ) (c : CallValue) (x : BackedSurface) (id : ℤ) (j : ℕ) → IsSwap s t c x → x.surface.window ≡ Some id → j ≢ unsigned id → front_of j (step s t c).state ≡ front_of j s
others_show s t c x id j a e ne =
    ap (λ (z : State). front_of j z) (swap_state s t c x (Some id) a e)
    ∙ ap (option_map (λ (w : WindowValue). w.front)) (other_shown (unsigned id) j (back_of s x) s.windows ne)

back_left : (s : State) (t : ℕ) (c : CallValue) (x : BackedSurface) (id : ℤ) (i : ImageValue) (p : Bool) → IsSound s → IsSwap s t c x → x.surface.window ≡ Some id → back_of s x ≡ Some i → x.surface.preserve ≡ p →
    back_of (step s t c).state x ≡ Some (cond p i (blank i.format i.width i.height))
back_left s t c x id i p h a e b q =
    back_swapped s t c x id i h a e b
    ∙ ap (λ (own : Bool). Some (cond own (swapped_back (unsigned id) x.surface.preserve i s.windows) i)) (kept s t c x i h a b).owned
    ∙ ap (λ (fit : Bool). Some (cond fit (cond x.surface.preserve i (blank i.format i.width i.height)) i)) (shown s t c x id i h a e b).0
    ∙ ap (λ (p : Bool). Some (cond p i (blank i.format i.width i.height))) q

pub back_preserved : (s : State) (t : ℕ) (c : CallValue) (x : BackedSurface) (id : ℤ) (i : ImageValue) → IsSound s → IsSwap s t c x → x.surface.window ≡ Some id → back_of s x ≡ Some i → HasSwapBehavior x EGL_BUFFER_PRESERVED →
    back_of (step s t c).state x ≡ Some i
back_preserved s t c x id i h a e b q = back_left s t c x id i true h a e b (by x.surface.preserve q)
  where
    by : (p : Bool) → Some (pos (cond p EGL_BUFFER_PRESERVED EGL_BUFFER_DESTROYED)) ≡ Some (pos EGL_BUFFER_PRESERVED) → p ≡ true
    by true e = refl
    by false e = ap (λ (o : Option ℤ). option_map_or (λ z. int_eq z (pos EGL_BUFFER_PRESERVED)) o false) e

pub back_emptied : (s : State) (t : ℕ) (c : CallValue) (x : BackedSurface) (id : ℤ) (i : ImageValue) → IsSound s → IsSwap s t c x → x.surface.window ≡ Some id → back_of s x ≡ Some i → HasSwapBehavior x EGL_BUFFER_DESTROYED →
    back_of (step s t c).state x ≡ Some (blank i.format i.width i.height)
back_emptied s t c x id i h a e b q = back_left s t c x id i false h a e b (by x.surface.preserve q)
  where
    by : (p : Bool) → Some (pos (cond p EGL_BUFFER_PRESERVED EGL_BUFFER_DESTROYED)) ≡ Some (pos EGL_BUFFER_DESTROYED) → p ≡ false
    by true e = ap (λ (o : Option ℤ). option_map_or (λ z. int_eq z (pos EGL_BUFFER_PRESERVED)) o true) e
    by false e = refl

-- a pbuffer
pub none_shows : (s : State) (t : ℕ) (c : CallValue) (x : BackedSurface) → IsSwap s t c x → x.surface.window ≡ None → (step s t c).state.windows ≡ s.windows
none_shows s t c x a e = ap (λ (z : State). z.windows) (swap_state s t c x None a e)

pub back_stays_whole : (s : State) (t : ℕ) (c : CallValue) (x : BackedSurface) → IsSound s → IsSwap s t c x → x.surface.window ≡ None → back_of (step s t c).state x ≡ back_of s x
back_stays_whole s t c x h a e =
    let is = swap_state s t c x None a e in
    ap (λ (z : State). back_of z x) is
    ∙ back_stays s s t x (subst (λ (z : State). IsWhole (shapes z.objects) z) is (sound-step s t c h).whole) refl (λ m. refl) (drawn s t c x a)
