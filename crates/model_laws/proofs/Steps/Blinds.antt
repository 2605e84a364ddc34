-- What a thread looks at, and what is put for another thread doesn't change: one lemma for each way to look at a state.
use Rattle.std.proofs.Common.{◌≡◌, ℕ, Bool, true, false, ◌||◌, List, [], ◌∷◌, zero, suc, refl, sym, ap, ◌∙◌, length, get_or, set, Option, None, Some}
use Rattle.egl_calls.specs.declared.errors.EglError.{EglError}
use Rattle.std.specs.List.{list_any}
use Rattle.std.specs.Option.{option_and_then, option_map, option_map_or}
use Rattle.std.proofs.lemmas.Bool.{cond-false, eq-eqb, eqb-true, false_from_ne_true, or_left, or_right}
use Rattle.std.proofs.lemmas.Option.{none-some, same_Some}
use Rattle.context_state.specs.Parts.{PartValue}
use Rattle.driver_objects.specs.declared.surfaces.BackedSurface.{BackedSurface}
use Rattle.driver_objects.specs.declared.contexts.Context.{Context as ContextObject}
use Rattle.driver_objects.specs.declared.fences.Fence.{Fence}
use Rattle.driver_objects.specs.declared.objects.Object.{Object}
use Rattle.driver_objects.specs.declared.objects.Object.TheVariants.{Context, Storage, Surface}
use Rattle.display_table.specs.declared.handles.Handle.{Handle}
use Rattle.egl_model.specs.declared.records.Bound.{Bound}
use Rattle.egl_model.specs.declared.records.ThreadRecord.{ThreadRecord}
use Rattle.egl_model.specs.State.{State, initial, object_at, record_of}
use Rattle.egl_model.specs.Objects.{as_context, as_fence, as_storage, as_surface, context_in, fence_in, storage_in, surface_in}
use Rattle.egl_model.specs.Currents.{current_context, draw_storage, has_context, has_surface, is_bound, is_context_elsewhere, is_surface_elsewhere, part_of_context, read_storage, display_at}
use Rattle.egl_model.specs.Graph.{is_in}
use Rattle.egl_model.specs.Waits.{has_flushed, is_signalled, signals}
use Rattle.egl_model.specs.Parts.{Own, OwnObjects, is_place, own_objects, put_at, set_image, set_part, write, written}
use Rattle.model_laws.specs.Shapes.{IsFree, own_at, pixels_in, shapes}
use Rattle.model_laws.specs.Sound.{IsWhole}
use Rattle.egl_model.specs.Sweep.{live_bytes}
use Rattle.model_laws.proofs.Changes.Keeps.{Blind}
use Rattle.model_laws.proofs.Changes.Moves.{NoneElse, draws, link, own_in}
use Rattle.model_laws.proofs.References.Places.{own_at-shapes, same_at_set}
use Rattle.model_laws.proofs.Parts.Puts.{blind-surface, same_context, same_draw, same_read}
use Rattle.model_laws.proofs.Changes.PutMoves.{IsNoContext, IsNoImage, no_context, no_image, record_of-put}
use Rattle.model_laws.proofs.Changes.Writes.{IsBlind, blind-written, get_or-write, length-written, live_bytes-written}

-- ---- What all threads see.
pub blind-length : (t : ℕ) (s : State) → Blind t s (λ a. length a.objects)
blind-length t s w v x ne = length-written (own_objects s v) x s.objects

pub blind-live_bytes : (t : ℕ) (s : State) → Blind t s (λ a. live_bytes a.objects)
blind-live_bytes t s w v x ne = live_bytes-written (own_objects s v) x s.objects

pub blind-object : {A : Type 0} (g : Option Object → A) → IsBlind g → (t n : ℕ) (s : State) → Blind t s (λ a. g (object_at a n))
blind-object g b t n s w v x ne = blind-written g b (own_objects s v) x s.objects n

-- whatever a context has but what it keeps for itself
pub context-blind : {A : Type 0} (h : Option ContextObject → A) → ((c : ContextObject) (x : Option PartValue) → h (Some (record c { part = x })) ≡ h (Some c)) → IsBlind (λ o. h (as_context o))
context-blind h e (Some (Context c)) = e c None
context-blind h e (Some (Storage v)) = refl
context-blind h e o = refl

pub blind-context : {A : Type 0} (h : Option ContextObject → A) → ((c : ContextObject) (x : Option PartValue) → h (Some (record c { part = x })) ≡ h (Some c)) → (t n : ℕ) (s : State) → Blind t s (λ a. h (context_in a.objects n))
blind-context h e t n s = blind-object (λ o. h (as_context o)) (context-blind h e) t n s

-- the object of a handle, if there is one
pub blind-of : {A : Type 0} (g : Option Object → Option A) → IsBlind g → (t : ℕ) (h : Option Handle) (s : State) → Blind t s (λ a. option_and_then (λ h. g (object_at a h.object)) h)
blind-of g b t None s w v x ne = refl
blind-of g b t (Some h) s w v x ne = blind-written g b (own_objects s v) x s.objects h.object

pub blind-context_of : {A : Type 0} (g : Option ContextObject → A) → ((c : ContextObject) (x : Option PartValue) → g (Some (record c { part = x })) ≡ g (Some c)) → (t : ℕ) (h : Option Handle) (s : State) → Blind t s (λ a. g (option_and_then (λ h. context_in a.objects h.object) h))
blind-context_of g e t None s w v x ne = refl
blind-context_of g e t (Some h) s w v x ne = blind-context g e t h.object s w v x ne

pub blind-surface_of : (t : ℕ) (h : Option Handle) (s : State) → Blind t s (λ a. option_and_then (λ h. surface_in a.objects h.object) h)
blind-surface_of t h s = blind-of as_surface blind-surface t h s

-- the display of a context
pub blind-display : (t : ℕ) (o : Option ℕ) (s : State) → Blind t s (λ a. display_at a o)
blind-display t None s w v x ne = refl
blind-display t (Some n) s w v x ne = blind-context (λ o. option_map_or (λ x. x.display) o 0) (λ c x. refl) t n s w v x ne

-- ---- Whether a fence is signalled.
fence-blind : IsBlind as_fence
fence-blind (Some (Context c)) = refl
fence-blind (Some (Storage v)) = refl
fence-blind o = refl

-- at any objects
pub signalled-put : (p : OwnObjects) (v n : ℕ) (x : Own) (s : State) → is_signalled (put_at p v x s) n ≡ is_signalled s n
signalled-put p v n x s = ap (λ o. option_map_or (signals (written p x s.objects) n) o false) (blind-written as_fence fence-blind p x s.objects n) ∙ by (fence_in s.objects n)
  where
    by : (o : Option Fence) → option_map_or (signals (written p x s.objects) n) o false ≡ option_map_or (signals s.objects n) o false
    by None = refl
    by (Some f) = ap (λ b. f.served || b) (blind-written (λ o. has_flushed n (as_context o)) (context-blind (has_flushed n) (λ c y. refl)) p x s.objects f.context)

pub blind-signalled : (t n : ℕ) (s : State) → Blind t s (λ a. is_signalled a n)
blind-signalled t n s w v x ne = signalled-put (own_objects s v) v n x s

-- ---- Records.
pub blind-record : (t : ℕ) (s : State) → Blind t s (λ a. record_of a t)
blind-record t s w v x ne = record_of-put (own_objects s v) v t x s (λ e. ne (sym e))

pub blind-current : (t : ℕ) (s : State) → Blind t s (λ a. current_context a t)
blind-current t s w v x ne = same_context s (own_objects s v) v t x

pub blind-draw : (t : ℕ) (s : State) → Blind t s (λ a. draw_storage a t)
blind-draw t s w v x ne = same_draw s (own_objects s v) v t x

pub blind-read : (t : ℕ) (s : State) → Blind t s (λ a. read_storage a t)
blind-read t s w v x ne = same_read s (own_objects s v) v t x

any-set : (q : ThreadRecord → Bool) (rs : List ThreadRecord) (i : ℕ) (y d : ThreadRecord) → q y ≡ q (get_or rs i d) → list_any q (set rs i y) ≡ list_any q rs
any-set q [] i y d e = refl
any-set q (r ∷ rs) zero y d e = ap (λ b. b || list_any q rs) e
any-set q (r ∷ rs) (suc i) y d e = ap (λ b. q r || b) (any-set q rs i y d e)

any-others : (q : ThreadRecord → Bool) (rs : List ThreadRecord) (i u : ℕ) (y d z : ThreadRecord) → q y ≡ q (get_or rs i d) → list_any q (set (set rs i y) u z) ≡ list_any q (set rs u z)
any-others q [] i u y d z e = refl
any-others q (r ∷ rs) zero zero y d z e = refl
any-others q (r ∷ rs) zero (suc u) y d z e = ap (λ b. b || list_any q (set rs u z)) e
any-others q (r ∷ rs) (suc i) zero y d z e = ap (λ b. q z || b) (any-set q rs i y d e)
any-others q (r ∷ rs) (suc i) (suc u) y d z e = ap (λ b. q r || b) (any-others q rs i u y d z e)

-- whether a test of what is bound passes for any thread
pub blind-any : (q : ThreadRecord → Bool) → ((r : ThreadRecord) (e : EglError) → q (record r { error = e }) ≡ q r) → (t : ℕ) (s : State) → Blind t s (λ a. list_any q a.threads)
blind-any q same t s w v x ne = any-set q s.threads v (record (record_of s v) { error = x.error }) initial (same (record_of s v) x.error)

pub blind-context_elsewhere : (t n : ℕ) (s : State) → Blind t s (λ a. is_context_elsewhere a.threads t n)
unfolding is_context_elsewhere
blind-context_elsewhere t n s w v x ne = any-others (has_context n) s.threads v t (record (record_of s v) { error = x.error }) initial initial refl

pub blind-surface_elsewhere : (t n : ℕ) (s : State) → Blind t s (λ a. is_surface_elsewhere a.threads t n)
unfolding is_surface_elsewhere
blind-surface_elsewhere t n s w v x ne = any-others (has_surface n) s.threads v t (record (record_of s v) { error = x.error }) initial initial refl

-- ---- What is the thread's own.
pub other_place : {A : Type 0} (g : Option Object → A) (f : Option Object → Option Object) → f None ≡ None → (p : Option ℕ) (os : List (Option Object)) (m : ℕ) → (is_place m p ≡ true → ⊥) → g (get_or (write f p os) m None) ≡ g (get_or os m None)
other_place g f z p os m away = ap g (get_or-write f z p os m ∙ cond-false (is_place m p) (f (get_or os m None)) (get_or os m None) (false_from_ne_true (is_place m p) away))

pub same_there : {A : Type 0} (g : Option Object → A) (f : Option Object → Option Object) → ((o : Option Object) → g (f o) ≡ g o) → (p : Option ℕ) (os : List (Option Object)) (m : ℕ) → g (get_or (write f p os) m None) ≡ g (get_or os m None)
unfolding write
same_there g f e None os m = refl
same_there g f e (Some n) os m = same_at_set g os n (f (get_or os n None)) None (e (get_or os n None)) m

context_in-image : (y : _) (o : Option Object) → as_context (set_image y o) ≡ as_context o
context_in-image y (Some (Storage v)) = refl
context_in-image y o = refl

storage_in-part : (y : _) (o : Option Object) → as_storage (set_part y o) ≡ as_storage o
storage_in-part y (Some (Context v)) = refl
storage_in-part y o = refl

context_in-written : (p : OwnObjects) (x : Own) (os : List (Option Object)) (n : ℕ) → IsNoContext n p → context_in (written p x os) n ≡ context_in os n
unfolding written
context_in-written p x os n away =
    same_there as_context (set_image x.read) (context_in-image x.read) p.read _ n
    ∙ same_there as_context (set_image x.draw) (context_in-image x.draw) p.draw _ n
    ∙ other_place as_context (set_part x.context) refl p.context os n away

storage_in-written : (p : OwnObjects) (x : Own) (os : List (Option Object)) (n : ℕ) → IsNoImage n p → storage_in (written p x os) n ≡ storage_in os n
unfolding written
storage_in-written p x os n away =
    other_place as_storage (set_image x.read) refl p.read _ n away.read
    ∙ other_place as_storage (set_image x.draw) refl p.draw _ n away.draw
    ∙ same_there as_storage (set_part x.context) (storage_in-part x.context) p.context os n

-- a thread's current context is current to no other thread
pub alone_with : (s : State) (t n : ℕ) → current_context s t ≡ Some n → IsWhole (shapes s.objects) s → NoneElse (has_context n) s.threads t
alone_with s t n e w u ne = false_from_ne_true (has_context n (record_of s u)) (λ h. ne (w.alone.contexts u t n h (is_current (record_of s t).context n e)))
  where
    is_current : (o : Option Bound) (n : ℕ) → option_map (λ b. b.object) o ≡ Some n → is_bound n o ≡ true
    is_current None n e = absurd (none-some n e)
    is_current (Some b) n e = eq-eqb b.object n (same_Some b.object n e)

pub blind-own_part : (t n : ℕ) (s : State) → current_context s t ≡ Some n → Blind t s (λ a. part_of_context a n)
blind-own_part t n s e w v x ne = ap (λ o. option_and_then (λ c. c.part) o) (context_in-written (own_objects s v) x s.objects n (no_context s v n (alone_with s t n e w v ne)))

-- and to a storage that it draws to or reads from no other thread draws, nor reads from it
record Linked (s : State) (b : Option Bound) (n : ℕ) : Type 0 where
  pub surface : ℕ
  pub bound : is_bound surface b ≡ true
  pub own : own_at (shapes s.objects) surface ≡ Some n
  pub pixels : is_in n (pixels_in (object_at s surface)) ≡ true

linked : (s : State) (b : Option Bound) (n : ℕ) → is_place n (link s.objects b) ≡ true → Linked s b n
linked s None n h = absurd (let e : false ≡ true = h in cc)
linked s (Some b) n h = let o = get_or s.objects b.object None in
    record { surface = b.object; bound = eq-eqb b.object b.object refl; own = own_at-shapes s.objects b.object ∙ own o h; pixels = pixels o h }
  where
    own : (o : Option Object) → is_place n (option_map (λ (x : BackedSurface). x.storage) (as_surface o)) ≡ true → own_in o ≡ Some n
    own (Some (Surface x)) h = ap Some (eqb-true x.storage n h)
    own o h = absurd (let e : false ≡ true = h in cc)

    pixels : (o : Option Object) → is_place n (option_map (λ (x : BackedSurface). x.storage) (as_surface o)) ≡ true → is_in n (pixels_in o) ≡ true
    pixels (Some (Surface x)) h = ap (λ b. b || false) h
    pixels o h = absurd (let e : false ≡ true = h in cc)

-- what thread t has bound, b, leads to the storage n
draws_alone : (s : State) (t n : ℕ) (b : Option Bound) → ((m : ℕ) → is_bound m b ≡ true → has_surface m (record_of s t) ≡ true) → link s.objects b ≡ Some n → IsWhole (shapes s.objects) s → NoneElse (draws s.objects n) s.threads t
draws_alone s t n b has e w u ne = false_from_ne_true (draws s.objects n (record_of s u)) (λ h. by_two (is_place n (draw_storage s u)) refl h)
  where
    meet : (o : Option Bound) → ((m : ℕ) → is_bound m o ≡ true → has_surface m (record_of s u) ≡ true) → is_place n (link s.objects o) ≡ true → ⊥
    meet o hasnt h =
        let x = linked s b n (ap (is_place n) e ∙ eq-eqb n n refl) in let y = linked s o n h in
        let same = w.storages.each x.surface y.surface n x.own y.pixels in
        ne (w.alone.surfaces u t x.surface (ap (λ m. has_surface m (record_of s u)) (sym same) ∙ hasnt y.surface y.bound) (has x.surface x.bound))

    by_two : (b : Bool) → is_place n (draw_storage s u) ≡ b → draws s.objects n (record_of s u) ≡ true → ⊥
    by_two true f h = meet (record_of s u).draw (λ m i. or_left _ (is_bound m (record_of s u).read) i) f
    by_two false f h = meet (record_of s u).read (λ m i. or_right (is_bound m (record_of s u).draw) _ i) (sym (ap (λ b. b || is_place n (read_storage s u)) f) ∙ h)

-- what stands among the pixels of an object that isn't a surface is no surface's
pub free_pixels : (s : State) (n k : ℕ) → own_in (object_at s n) ≡ None → is_in k (pixels_in (object_at s n)) ≡ true → IsWhole (shapes s.objects) s → IsFree (shapes s.objects) k
free_pixels s n k none h w = record {
  each = λ m e. let same : n ≡ m = w.storages.each m n k e h in none-some k (sym (own_at-shapes s.objects n ∙ none) ∙ ap (own_at (shapes s.objects)) same ∙ e);
}

-- a storage of no surface is drawn to by none
pub free_undrawn : (s : State) (t n : ℕ) → IsFree (shapes s.objects) n → NoneElse (draws s.objects n) s.threads t
free_undrawn s t n f u ne = false_from_ne_true (draws s.objects n (record_of s u)) (λ h. by_two (is_place n (draw_storage s u)) refl h)
  where
    by_two : (b : Bool) → is_place n (draw_storage s u) ≡ b → draws s.objects n (record_of s u) ≡ true → ⊥
    by_two true e h = let x = linked s (record_of s u).draw n e in f.each x.surface x.own
    by_two false e h = let x = linked s (record_of s u).read n (sym (ap (λ b. b || is_place n (read_storage s u)) e) ∙ h) in f.each x.surface x.own

pub draw_alone : (s : State) (t n : ℕ) → draw_storage s t ≡ Some n → IsWhole (shapes s.objects) s → NoneElse (draws s.objects n) s.threads t
draw_alone s t n e = draws_alone s t n (record_of s t).draw (λ m i. or_left _ (is_bound m (record_of s t).read) i) e

pub read_alone : (s : State) (t n : ℕ) → read_storage s t ≡ Some n → IsWhole (shapes s.objects) s → NoneElse (draws s.objects n) s.threads t
read_alone s t n e = draws_alone s t n (record_of s t).read (λ m i. or_right (is_bound m (record_of s t).draw) _ i) e

pub blind-own_storage : (t : ℕ) (o : Option ℕ) (s : State) → ((n : ℕ) → o ≡ Some n → IsWhole (shapes s.objects) s → NoneElse (draws s.objects n) s.threads t) → Blind t s (λ a. option_and_then (storage_in a.objects) o)
blind-own_storage t None s mine w v x ne = refl
blind-own_storage t (Some n) s mine w v x ne = storage_in-written (own_objects s v) x s.objects n (no_image s v n (mine n refl w v ne))
