-- What is put for one thread, and a move that another thread makes, may come in either order.
use Rattle.std.proofs.Common.{◌≡◌, ◌≢◌, ℕ, ◌<◌, Bool, true, false, cond, ◌||◌, ◌⊎◌, inl, inr, List, [], ◌∷◌, ◌++◌, zero, suc, refl, sym, ap, ◌∙◌, length, get_or, set, map, is_some, Option, None, Some, arith}
use Rattle.std.specs.Prelude.{◌==◌, option_to_list}
use Rattle.std.specs.Option.{option_and_then, option_map, option_map_or}
use Rattle.std.proofs.lemmas.Bool.{both_ways, eq-eqb, eqb-true, or_left, or_right}
use Rattle.std.proofs.lemmas.List.{get_or-set_other, set_comm}
use Rattle.driver_objects.specs.declared.kinds.ObjectKind.TheVariants.{Context as a_context, Storage as a_storage}
use Rattle.driver_objects.specs.declared.surfaces.BackedSurface.{BackedSurface}
use Rattle.driver_objects.specs.declared.contexts.Context.{Context as ContextObject}
use Rattle.driver_objects.specs.declared.objects.Object.{Object}
use Rattle.driver_objects.specs.declared.objects.Object.TheVariants.{Context, Surface}
use Rattle.egl_model.specs.declared.records.Bound.{Bound}
use Rattle.egl_model.specs.declared.records.ThreadRecord.{ThreadRecord}
use Rattle.egl_model.specs.Graph.{is_in}
use Rattle.egl_model.specs.State.{State, initial, object_at, record_of}
use Rattle.egl_model.specs.Objects.{as_context, as_surface, change}
use Rattle.egl_model.specs.Currents.{current_context, draw_storage, has_context, is_bound, read_storage, display_at, handle_of}
use Rattle.egl_model.specs.Parts.{Kept, Own, OwnObjects, are_same, kept_of, is_place, own_objects, put_at, put_own, read_place, set_image, set_part, write, written}
use Rattle.model_laws.specs.Shapes.{Goes, Leads, Shape, shape_in, shapes, slots_in}
use Rattle.model_laws.specs.Sound.{IsWhole}
use Rattle.egl_model.specs.Sweep.{roots, sweep, swept}
use Rattle.model_laws.specs.Slots.{ends, held_slots}
use Rattle.model_laws.proofs.Changes.FrameMoves.{frame-apply}
use Rattle.model_laws.proofs.References.LinkLaws.{same_object}
use Rattle.model_laws.proofs.References.LitterLaws.{roots-set_error}
use Rattle.model_laws.proofs.Changes.Moves.{Add, AllFit, AllHold, Wait, Bind, Body, Change, Fits, Flags, Holds, Keep, Move, Name, Note, Swap, PastImage, PastPart, Resize, Suits, apply, draws, link, own_in, play, shapes_after}
use Rattle.model_laws.proofs.References.Places.{at_old, length-shapes, same_at_set, within_shapes}
use Rattle.model_laws.proofs.References.Slots.{in_left, in_right}
use Rattle.model_laws.proofs.Changes.WholeMoves.{after_shapes, from_shapes}
use Rattle.model_laws.proofs.References.WholeSweep.{by_slots, is_held, reached_root, held_as_ends}
use Rattle.model_laws.proofs.Changes.Writes.{AreBelow, IsBelow, IsBlind, write-write, written-append, written-by, written-swept}

-- ---- Objects.
-- no context, or no image, of this number is at these own objects
abbrev pub IsNoContext : ℕ → OwnObjects → Type 0
IsNoContext n p = is_place n p.context ≡ true → ⊥

pub record IsNoImage (n : ℕ) (p : OwnObjects) : Type 0 where
  pub draw : is_place n p.draw ≡ true → ⊥
  pub read : is_place n p.read ≡ true → ⊥

at_one : (n m : ℕ) (p : Option ℕ) → (is_place n p ≡ true → ⊥) → is_place m p ≡ true → is_place m (Some n) ≡ true → ⊥
at_one n m None away h k = absurd (let e : false ≡ true = h in cc)
at_one n m (Some j) away h k = away (let e : (j == m) ≡ true = h in let f : (n == m) ≡ true = k in both j n m e f)
  where
    both : (j n m : ℕ) → (j == m) ≡ true → (n == m) ≡ true → (j == n) ≡ true
    both j n m e f = let a = eqb-true j m e in let b = eqb-true n m f in eq-eqb j n (omega (arith, a, b))

pub change-written : (f : Option Object → Option Object) (n : ℕ) (p : OwnObjects) (x : Own) (os : List (Option Object)) → f None ≡ None → PastPart f ⊎ IsNoContext n p → PastImage f ⊎ IsNoImage n p → change f n (written p x os) ≡ written p x (change f n os)
unfolding write
change-written f n p x os z a b = sym (written-by (write f (Some n)) p x
    (write-write (set_part x.context) f p.context (Some n) refl z (λ m h k. elim a [
      | inl past ↦ past x.context
      | inr away ↦ absurd (at_one n m p.context away h k)
    ]))
    (write-write (set_image x.draw) f p.draw (Some n) refl z (λ m h k. elim b [
      | inl past ↦ past x.draw
      | inr away ↦ absurd (at_one n m p.draw away.draw h k)
    ]))
    (write-write (set_image x.read) f p.read (Some n) refl z (λ m h k. elim b [
      | inl past ↦ past x.read
      | inr away ↦ absurd (at_one n m p.read away.read h k)
    ])) os)

map_set : (g f : Option Object → Option Object) → ((o : Option Object) → g (f o) ≡ f (g o)) → (os : List (Option Object)) (n : ℕ) → set (map f os) n (g (get_or (map f os) n None)) ≡ map f (set os n (g (get_or os n None)))
map_set g f c [] n = refl
map_set g f c (o ∷ os) zero = ap (λ y. y ∷ map f os) (c o)
map_set g f c (o ∷ os) (suc n) = ap (λ ys. f o ∷ ys) (map_set g f c os n)

write-map : (g f : Option Object → Option Object) → ((o : Option Object) → g (f o) ≡ f (g o)) → (p : Option ℕ) (os : List (Option Object)) → write g p (map f os) ≡ map f (write g p os)
unfolding write
write-map g f c None os = refl
write-map g f c (Some n) os = map_set g f c os n

pub objects-put : (p : OwnObjects) (t : ℕ) (x : Own) (s : State) (os ps : List (Option Object)) → ps ≡ written p x os → record (put_at p t x s) { objects = ps } ≡ put_at p t x (record s { objects = os })
objects-put p t x s os ps e = ap (λ (qs : List (Option Object)). record (put_at p t x s) { objects = qs }) e

-- ---- Records.
records_apart : (g h : ThreadRecord → ThreadRecord) (ts : List ThreadRecord) (t u : ℕ) → t ≢ u →
    set (set ts t (g (get_or ts t initial))) u (h (get_or (set ts t (g (get_or ts t initial))) u initial)) ≡ set (set ts u (h (get_or ts u initial))) t (g (get_or (set ts u (h (get_or ts u initial))) t initial))
records_apart g h ts t u ne =
    ap (λ r. set (set ts t (g (get_or ts t initial))) u (h r)) (get_or-set_other ts t u (g (get_or ts t initial)) initial (λ e. ne (sym e)))
    ∙ set_comm ts t u (g (get_or ts t initial)) (h (get_or ts u initial)) ne
    ∙ ap (λ r. set (set ts u (h (get_or ts u initial))) t (g r)) (sym (get_or-set_other ts u t (h (get_or ts u initial)) initial ne))

pub record_of-put : (p : OwnObjects) (t u : ℕ) (x : Own) (s : State) → u ≢ t → record_of (put_at p t x s) u ≡ record_of s u
record_of-put p t u x s ne = get_or-set_other s.threads t u _ initial ne

record-past : (p : OwnObjects) (v t : ℕ) (x : Own) (s : State) (h : ThreadRecord → ThreadRecord) → v ≢ t →
    record (put_at p v x s) { threads = set (put_at p v x s).threads t (h (record_of (put_at p v x s) t)) } ≡ put_at p v x (record s { threads = set s.threads t (h (record_of s t)) })
record-past p v t x s h ne = ap (λ (ts : List ThreadRecord). record s { objects = written p x s.objects; threads = ts })
    (records_apart (λ r. record r { error = x.error }) h s.threads v t ne)

-- ---- Where the own objects of a thread stand.
pub surface_link : (o : Option Object) → option_map (λ (x : BackedSurface). x.storage) (as_surface o) ≡ own_in o
surface_link (Some (Surface x)) = refl
surface_link o = refl

link-same : (os ps : List (Option Object)) (b : Option Bound) → ((n : ℕ) → is_bound n b ≡ true → own_in (get_or os n None) ≡ own_in (get_or ps n None)) → link os b ≡ link ps b
link-same os ps None h = refl
link-same os ps (Some b) h = surface_link (get_or os b.object None) ∙ h b.object (eq-eqb b.object b.object refl) ∙ sym (surface_link (get_or ps b.object None))

abbrev placed : Option ℕ → Option ℕ → Option ℕ → OwnObjects
placed c d r = record { context = c; draw = d; read = read_place d r }

own_shaped : (o p : Option Object) → shape_in o ≡ shape_in p → own_in o ≡ own_in p
own_shaped o p e = sym (of_shape o) ∙ ap (option_and_then (λ (x : Shape). x.own)) e ∙ of_shape p
  where
    of_shape : (o : Option Object) → option_and_then (λ (x : Shape). x.own) (shape_in o) ≡ own_in o
    of_shape None = refl
    of_shape (Some o) = refl

-- what thread v has in a state it has in the other, too, and the shapes of what it holds are the same
pub record Stands (s a : State) (v : ℕ) : Type 0 where
  pub same : record_of a v ≡ record_of s v
  pub held : (n : ℕ) → is_in n (ends (held_slots (record_of s v))) ≡ true → shape_in (object_at a n) ≡ shape_in (object_at s n)

pub stands_then : (a b c : State) (v : ℕ) → Stands a b v → Stands b c v → Stands a c v
stands_then a b c v f g = record { same = g.same ∙ f.same; held = λ n h. g.held n (ap (λ (r : ThreadRecord). is_in n (ends (held_slots r))) f.same ∙ h) ∙ f.held n h }

bound_in : (m : ℕ) (o : Option Bound) → is_bound m o ≡ true → is_in m (option_to_list (option_map (λ b. b.object) o)) ≡ true
bound_in m None h = absurd (let e : false ≡ true = h in cc)
bound_in m (Some b) h = ap (λ x. x || false) h

held_context : (n : ℕ) (r : ThreadRecord) → is_bound n r.context ≡ true → is_in n (ends (held_slots r)) ≡ true
held_context n r h = in_left n (option_to_list (option_map (λ (b : Bound). b.object) r.context)) _ (bound_in n r.context h)

held_draw : (n : ℕ) (r : ThreadRecord) → is_bound n r.draw ≡ true → is_in n (ends (held_slots r)) ≡ true
held_draw n r h = in_right n (option_to_list (option_map (λ (b : Bound). b.object) r.context)) _ (in_left n (option_to_list (option_map (λ (b : Bound). b.object) r.draw)) _ (bound_in n r.draw h))

held_read : (n : ℕ) (r : ThreadRecord) → is_bound n r.read ≡ true → is_in n (ends (held_slots r)) ≡ true
held_read n r h = in_right n (option_to_list (option_map (λ (b : Bound). b.object) r.context)) _ (in_right n (option_to_list (option_map (λ (b : Bound). b.object) r.draw)) _ (in_left n (option_to_list (option_map (λ (b : Bound). b.object) r.read)) _ (bound_in n r.read h)))

pub own_objects-stand : (s a : State) (v : ℕ) → Stands s a v → own_objects a v ≡ own_objects s v
own_objects-stand s a v h =
    ap (λ (r : ThreadRecord). placed (option_map (λ (b : Bound). b.object) r.context) (link a.objects r.draw) (link a.objects r.read)) h.same
    ∙ ap (λ d. placed (current_context s v) d (link a.objects (record_of s v).read)) (link-same a.objects s.objects (record_of s v).draw (λ n i. own_shaped (object_at a n) (object_at s n) (h.held n (held_draw n (record_of s v) i))))
    ∙ ap (λ r. placed (current_context s v) (draw_storage s v) r) (link-same a.objects s.objects (record_of s v).read (λ n i. own_shaped (object_at a n) (object_at s n) (h.held n (held_read n (record_of s v) i))))

home_shaped : (o p : Option Object) → shape_in o ≡ shape_in p → option_map_or (λ (c : ContextObject). c.display) (as_context o) 0 ≡ option_map_or (λ (c : ContextObject). c.display) (as_context p) 0
home_shaped o p e = sym (of_shape o) ∙ ap (λ x. option_map_or (λ d. d) (option_and_then (λ (x : Shape). x.home) x) 0) e ∙ of_shape p
  where
    of_shape : (o : Option Object) → option_map_or (λ d. d) (option_and_then (λ (x : Shape). x.home) (shape_in o)) 0 ≡ option_map_or (λ (c : ContextObject). c.display) (as_context o) 0
    of_shape None = refl
    of_shape (Some (Context c)) = refl
    of_shape (Some o) = no_home o
      where
        no_home : (o : Object) → option_map_or (λ d. d) (option_and_then (λ (x : Shape). x.home) (shape_in (Some o))) 0 ≡ option_map_or (λ (c : ContextObject). c.display) (as_context (Some o)) 0
        no_home (Context c) = refl
        no_home o = refl

display-same : (s a : State) (b : Option Bound) → ((n : ℕ) → is_bound n b ≡ true → shape_in (object_at a n) ≡ shape_in (object_at s n)) → display_at a (option_map (λ (b : Bound). b.object) b) ≡ display_at s (option_map (λ (b : Bound). b.object) b)
display-same s a None h = refl
display-same s a (Some b) h = home_shaped (object_at a b.object) (object_at s b.object) (h b.object (eq-eqb b.object b.object refl))

abbrev kept_with : ℕ → ThreadRecord → Option ℕ → Option ℕ → Kept
kept_with d r x y = record { api = r.api; display = d; context = handle_of r.context; draw = handle_of r.draw; read = handle_of r.read; waits = is_some r.wait; same = are_same x y }

pub kept-stand : (s a : State) (v : ℕ) → Stands s a v → kept_of a v ≡ kept_of s v
kept-stand s a v h =
    ap (λ (r : ThreadRecord). kept_with (display_at a (option_map (λ (b : Bound). b.object) r.context)) r (link a.objects r.draw) (link a.objects r.read)) h.same
    ∙ ap (λ d. kept_with d (record_of s v) (link a.objects (record_of s v).draw) (link a.objects (record_of s v).read)) (display-same s a (record_of s v).context (λ n i. h.held n (held_context n (record_of s v) i)))
    ∙ ap (λ d. kept_with (display_at s (current_context s v)) (record_of s v) d (link a.objects (record_of s v).read)) (link-same a.objects s.objects (record_of s v).draw (λ n i. own_shaped (object_at a n) (object_at s n) (h.held n (held_draw n (record_of s v) i))))
    ∙ ap (λ d. kept_with (display_at s (current_context s v)) (record_of s v) (draw_storage s v) d) (link-same a.objects s.objects (record_of s v).read (λ n i. own_shaped (object_at a n) (object_at s n) (h.held n (held_read n (record_of s v) i))))

held_is_there : (sh : List (Option Shape)) (s : State) (v n : ℕ) → IsWhole sh s → is_in n (ends (held_slots (record_of s v))) ≡ true → n < length sh
held_is_there sh s v n w h = let a = by_slots sh (held_slots (record_of s v)) n (w.kinds.threads v) h in within_shapes sh a.kind n a.has

held-apply : (t v : ℕ) (m : Move) (sh : List (Option Shape)) (s : State) → shapes s.objects ≡ sh → Holds m → IsWhole sh s → (n : ℕ) → is_in n (ends (held_slots (record_of s v))) ≡ true → shape_in (object_at (apply t m s) n) ≡ shape_in (object_at s n)
held-apply t v (Flags a b) sh s e h w n i = refl
held-apply t v (Swap id i) sh s e h w n l = refl
held-apply t v (Note x) sh s e h w n i = refl
held-apply t v (Wait x) sh s e h w n i = refl
held-apply t v (Bind c d r) sh s e h w n i = refl
held-apply t v (Change k g) sh s e h w n i = let o = get_or s.objects k None in same_at_set shape_in s.objects k (g o) None (ap (λ (b : Body). b.shape) (h o)) n
held-apply t v (Resize k g b) sh s e h w n i = let o = get_or s.objects k None in same_at_set shape_in s.objects k (g o) None (h.0 o) n
held-apply t v (Add os) sh s e h w n i = let a = held_is_there sh s v n w i in let b = length-shapes s.objects in let c = ap length e in ap shape_in (at_old s.objects os None n (omega (arith, a, b, c)))
held-apply t v (Name d k m) sh s e h w n i = refl
held-apply t v (Keep p) sh s e h w n i = refl

pub stands-apply : (t v : ℕ) (m : Move) (sh : List (Option Shape)) (s : State) → v ≢ t → shapes s.objects ≡ sh → Holds m → IsWhole sh s → Stands s (apply t m s) v
stands-apply t v m sh s ne e h w = record { same = (frame-apply t m s h).others v ne; held = held-apply t v m sh s e h w }

-- each place is below the length
storage_below : (sh : List (Option Shape)) (o : Option Object) → Leads sh (slots_in o) → IsBelow (option_map (λ (x : BackedSurface). x.storage) (as_surface o)) (length sh)
storage_below sh (Some (Surface x)) l = within_shapes sh a_storage x.storage l.0
storage_below sh o l = tt

link_below : (sh : List (Option Shape)) (s : State) (b : Option Bound) → IsWhole sh s → IsBelow (link s.objects b) (length sh)
link_below sh s None w = tt
link_below sh s (Some b) w = storage_below sh (get_or s.objects b.object None) (w.kinds.objects b.object)

context_below : (sh : List (Option Shape)) (b : Option Bound) → Goes sh a_context (option_map (λ b. b.object) b) → IsBelow (option_map (λ (b : Bound). b.object) b) (length sh)
context_below sh None g = tt
context_below sh (Some b) g = within_shapes sh a_context b.object g

read_below : (k : ℕ) (b : Bool) (o : Option ℕ) → IsBelow o k → IsBelow (cond b None o) k
read_below k true o h = tt
read_below k false o h = h

below-own_objects : (sh : List (Option Shape)) (s : State) (v : ℕ) → IsWhole sh s → AreBelow (own_objects s v) (length sh)
below-own_objects sh s v w = record {
  context = context_below sh (record_of s v).context (w.kinds.threads v).0;
  draw = link_below sh s (record_of s v).draw w;
  read = read_below (length sh) (are_same (draw_storage s v) (read_storage s v)) (read_storage s v) (link_below sh s (record_of s v).read w);
}

-- a place of no other thread is none of this thread's own objects
pub of_read_place : (n : ℕ) (b : Bool) (o : Option ℕ) → is_place n (cond b None o) ≡ true → is_place n o ≡ true
of_read_place n true o h = absurd (let e : false ≡ true = h in cc)
of_read_place n false o h = h

is_bound-place : (n : ℕ) (o : Option Bound) → is_place n (option_map (λ (b : Bound). b.object) o) ≡ true → is_bound n o ≡ true
is_bound-place n None h = h
is_bound-place n (Some b) h = h

pub no_context : (s : State) (v n : ℕ) → has_context n (record_of s v) ≡ false → IsNoContext n (own_objects s v)
no_context s v n h = λ i. both_ways (has_context n (record_of s v)) h (is_bound-place n (record_of s v).context i)

pub no_image : (s : State) (v n : ℕ) → draws s.objects n (record_of s v) ≡ false → IsNoImage n (own_objects s v)
no_image s v n h = record {
  draw = λ i. both_ways (draws s.objects n (record_of s v)) h (or_left (is_place n (draw_storage s v)) (is_place n (read_storage s v)) i);
  read = λ i. both_ways (draws s.objects n (record_of s v)) h (or_right (is_place n (draw_storage s v)) (is_place n (read_storage s v)) (of_read_place n (are_same (draw_storage s v) (read_storage s v)) (read_storage s v) i));
}

-- ---- Each move.
none_stays : (o : Option Object) → shape_in o ≡ None → o ≡ None
none_stays None e = refl
none_stays (Some o) e = absurd (let f : Some _ ≡ None = e in cc)

change-put : (t v n : ℕ) (f : Option Object → Option Object) (x : Own) (sh : List (Option Shape)) (s : State) → v ≢ t → shape_in (f None) ≡ None → Suits t sh s n f →
    record (put_own s v x) { objects = change f n (put_own s v x).objects } ≡ put_at (own_objects s v) v x (record s { objects = change f n s.objects })
change-put t v n f x sh s ne z u = objects-put (own_objects s v) v x s (change f n s.objects) _ (change-written f n (own_objects s v) x s.objects (none_stays (f None) z)
    (elim u.part [
      | inl past ↦ inl past
      | inr mine ↦ inr (no_context s v n (mine v ne))
    ])
    (elim u.image [
      | inl past ↦ inl past
      | inr mine ↦ inr (no_image s v n (mine v ne))
    ]))

pub move-put : (t v : ℕ) (m : Move) (x : Own) (sh : List (Option Shape)) (s : State) → v ≢ t → shapes s.objects ≡ sh → Holds m → Fits t sh s m → IsWhole sh s →
    apply t m (put_own s v x) ≡ put_at (own_objects s v) v x (apply t m s)
move-put t v (Flags a b) x sh s ne e h f w = refl
move-put t v (Swap id i) x sh s ne e h f w = refl
move-put t v (Note y) x sh s ne e h f w = record-past (own_objects s v) v t x s (λ r. record r { error = y }) ne
move-put t v (Wait y) x sh s ne e h f w = record-past (own_objects s v) v t x s (λ r. record r { wait = y }) ne
move-put t v (Bind c d r) x sh s ne e h f w = record-past (own_objects s v) v t x s (λ q. record q { context = c; draw = d; read = r }) ne
move-put t v (Change n g) x sh s ne e h f w = change-put t v n g x sh s ne (ap (λ (b : Body). b.shape) (h None)) f
move-put t v (Resize n g b) x sh s ne e h f w = change-put t v n g x sh s ne (h.0 None) f
move-put t v (Add os) x sh s ne e h f w = objects-put (own_objects s v) v x s (s.objects ++ os) _ (sym (written-append (own_objects s v) x s.objects os (below_in (length sh) (length s.objects) (sym (ap length e) ∙ length-shapes s.objects) (below-own_objects sh s v w))))
  where
    below_as : (p : Option ℕ) (j k : ℕ) → j ≡ k → IsBelow p j → IsBelow p k
    below_as None j k e b = tt
    below_as (Some n) j k e b = let c : n < j = b in omega (arith, c, e)

    below_in : (j k : ℕ) → j ≡ k → AreBelow (own_objects s v) j → AreBelow (own_objects s v) k
    below_in j k e b = record { context = below_as (current_context s v) j k e b.context; draw = below_as (draw_storage s v) j k e b.draw; read = below_as (read_place (draw_storage s v) (read_storage s v)) j k e b.read }
move-put t v (Name d k n) x sh s ne e h f w = refl
move-put t v (Keep p) x sh s ne e h f w = refl

-- ---- A row of moves.
pub record Passes (t v : ℕ) (x : Own) (ms : List Move) (s : State) : Type 0 where
  pub stands : Stands s (play t ms s) v
  pub put : play t ms (put_own s v x) ≡ put_at (own_objects s v) v x (play t ms s)

passes-moves : (t v : ℕ) (x : Own) (ms : List Move) (sh : List (Option Shape)) (s : State) → v ≢ t → shapes s.objects ≡ sh → AllHold ms → AllFit t sh s ms → IsWhole sh s → Passes t v x ms s
passes-moves t v x [] sh s ne e h f w = record { stands = record { same = refl; held = λ n i. refl }; put = refl }
passes-moves t v x (m ∷ ms) sh s ne e h f w =
    let g = f w in let a = apply t m s in let stays = stands-apply t v m sh s ne e h.0 w in let same = own_objects-stand s a v stays in
    let rest = passes-moves t v x ms (shapes_after sh m) a ne (after_shapes t sh m s e h.0) h.1 g.1 (from_shapes t sh m s e g.0 w) in
    record {
      stands = stands_then s a (play t ms a) v stays rest.stands;
      put =
          ap (play t ms) (move-put t v m x sh s ne e h.0 g.0 w ∙ ap (λ (p : OwnObjects). put_at p v x a) (sym same))
          ∙ rest.put ∙ ap (λ (p : OwnObjects). put_at p v x (play t ms a)) same;
    }

pub passes-play : (t v : ℕ) (x : Own) (ms : List Move) (s : State) → v ≢ t → AllHold ms → AllFit t (shapes s.objects) s ms → IsWhole (shapes s.objects) s → Passes t v x ms s
passes-play t v x ms s ne h f w = passes-moves t v x ms (shapes s.objects) s ne refl h f w

-- ---- Sweeps, and what they signal.
pub sweep-put : (p : OwnObjects) (v : ℕ) (x : Own) (s : State) → sweep (put_at p v x s) ≡ put_at p v x (sweep s)
sweep-put p v x s = ap (λ (os : List (Option Object)). record (put_at p v x s) { objects = os })
    (ap (λ rs. swept rs (written p x s.objects)) (roots-set_error s v x.error) ∙ sym (written-swept p x (roots s) s.objects))

blind-exists : IsBlind (λ (o : Option Object). is_some o)
blind-exists None = refl
blind-exists (Some o) = strips o
  where
    strips : (o : Object) → is_some (set_image None (set_part None (Some o))) ≡ true
    strips (Surface x) = refl
    strips o = refl

pub stands-swept : (s : State) (v : ℕ) → Stands s (sweep s) v
stands-swept s v = record {
  same = refl;
  held = λ n h. ap shape_in (same_object s n (reached_root s n (is_held s.handles s.threads v n (ap (is_in n) (held_as_ends (record_of s v)) ∙ h))));
}
