-- A step keeps the parts of other threads.
use Rattle.std.proofs.Common.{◌≡◌, ◌≢◌, ℕ, ◌<◌, Bool, true, false, cond, List, refl, sym, ap, ◌∙◌, arith, length, get_or, Option, None, Some, is_some}
use Rattle.std.proofs.lemmas.Bool.{cond-true, eq-eqb}
use Rattle.std.proofs.lemmas.List.{get_or-set_same}
use Rattle.std.proofs.lemmas.Option.{none-some, same_Some}
use Rattle.egl_calls.specs.Calls.{CallValue}
use Rattle.egl_calls.specs.declared.errors.EglError.{EglError}
use Rattle.context_state.specs.Parts.{PartValue}
use Rattle.pixel_rows.specs.Images.{ImageValue}
use Rattle.driver_objects.specs.declared.objects.Object.{Object}
use Rattle.driver_objects.specs.declared.objects.Object.TheVariants.{Context, Storage}
use Rattle.driver_objects.specs.Objects.{kind_of}
use Rattle.egl_model.specs.declared.records.ThreadRecord.{ThreadRecord}
use Rattle.egl_model.specs.State.{State, initial, object_at, record_of}
use Rattle.egl_model.specs.Objects.{as_context, as_storage}
use Rattle.egl_model.specs.Currents.{current_context, draw_storage, read_storage}
use Rattle.model_laws.specs.Shapes.{Goes, shapes}
use Rattle.model_laws.specs.Sound.{IsWhole}
use Rattle.egl_model.specs.Step.{Stepped, step}
use Rattle.driver_objects.specs.declared.kinds.ObjectKind.{ObjectKind}
use Rattle.driver_objects.specs.declared.kinds.ObjectKind.TheVariants.{Context as a_context, Storage as a_storage}
use Rattle.std.specs.Option.{option_map, option_map_or}
use Rattle.egl_model.specs.declared.records.Bound.{Bound}
use Rattle.egl_model.specs.Parts.{Kept, Own, OwnObjects, Private, are_same, at_place, image_in, is_place, kept_of, own_at, own_of, part_in, part_of, own_objects, put_at, read_place, set_image, set_part, write, written}
use Rattle.model_laws.proofs.Steps.Blinds.{other_place, same_there}
use Rattle.model_laws.proofs.Changes.Moves.{link}
use Rattle.model_laws.proofs.References.Places.{kind_at-shapes}
use Rattle.model_laws.proofs.Changes.PutMoves.{kept-stand, surface_link}
use Rattle.model_laws.proofs.Parts.Puts.{IsDistinct, distinct-own_objects, put-own_of}
use Rattle.model_laws.proofs.References.Slots.{own_is_storage}
use Rattle.model_laws.proofs.Steps.StepKeeps.{keeps-step}
use Rattle.model_laws.proofs.Steps.StepPut.{own_objects-step, step-put_at}
use Rattle.model_laws.proofs.Changes.Writes.{get_or-write}

-- ---- What is put is what is then there, where there is room for it.
abbrev pub FitsPart : Option ℕ → Option PartValue → List (Option Object) → Type 0
FitsPart None x os = x ≡ None
FitsPart (Some n) x os = is_some (as_context (get_or os n None)) ≡ true

abbrev pub FitsImage : Option ℕ → Option ImageValue → List (Option Object) → Type 0
FitsImage None x os = x ≡ None
FitsImage (Some n) x os = is_some (as_storage (get_or os n None)) ≡ true

pub record Fits (p : OwnObjects) (t : ℕ) (x : Own) (s : State) : Type 0 where
  pub thread : t < length s.threads
  pub context : FitsPart p.context x.context s.objects
  pub draw : FitsImage p.draw x.draw s.objects
  pub read : FitsImage p.read x.read s.objects

part_put : (x : Option PartValue) (o : Option Object) → is_some (as_context o) ≡ true → part_in (set_part x o) ≡ x
part_put x (Some (Context c)) h = refl
part_put x o h = absurd (let e : false ≡ true = h in cc)

image_put : (x : Option ImageValue) (o : Option Object) → is_some (as_storage o) ≡ true → image_in (set_image x o) ≡ x
image_put x (Some (Storage y)) h = refl
image_put x o h = absurd (let e : false ≡ true = h in cc)

at_write : {A : Type 0} (g : Option Object → Option A) (f : Option Object → Option Object) → f None ≡ None → (n : ℕ) (os : List (Option Object)) → g (get_or (write f (Some n) os) n None) ≡ g (f (get_or os n None))
at_write g f z n os = ap g (get_or-write f z (Some n) os n ∙ cond-true (is_place n (Some n)) (f (get_or os n None)) (get_or os n None) (eq-eqb n n refl))

part_in-image : (x : Option ImageValue) (p : Option ℕ) (os : List (Option Object)) (n : ℕ) → part_in (get_or (write (set_image x) p os) n None) ≡ part_in (get_or os n None)
part_in-image x p os n = same_there part_in (set_image x) same p os n
  where
    same : (o : Option Object) → part_in (set_image x o) ≡ part_in o
    same (Some (Storage v)) = refl
    same o = refl

storage-part : (x : Option PartValue) (p : Option ℕ) (os : List (Option Object)) (n : ℕ) → is_some (as_storage (get_or (write (set_part x) p os) n None)) ≡ is_some (as_storage (get_or os n None))
storage-part x p os n = same_there (λ o. is_some (as_storage o)) (set_part x) same p os n
  where
    same : (o : Option Object) → is_some (as_storage (set_part x o)) ≡ is_some (as_storage o)
    same (Some (Context c)) = refl
    same o = refl

storage-image : (x : Option ImageValue) (p : Option ℕ) (os : List (Option Object)) (n : ℕ) → is_some (as_storage (get_or (write (set_image x) p os) n None)) ≡ is_some (as_storage (get_or os n None))
storage-image x p os n = same_there (λ o. is_some (as_storage o)) (set_image x) same p os n
  where
    same : (o : Option Object) → is_some (as_storage (set_image x o)) ≡ is_some (as_storage o)
    same (Some (Storage v)) = refl
    same o = refl

part-written : (q d r : Option ℕ) (x : Own) (os : List (Option Object)) → FitsPart q x.context os → at_place part_in q (written (record { context = q; draw = d; read = r }) x os) ≡ x.context
unfolding written at_place
part-written None d r x os f = sym f
part-written (Some n) d r x os f =
    part_in-image x.read r (write (set_image x.draw) d (write (set_part x.context) (Some n) os)) n
    ∙ part_in-image x.draw d (write (set_part x.context) (Some n) os) n
    ∙ at_write part_in (set_part x.context) refl n os ∙ part_put x.context (get_or os n None) f

draw-written : (q d r : Option ℕ) (x : Own) (os : List (Option Object)) → ((m : ℕ) → is_place m d ≡ true → is_place m r ≡ true → ⊥) → FitsImage d x.draw os → at_place image_in d (written (record { context = q; draw = d; read = r }) x os) ≡ x.draw
unfolding written at_place
draw-written q None r x os w f = sym f
draw-written q (Some n) r x os w f =
    other_place image_in (set_image x.read) refl r (write (set_image x.draw) (Some n) (write (set_part x.context) q os)) n (w n (eq-eqb n n refl))
    ∙ at_write image_in (set_image x.draw) refl n (write (set_part x.context) q os)
    ∙ image_put x.draw (get_or (write (set_part x.context) q os) n None) (storage-part x.context q os n ∙ f)

read-written : (q d r : Option ℕ) (x : Own) (os : List (Option Object)) → FitsImage r x.read os → at_place image_in r (written (record { context = q; draw = d; read = r }) x os) ≡ x.read
unfolding written at_place
read-written q d None x os f = sym f
read-written q d (Some n) x os f =
    at_write image_in (set_image x.read) refl n (write (set_image x.draw) d (write (set_part x.context) q os))
    ∙ image_put x.read (get_or (write (set_image x.draw) d (write (set_part x.context) q os)) n None) (storage-image x.draw d (write (set_part x.context) q os) n ∙ storage-part x.context q os n ∙ f)

abbrev pub owned : EglError → Option PartValue → Option ImageValue → Option ImageValue → Own
owned e c d r = record { error = e; context = c; draw = d; read = r }

pub own_at-put : (p : OwnObjects) (t : ℕ) (x : Own) (s : State) → IsDistinct p → Fits p t x s → own_at p t (put_at p t x s) ≡ x
own_at-put p t x s w f =
    let a = ap (λ (r : ThreadRecord). r.error) (get_or-set_same s.threads t (record (record_of s t) { error = x.error }) initial f.thread) in
    let b = part-written p.context p.draw p.read x s.objects f.context in
    let c = draw-written p.context p.draw p.read x s.objects w f.draw in
    let d = read-written p.context p.draw p.read x s.objects f.read in
    ap (λ e. owned e (at_place part_in p.context (written p x s.objects)) (at_place image_in p.draw (written p x s.objects)) (at_place image_in p.read (written p x s.objects))) a
    ∙ ap (λ q. owned x.error q (at_place image_in p.draw (written p x s.objects)) (at_place image_in p.read (written p x s.objects))) b
    ∙ ap (λ q. owned x.error x.context q (at_place image_in p.read (written p x s.objects))) c
    ∙ ap (λ q. owned x.error x.context x.draw q) d

-- ---- Where a state is whole there is room for what the thread had before.
abbrev is_context_kind : ObjectKind → Bool
is_context_kind a_context = true
is_context_kind k = false

abbrev is_storage_kind : ObjectKind → Bool
is_storage_kind a_storage = true
is_storage_kind k = false

context_kind : (o : Option Object) → is_some (as_context o) ≡ option_map_or is_context_kind (option_map kind_of o) false
context_kind None = refl
context_kind (Some o) = of_object o
  where
    of_object : (o : Object) → is_some (as_context (Some o)) ≡ is_context_kind (kind_of o)
    of_object (Context c) = refl
    of_object o = refl

storage_kind : (o : Option Object) → is_some (as_storage o) ≡ option_map_or is_storage_kind (option_map kind_of o) false
storage_kind None = refl
storage_kind (Some o) = of_object o
  where
    of_object : (o : Object) → is_some (as_storage (Some o)) ≡ is_storage_kind (kind_of o)
    of_object (Storage c) = refl
    of_object o = refl

pub is_context_there : (s : State) (t n : ℕ) → IsWhole (shapes s.objects) s → current_context s t ≡ Some n → is_some (as_context (object_at s n)) ≡ true
is_context_there s t n w e = at_bound (record_of s t).context (w.kinds.threads t).0 e
  where
    at_bound : (o : Option Bound) → Goes (shapes s.objects) a_context (option_map (λ (b : Bound). b.object) o) → option_map (λ (b : Bound). b.object) o ≡ Some n → is_some (as_context (object_at s n)) ≡ true
    at_bound None g e = absurd (none-some n e)
    at_bound (Some b) g e =
        ap (λ k. is_some (as_context (object_at s k))) (sym (same_Some b.object n e)) ∙ context_kind (object_at s b.object)
        ∙ ap (λ k. option_map_or is_context_kind k false) (sym (kind_at-shapes s.objects b.object) ∙ g.is)

pub is_storage_there : (s : State) (o : Option Bound) (n : ℕ) → IsWhole (shapes s.objects) s → link s.objects o ≡ Some n → is_some (as_storage (object_at s n)) ≡ true
is_storage_there s None n w e = absurd (none-some n e)
is_storage_there s (Some b) n w e =
    let k = own_is_storage (shapes s.objects) (object_at s b.object) n (w.kinds.objects b.object) (sym (surface_link (object_at s b.object)) ∙ e) in
    storage_kind (object_at s n) ∙ ap (λ k. option_map_or is_storage_kind k false) (sym (kind_at-shapes s.objects n) ∙ k.is)

-- x has nothing where there is no place
pub record HasNoMore (p : OwnObjects) (x : Own) : Type 0 where
  pub context : p.context ≡ None → x.context ≡ None
  pub draw : p.draw ≡ None → x.draw ≡ None
  pub read : p.read ≡ None → x.read ≡ None

fits_part : (q : Option ℕ) (x : Option PartValue) (os : List (Option Object)) → (q ≡ None → x ≡ None) → ((n : ℕ) → q ≡ Some n → is_some (as_context (get_or os n None)) ≡ true) → FitsPart q x os
fits_part None x os a b = a refl
fits_part (Some n) x os a b = b n refl

fits_image : (q : Option ℕ) (x : Option ImageValue) (os : List (Option Object)) → (q ≡ None → x ≡ None) → ((n : ℕ) → q ≡ Some n → is_some (as_storage (get_or os n None)) ≡ true) → FitsImage q x os
fits_image None x os a b = a refl
fits_image (Some n) x os a b = b n refl

some_read : (b : Bool) (o : Option ℕ) (n : ℕ) → cond b None o ≡ Some n → o ≡ Some n
some_read true o n h = absurd (none-some n h)
some_read false o n h = h

pub fits : (s : State) (t : ℕ) (x : Own) → IsWhole (shapes s.objects) s → t < length s.threads → HasNoMore (own_objects s t) x → Fits (own_objects s t) t x s
fits s t x h l m = record {
  thread = l;
  context = fits_part (current_context s t) x.context s.objects m.context (λ n e. is_context_there s t n h e);
  draw = fits_image (draw_storage s t) x.draw s.objects m.draw (λ n e. is_storage_there s (record_of s t).draw n h e);
  read = fits_image (read_place (draw_storage s t) (read_storage s t)) x.read s.objects m.read (λ n e. is_storage_there s (record_of s t).read n h (some_read (are_same (draw_storage s t) (read_storage s t)) (read_storage s t) n e));
}

nothing_there : {A : Type 0} (g : Option Object → Option A) (q : Option ℕ) (os : List (Option Object)) → q ≡ None → at_place g q os ≡ None
unfolding at_place
nothing_there g None os e = refl
nothing_there g (Some n) os e = absurd (none-some n (sym e))

pub no_more : (p : OwnObjects) (t : ℕ) (s : State) → HasNoMore p (own_at p t s)
no_more p t s = record {
  context = nothing_there part_in p.context s.objects;
  draw = nothing_there image_in p.draw s.objects;
  read = nothing_there image_in p.read s.objects;
}

-- ---- The second law of frame, from the first: a step keeps the parts of other threads.
as_put : (s : State) (t u : ℕ) (c : CallValue) → IsWhole (shapes s.objects) s → t ≢ u → (step s u c).state ≡ put_at (own_objects s t) t (own_of s t) (step s u c).state
as_put s t u c h ne =
    ap (λ (a : State). (step a u c).state) (sym (put-own_of s t))
    ∙ ap (λ (r : Stepped). r.state) (step-put_at s u t (own_of s t) c ne h)

own-step : (s : State) (t u : ℕ) (c : CallValue) → IsWhole (shapes s.objects) s → t ≢ u → t < length s.threads → own_of (step s u c).state t ≡ own_of s t
own-step s t u c h ne l =
    let a = (step s u c).state in
    let same = own_objects-step s u t c ne h in
    let room = fits a t (own_of s t) ((keeps-step s u c).whole h) (let e = (keeps-step s u c).frame.count in omega (arith, e, l)) (rw same (no_more (own_objects s t) t s)) in
    ap (λ (p : OwnObjects). own_at p t a) same
    ∙ ap (own_at (own_objects s t) t) (as_put s t u c h ne)
    ∙ own_at-put (own_objects s t) t (own_of s t) a (distinct-own_objects s t) (rw (sym same) room)

pub part-step : (s : State) (t u : ℕ) (c : CallValue) → IsWhole (shapes s.objects) s → t ≢ u → t < length s.threads → part_of (step s u c).state t ≡ part_of s t
part-step s t u c h ne l =
    ap (λ (k : Kept). both k (own_of (step s u c).state t)) (kept-stand s (step s u c).state t ((keeps-step s u c).stands h t ne)) ∙ ap (both (kept_of s t)) (own-step s t u c h ne l)
  where
    both : Kept → Own → Private
    both k x = record { kept = k; own = x }
