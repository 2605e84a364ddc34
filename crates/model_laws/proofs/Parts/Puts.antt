-- To take what is a thread's own, and to put it.
use Rattle.std.proofs.Common.{◌≡◌, ℕ, Bool, true, false, cond, List, refl, sym, ap, ◌∙◌, inl, inr, length, get_or, set, Option, None, Some, arith}
use Rattle.std.specs.Option.{option_and_then, option_map}
use Rattle.std.proofs.lemmas.Bool.{cases_lt, eq-eqb, eqb-true}
use Rattle.std.proofs.lemmas.List.{get_or-set_same, set-get_or, set-set, set_past}
use Rattle.egl_calls.specs.declared.errors.EglError.{EglError}
use Rattle.context_state.specs.Parts.{PartValue}
use Rattle.pixel_rows.specs.Images.{ImageValue}
use Rattle.driver_objects.specs.declared.objects.Object.{Object}
use Rattle.driver_objects.specs.declared.objects.Object.TheVariants.{Context, Storage}
use Rattle.driver_objects.specs.declared.surfaces.BackedSurface.{BackedSurface}
use Rattle.egl_model.specs.declared.records.Bound.{Bound}
use Rattle.egl_model.specs.declared.records.ThreadRecord.{ThreadRecord}
use Rattle.egl_model.specs.State.{State, initial, record_of}
use Rattle.egl_model.specs.Objects.{as_surface, surface_in}
use Rattle.egl_model.specs.Currents.{current_context, draw_storage, read_storage}
use Rattle.model_laws.proofs.References.Places.{same_at_set}
use Rattle.egl_model.specs.Parts.{Own, OwnObjects, at_place, image_in, is_place, own_at, own_of, part_in, own_objects, put_at, put_own, read_place, set_image, set_part, write, written}
use Rattle.model_laws.proofs.Changes.Writes.{IsBlind, blind-written, write-over, write-write}

-- ---- To put back what is there changes nothing.
part_stays : (o : Option Object) → set_part (part_in o) o ≡ o
part_stays (Some (Context c)) = refl
part_stays o = refl

image_stays : (o : Option Object) → set_image (image_in o) o ≡ o
image_stays (Some (Storage v)) = refl
image_stays o = refl

pub part_back : (p : Option ℕ) (os : List (Option Object)) → write (set_part (at_place part_in p os)) p os ≡ os
unfolding write at_place
part_back None os = refl
part_back (Some n) os = ap (set os n) (part_stays (get_or os n None)) ∙ set-get_or os n None

pub image_back : (p : Option ℕ) (os : List (Option Object)) → write (set_image (at_place image_in p os)) p os ≡ os
unfolding write at_place
image_back None os = refl
image_back (Some n) os = ap (set os n) (image_stays (get_or os n None)) ∙ set-get_or os n None

pub written_back : (p : OwnObjects) (t : ℕ) (s : State) → written p (own_at p t s) s.objects ≡ s.objects
unfolding written
written_back p t s =
    ap (λ o. write (set_image (at_place image_in p.read s.objects)) p.read (write (set_image (at_place image_in p.draw s.objects)) p.draw o)) (part_back p.context s.objects)
    ∙ ap (write (set_image (at_place image_in p.read s.objects)) p.read) (image_back p.draw s.objects)
    ∙ image_back p.read s.objects

pub put-own_at : (p : OwnObjects) (t : ℕ) (s : State) → put_at p t (own_at p t s) s ≡ s
put-own_at p t s = let a = written_back p t s in let b = set-get_or s.threads t initial in
    ap (λ (os : List (Option Object)). record s { objects = os; threads = set s.threads t (record_of s t) }) a ∙ ap (λ (ts : List ThreadRecord). record s { threads = ts }) b

pub put-own_of : (s : State) (t : ℕ) → put_own s t (own_of s t) ≡ s
put-own_of s t = put-own_at (own_objects s t) t s

-- ---- Of two writes at the same own objects the later counts.
-- no storage is both own objects
abbrev pub IsDistinct : OwnObjects → Type 0
IsDistinct p = (m : ℕ) → is_place m p.draw ≡ true → is_place m p.read ≡ true → ⊥

part_over : (x y : Option PartValue) (o : Option Object) → set_part x (set_part y o) ≡ set_part x o
part_over x y (Some (Context c)) = refl
part_over x y o = refl

image_over : (x y : Option ImageValue) (o : Option Object) → set_image x (set_image y o) ≡ set_image x o
image_over x y (Some (Storage v)) = refl
image_over x y o = refl

pub part_and_image : (x : Option PartValue) (y : Option ImageValue) (o : Option Object) → set_part x (set_image y o) ≡ set_image y (set_part x o)
part_and_image x y (Some (Context c)) = refl
part_and_image x y (Some (Storage v)) = refl
part_and_image x y o = refl

pub part_past_image : (x : Option PartValue) (y : Option ImageValue) (p q : Option ℕ) (os : List (Option Object)) → write (set_part x) p (write (set_image y) q os) ≡ write (set_image y) q (write (set_part x) p os)
part_past_image x y p q os = write-write (set_part x) (set_image y) p q refl refl (λ m a b. part_and_image x y) os

written-written : (p : OwnObjects) (x y : Own) (os : List (Option Object)) → IsDistinct p → written p x (written p y os) ≡ written p x os
unfolding written
written-written p x y os d =
    let P = write (set_part x.context) p.context in let D = write (set_image x.draw) p.draw in let R = write (set_image x.read) p.read in
    let b = write (set_part y.context) p.context os in
    let c = write (set_image y.draw) p.draw b in
    -- the part over the part
    let e1 = ap (λ o. R (D o)) (part_past_image x.context y.read p.context p.read c) in
    let e2 = ap (λ o. R (D (write (set_image y.read) p.read o))) (part_past_image x.context y.draw p.context p.draw b ∙ ap (write (set_image y.draw) p.draw) (write-over (set_part x.context) (set_part y.context) p.context refl refl (part_over x.context y.context) os)) in
    -- the image to draw to
    let f = write-write (set_image x.draw) (set_image y.read) p.draw p.read refl refl (λ m g h. absurd (d m g h)) (write (set_image y.draw) p.draw (P os)) in
    let e3 = ap R (f ∙ ap (write (set_image y.read) p.read) (write-over (set_image x.draw) (set_image y.draw) p.draw refl refl (image_over x.draw y.draw) (P os))) in
    -- the image to read from
    let e4 = write-over (set_image x.read) (set_image y.read) p.read refl refl (image_over x.read y.read) (D (P os)) in
    e1 ∙ e2 ∙ e3 ∙ e4

same_error : (s : State) (t : ℕ) (e f : EglError) → set (set s.threads t (record (record_of s t) { error = f })) t (record (get_or (set s.threads t (record (record_of s t) { error = f })) t initial) { error = e }) ≡ set s.threads t (record (record_of s t) { error = e })
same_error s t e f = elim (cases_lt t (length s.threads)) [
  | inl l ↦ ap (λ (r : ThreadRecord). set (set s.threads t (record (record_of s t) { error = f })) t (record r { error = e })) (get_or-set_same s.threads t (record (record_of s t) { error = f }) initial l) ∙ set-set s.threads t _ _
  | inr l ↦ let g = set_past s.threads t (record (record_of s t) { error = f }) l in ap (λ (ts : List ThreadRecord). set ts t (record (get_or ts t initial) { error = e })) g
]

pub put-put_at : (p : OwnObjects) (t : ℕ) (x y : Own) (s : State) → IsDistinct p → put_at p t x (put_at p t y s) ≡ put_at p t x s
put-put_at p t x y s d =
    ap (λ (os : List (Option Object)). record s { objects = os; threads = set (set s.threads t (record (record_of s t) { error = y.error })) t (record (record_of (put_at p t y s) t) { error = x.error }) }) (written-written p x y s.objects d)
    ∙ ap (λ (ts : List ThreadRecord). record s { objects = written p x s.objects; threads = ts }) (same_error s t x.error y.error)

-- ---- Own objects.
pub distinct : (a b : Option ℕ) (c : Option ℕ) → IsDistinct (record { context = c; draw = a; read = read_place a b })
distinct None b c m g h = absurd (let e : false ≡ true = g in cc)
distinct (Some n) None c m g h = absurd (let e : false ≡ true = h in cc)
distinct (Some n) (Some k) c m g h = differ (is_place n (Some k)) n k m refl g h
  where
    differ : (b : Bool) (n k m : ℕ) → is_place n (Some k) ≡ b → is_place m (Some n) ≡ true → is_place m (cond b None (Some k)) ≡ true → ⊥
    differ true n k m e g h = absurd (let f : false ≡ true = h in cc)
    differ false n k m e g h = let i = eqb-true n m g in let j = eqb-true k m h in let f = eq-eqb k n (omega (arith, i, j)) in absurd (let k : false ≡ true = sym e ∙ f in cc)

pub distinct-own_objects : (s : State) (t : ℕ) → IsDistinct (own_objects s t)
distinct-own_objects s t = distinct (draw_storage s t) (read_storage s t) (current_context s t)

-- the own objects are told by what a thread's record binds, and by what the surfaces there are linked to
pub blind-surface : IsBlind as_surface
blind-surface (Some (Context c)) = refl
blind-surface (Some (Storage v)) = refl
blind-surface o = refl

pub surface_in-written : (p : OwnObjects) (x : Own) (os : List (Option Object)) (n : ℕ) → surface_in (written p x os) n ≡ surface_in os n
surface_in-written p x os n = blind-written as_surface blind-surface p x os n

linked : Option Bound → List (Option Object) → Option ℕ
linked b os = option_map (λ x. x.storage) (option_and_then (λ b. surface_in os b.object) b)

pub linked-written : (p : OwnObjects) (x : Own) (b : Option Bound) (os : List (Option Object)) → option_map (λ (y : BackedSurface). y.storage) (option_and_then (λ (c : Bound). surface_in (written p x os) c.object) b) ≡ option_map (λ (y : BackedSurface). y.storage) (option_and_then (λ (c : Bound). surface_in os c.object) b)
linked-written p x None os = refl
linked-written p x (Some b) os = ap (option_map (λ (y : BackedSurface). y.storage)) (surface_in-written p x os b.object)

-- what a record has beside its error stays where errors are written
pub record-put : {A : Type 0} (f : ThreadRecord → A) → ((r : ThreadRecord) (e : EglError) → f (record r { error = e }) ≡ f r) → (s : State) (t u : ℕ) (e : EglError) → f (get_or (set s.threads t (record (record_of s t) { error = e })) u initial) ≡ f (record_of s u)
record-put f h s t u e = same_at_set f s.threads t (record (record_of s t) { error = e }) initial (h (record_of s t) e) u

pub same_context : (s : State) (p : OwnObjects) (t u : ℕ) (x : Own) → current_context (put_at p t x s) u ≡ current_context s u
same_context s p t u x = record-put (λ r. option_map (λ (b : Bound). b.object) r.context) (λ r e. refl) s t u x.error

pub same_draw : (s : State) (p : OwnObjects) (t u : ℕ) (x : Own) → draw_storage (put_at p t x s) u ≡ draw_storage s u
same_draw s p t u x =
    linked-written p x (record_of (put_at p t x s) u).draw s.objects
    ∙ ap (λ (b : Option Bound). option_map (λ (y : BackedSurface). y.storage) (option_and_then (λ (c : Bound). surface_in s.objects c.object) b)) (record-put (λ r. r.draw) (λ r e. refl) s t u x.error)

pub same_read : (s : State) (p : OwnObjects) (t u : ℕ) (x : Own) → read_storage (put_at p t x s) u ≡ read_storage s u
same_read s p t u x =
    linked-written p x (record_of (put_at p t x s) u).read s.objects
    ∙ ap (λ (b : Option Bound). option_map (λ (y : BackedSurface). y.storage) (option_and_then (λ (c : Bound). surface_in s.objects c.object) b)) (record-put (λ r. r.read) (λ r e. refl) s t u x.error)

-- whatever is put, the own objects of each thread are those that they were
pub own_objects-put : (s : State) (p : OwnObjects) (t u : ℕ) (x : Own) → own_objects (put_at p t x s) u ≡ own_objects s u
own_objects-put s p t u x =
    let a = same_context s p t u x in let b = same_draw s p t u x in let c = same_read s p t u x in
    ap (λ (n : Option ℕ). record { context = n; draw = draw_storage (put_at p t x s) u; read = read_place (draw_storage (put_at p t x s) u) (read_storage (put_at p t x s) u) }) a
    ∙ ap (λ (n : Option ℕ). record { context = current_context s u; draw = n; read = read_place n (read_storage (put_at p t x s) u) }) b
    ∙ ap (λ (n : Option ℕ). record { context = current_context s u; draw = draw_storage s u; read = read_place (draw_storage s u) n }) c

pub put-put : (s : State) (t : ℕ) (x y : Own) → put_own (put_own s t y) t x ≡ put_own s t x
put-put s t x y = ap (λ (p : OwnObjects). put_at p t x (put_own s t y)) (own_objects-put s (own_objects s t) t t y) ∙ put-put_at (own_objects s t) t x y s (distinct-own_objects s t)
