-- To put something for a thread is a row of moves of that thread: so a state stays whole, and what is put for two threads may come in either order.
use Rattle.std.proofs.Common.{◌≡◌, ◌≢◌, ℕ, Bool, true, false, cond, List, [], ◌∷◌, refl, sym, ap, arith, ◌∙◌, inl, inr, Option, None, Some}
use Rattle.std.specs.Option.{option_map}
use Rattle.std.proofs.lemmas.Option.{none-some}
use Rattle.context_state.specs.Parts.{PartValue}
use Rattle.pixel_rows.specs.Images.{ImageValue}
use Rattle.driver_objects.specs.declared.surfaces.BackedSurface.{BackedSurface}
use Rattle.egl_model.specs.declared.records.Bound.{Bound}
use Rattle.model_laws.specs.Extents.{quiet}
use Rattle.egl_model.specs.Graph.{is_in}
use Rattle.driver_objects.specs.declared.objects.Object.{Object}
use Rattle.driver_objects.specs.declared.objects.Object.TheVariants.{Context, Storage}
use Rattle.egl_model.specs.State.{State, record_of, set_error}
use Rattle.egl_model.specs.Currents.{current_context, draw_storage, has_context, read_storage}
use Rattle.egl_model.specs.Parts.{Own, OwnObjects, are_same, own_objects, put_at, put_own, set_image, set_part, write, written}
use Rattle.model_laws.specs.Shapes.{Leads, Shape, pixels_in, shapes, slots_in}
use Rattle.model_laws.specs.Sound.{IsWhole}
use Rattle.model_laws.proofs.Steps.Blinds.{alone_with, draw_alone, read_alone}
use Rattle.model_laws.proofs.Calls.EglCalls.{acts-error}
use Rattle.model_laws.proofs.Changes.Keeps.{Moved, moved_of, moved_self, moved_then, moved_by}
use Rattle.model_laws.proofs.Changes.Moves.{Change, NoneElse, Suits, body_in, draws, link}
use Rattle.model_laws.proofs.Parts.Puts.{blind-surface, part_and_image, own_objects-put}
use Rattle.model_laws.proofs.Changes.Writes.{IsGentle, blind-write, gentle-image, gentle-part}

-- ---- The setters of a part and of an image.
holds-set_part : (x : Option PartValue) (o : Option Object) → body_in (set_part x o) ≡ body_in o
holds-set_part x (Some (Context c)) = refl
holds-set_part x o = refl

holds-set_image : (y : Option ImageValue) (o : Option Object) → body_in (set_image y o) ≡ body_in o
holds-set_image y (Some (Storage v)) = refl
holds-set_image y o = refl

looks-set_part : (x : Option PartValue) (o : Option Object) → pixels_in (set_part x o) ≡ pixels_in o
looks-set_part x (Some (Context c)) = refl
looks-set_part x o = refl

looks-set_image : (y : Option ImageValue) (o : Option Object) → pixels_in (set_image y o) ≡ pixels_in o
looks-set_image y (Some (Storage v)) = refl
looks-set_image y o = refl

leads-set_part : (x : Option PartValue) (sh : List (Option Shape)) (o : Option Object) → Leads sh (slots_in o) → Leads sh (slots_in (set_part x o))
leads-set_part x sh (Some (Context c)) l = l
leads-set_part x sh o l = l

leads-set_image : (y : Option ImageValue) (sh : List (Option Shape)) (o : Option Object) → Leads sh (slots_in o) → Leads sh (slots_in (set_image y o))
leads-set_image y sh (Some (Storage v)) l = l
leads-set_image y sh o l = l

suits-set_part : (t : ℕ) (sh : List (Option Shape)) (s : State) (n : ℕ) (x : Option PartValue) → NoneElse (has_context n) s.threads t → Suits t sh s n (set_part x)
suits-set_part t sh s n x mine = record {
  leads = leads-set_part x sh;
  pixels = λ o k h. inl (ap (is_in k) (sym (looks-set_part x o)) ∙ h);
  part = inr mine;
  image = inl (λ y o. sym (part_and_image x y o));
}

suits-set_image : (t : ℕ) (sh : List (Option Shape)) (s : State) (n : ℕ) (y : Option ImageValue) → NoneElse (draws s.objects n) s.threads t → Suits t sh s n (set_image y)
suits-set_image t sh s n y mine = record {
  leads = leads-set_image y sh;
  pixels = λ o k h. inl (ap (is_in k) (sym (looks-set_image y o)) ∙ h);
  part = inl (λ x o. part_and_image x y o);
  image = inr mine;
}

-- ---- Who draws where doesn't change.
link-write : (f : Option Object → Option Object) → IsGentle f → (p : Option ℕ) (os : List (Option Object)) (b : Option Bound) → link (write f p os) b ≡ link os b
link-write f e p os None = refl
link-write f e p os (Some b) = ap (option_map (λ (y : BackedSurface). y.storage)) (blind-write _ f blind-surface e p os b.object)

-- ---- What is put.
put_part : (t : ℕ) (s : State) (x : Option PartValue) (o : Option ℕ) → current_context s t ≡ o → Moved quiet t s (λ a. record a { objects = write (set_part x) o a.objects })
unfolding write
put_part t s x None e = moved_self t s
put_part t s x (Some n) e = moved_by t s (Change n (set_part x) ∷ []) (holds-set_part x, tt) (λ p. omega (arith, p)) (λ w. (suits-set_part t (shapes s.objects) s n x (alone_with s t n e w), tt))

put_image : (t : ℕ) (s : State) (y : Option ImageValue) (o : Option ℕ) → ((n : ℕ) → o ≡ Some n → IsWhole (shapes s.objects) s → NoneElse (draws s.objects n) s.threads t) → Moved quiet t s (λ a. record a { objects = write (set_image y) o a.objects })
unfolding write
put_image t s y None mine = moved_self t s
put_image t s y (Some n) mine = moved_by t s (Change n (set_image y) ∷ []) (holds-set_image y, tt) (λ p. omega (arith, p)) (λ w. (suits-set_image t (shapes s.objects) s n y (mine n refl w), tt))

some_read : (b : Bool) (o : Option ℕ) (n : ℕ) → cond b None o ≡ Some n → o ≡ Some n
some_read true o n h = absurd (none-some n h)
some_read false o n h = h

put_places : (t : ℕ) (x : Own) (s : State) → Moved quiet t s (put_at (own_objects s t) t x)
unfolding written
put_places t x s =
    let p = own_objects s t in
    let f : State → State = λ a. record a { objects = write (set_part x.context) p.context a.objects } in
    let g : State → State = λ a. record a { objects = write (set_image x.draw) p.draw a.objects } in
    let h : State → State = λ a. record a { objects = write (set_image x.read) p.read a.objects } in
    let i = link-write (set_part x.context) (gentle-part x.context) p.context s.objects in
    let j = link-write (set_image x.draw) (gentle-image x.draw) p.draw (f s).objects in
    moved_then quiet t s (λ a. h (g (f a))) (λ a. set_error a t x.error)
    (moved_then quiet t s (λ a. g (f a)) h
    (moved_then quiet t s f g (put_part t s x.context p.context refl)
    (put_image t (f s) x.draw p.draw (λ n e w. draw_alone (f s) t n (i (record_of s t).draw ∙ e) w)))
    (put_image t (g (f s)) x.read p.read (λ n e w. read_alone (g (f s)) t n (j (record_of s t).read ∙ i (record_of s t).read ∙ some_read (are_same (draw_storage s t) (read_storage s t)) (read_storage s t) n e) w)))
    (acts-error (h (g (f s))) t x.error).moved

pub put_moved : (t : ℕ) (x : Own) (s : State) → Moved quiet t s (λ a. put_own a t x)
put_moved t x s = moved_of quiet t s (λ a. own_objects a t) (λ p. put_at p t x) (λ w v y ne. own_objects-put s (own_objects s v) v t y) (put_places t x s)

-- what is put leaves a state whole
pub whole-put : (t : ℕ) (x : Own) (s : State) → IsWhole (shapes s.objects) s → IsWhole (shapes (put_own s t x).objects) (put_own s t x)
whole-put t x s w = (put_moved t x s).keeps.whole w

-- and what is put for two threads may come in either order
pub puts_apart : (s : State) (t u : ℕ) (x y : Own) → t ≢ u → IsWhole (shapes s.objects) s → put_own (put_own s u y) t x ≡ put_own (put_own s t x) u y
puts_apart s t u x y ne w = (put_moved t x s).put w u y (λ e. ne (sym e)) ∙ ap (λ (p : OwnObjects). put_at p u y (put_own s t x)) (sym (own_objects-put s (own_objects s t) t u x))
