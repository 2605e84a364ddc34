-- The pixels of a surface aren't frozen.
use Rattle.std.proofs.Common.{◌≡◌, ℕ, Bool, true, false, cond, not, List, refl, sym, ap, ◌∙◌, Option, None, Some, IfSome}
use Rattle.std.specs.Option.{option_map}
use Rattle.std.proofs.lemmas.Option.{none-some}
use Rattle.pixel_formats.specs.declared.formats.Format.{Format}
use Rattle.pixel_rows.specs.Images.{ImageValue}
use Rattle.driver_objects.specs.Storages.{AreImageOf}
use Rattle.driver_objects.specs.declared.objects.Object.{Object}
use Rattle.driver_objects.specs.declared.objects.Object.TheVariants.{Storage}
use Rattle.driver_objects.specs.declared.surfaces.BackedSurface.{BackedSurface}
use Rattle.egl_model.specs.declared.records.Bound.{Bound}
use Rattle.egl_model.specs.Currents.{bound_surface, draw_storage, read_storage}
use Rattle.egl_model.specs.Parts.{are_same, at_place, image_in, own_of}
use Rattle.egl_model.specs.State.{State, object_at, record_of}
use Rattle.model_laws.specs.Frame.{IsReady}
use Rattle.model_laws.specs.Full.{Full}
use Rattle.model_laws.specs.Shapes.{shapes}
use Rattle.model_laws.specs.Sound.{IsWhole}
use Rattle.model_laws.proofs.Changes.Moves.{frozen_in}
use Rattle.model_laws.proofs.References.Places.{frozen_at-shapes, own_at-shapes}
use Rattle.model_laws.proofs.Changes.PutMoves.{surface_link}

abbrev Owned : Option ImageValue → Type 0
Owned o = IfSome o (λ i. i.owned ≡ true)

thawed_image : (f : Format) (w h : ℕ) (z : Bool) (i : Option ImageValue) → z ≡ false → AreImageOf f w h z i → Owned i
thawed_image f w h z None e a = tt
thawed_image f w h z (Some i) e a = a.owned ∙ ap not e

thawed_object : (o : Option Object) → frozen_in o ≡ false → Full o → Owned (image_in o)
thawed_object (Some (Storage v)) e h = thawed_image v.format v.width v.height v.frozen v.image e h.0.image
thawed_object o e h = tt

-- the storage of a surface that is bound
thawed_bound : (s : State) (b : Option Bound) (n : ℕ) → IsWhole (shapes s.objects) s → option_map (λ (x : BackedSurface). x.storage) (bound_surface s b) ≡ Some n → frozen_in (object_at s n) ≡ false
thawed_bound s None n w e = absurd (none-some n e)
thawed_bound s (Some b) n w e = sym (frozen_at-shapes s.objects n) ∙ w.thawed.each b.object n (own_at-shapes s.objects b.object ∙ sym (surface_link (object_at s b.object)) ∙ e)

owned_bound : (s : State) (t : ℕ) (b : Option Bound) (q : Option ℕ) → IsReady s t → option_map (λ (x : BackedSurface). x.storage) (bound_surface s b) ≡ q → Owned (at_place image_in q s.objects)
unfolding at_place
owned_bound s t b None r e = tt
owned_bound s t b (Some n) r e = thawed_object (object_at s n) (thawed_bound s b n r.sound.whole e) (r.sound.full.each n)

owned_unless : (b : Bool) (q : Option ℕ) (os : List (Option Object)) → Owned (at_place image_in q os) → Owned (at_place image_in (cond b None q) os)
unfolding at_place
owned_unless true q os h = tt
owned_unless false q os h = h

pub draw_owned : (s : State) (t : ℕ) → IsReady s t → Owned (own_of s t).draw
draw_owned s t r = owned_bound s t (record_of s t).draw (draw_storage s t) r refl

pub read_owned : (s : State) (t : ℕ) → IsReady s t → Owned (own_of s t).read
read_owned s t r = owned_unless (are_same (draw_storage s t) (read_storage s t)) (read_storage s t) s.objects (owned_bound s t (record_of s t).read (read_storage s t) r refl)
