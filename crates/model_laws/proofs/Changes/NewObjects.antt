-- New objects that have no storage, or a surface's own one.
use Rattle.std.proofs.Common.{◌≡◌, ℕ, ℤ, zero, suc, ◌+◌, ◌-◌, ◌*◌, ◌≤◌, false, inl, inr, List, [], ◌∷◌, ◌++◌, refl, sym, ap, ◌∙◌, arith, length, get_or, Option, None, Some}
use Rattle.std.specs.Prelude.{replicate}
use Rattle.std.proofs.lemmas.Bool.{cases_lt}
use Rattle.driver_objects.specs.Objects.{filled}
use Rattle.driver_objects.specs.declared.kinds.ObjectKind.TheVariants.{Storage as a_storage}
use Rattle.egl_model.specs.Contexts.{new_texture}
use Rattle.model_laws.specs.Slots.{level_slots, sides_of}
use Rattle.model_laws.specs.Sound.{IsWhole, window_sides}
use Rattle.egl_model.specs.State.{State}
use Rattle.driver_objects.specs.declared.surfaces.BackedSurface.{BackedSurface}
use Rattle.driver_objects.specs.declared.objects.Object.{Object}
use Rattle.driver_objects.specs.declared.objects.Object.TheVariants.{Storage, Surface}
use Rattle.model_laws.specs.Full.{Full}
use Rattle.pixel_formats.specs.declared.formats.Format.{Format}
use Rattle.pixel_rows.specs.Images.{ImageValue, blank, frozen}
use Rattle.pixel_rows.specs.Painting.{painted}
use Rattle.pixel_rows.specs.Payloads.{loaded}
use Rattle.pixel_rows.specs.declared.rects.Rect.{Rect}
use Rattle.rect_pipeline.specs.Copying.{copied_into}
use Rattle.egl_calls.specs.Arguments.{signed}
use Rattle.egl_calls.specs.Calls.{CallValue}
use Rattle.egl_calls.specs.Ranges.{unsigned}
use Rattle.surface_store.specs.Windows.{WindowValue}
use Rattle.texture_objects.specs.Uploads.{uploaded}
use Rattle.model_laws.proofs.Changes.Setters.{length-painted}
use Rattle.driver_objects.specs.Storages.{copied_image, stored}
use Rattle.std.proofs.lemmas.List.{length-replicate}
use Rattle.egl_model.specs.Graph.{is_in}
use Rattle.model_laws.specs.Shapes.{IsFree, Leads, Shape, frozen_at, own_at, pixels_in, shapes, sides_at, slots_in}
use Rattle.model_laws.proofs.Changes.Moves.{IsStored, own_in, window_id_in}
use Rattle.model_laws.proofs.References.Places.{at_new, at_old, length-shapes, own_at-shapes, shapes-append, within_shapes}
use Rattle.model_laws.proofs.References.Slots.{no_edge, only_one, own_is_storage}

-- what has no storage of its own is no window's surface
pub no_window : (o : Option Object) → own_in o ≡ None → (id : ℤ) → window_id_in o ≡ Some id → ⊥
no_window (Some (Surface x)) a id e = absurd (let f : Some x.storage ≡ None = a in cc)
no_window o a id e = absurd (let f : None ≡ Some id = e in cc)

pub without_pixels : {ws : List WindowValue} (sh : List (Option Shape)) (place : ℕ) (o : Option Object) → own_in o ≡ None → pixels_in o ≡ [] → IsStored sh ws place o
without_pixels sh place o a b = record {
  own = λ k e. absurd (none k e);
  thawed = λ k e. absurd (none k e);
  pixels = λ k h. no_edge k (ap (is_in k) (sym b) ∙ h);
  sides = λ k e. absurd (none k e);
  window = λ id e. absurd (no_window o a id e);
}
  where
    none : (k : ℕ) → own_in o ≡ Some k → ⊥
    none k e = absurd (let f : None ≡ Some k = sym a ∙ e in cc)

pub with_own_pixels : {ws : List WindowValue} (sh : List (Option Shape)) (place : ℕ) (x : BackedSurface) → x.storage ≡ place + 1 → frozen_at sh (place + 1) ≡ false →
    sides_at sh (place + 1) ≡ sides_of (Surface x) → ((id : ℤ) → x.surface.window ≡ Some id → sides_of (Surface x) ≡ window_sides (unsigned id) ws) → IsStored sh ws place (Some (Surface x))
with_own_pixels sh place x e z si wi = record {
  own = λ k h. same k x.storage h ∙ e;
  thawed = λ k h. ap (frozen_at sh) (same k x.storage h ∙ e) ∙ z;
  pixels = λ k h. inl (sym (only_one k x.storage h) ∙ e);
  sides = λ k h. ap (sides_at sh) (same k x.storage h ∙ e) ∙ si;
  window = wi;
}
  where
    same : (k n : ℕ) → Some n ≡ Some k → k ≡ n
    same k n h = cc

pub full-blank : (f : Format) (w h : ℕ) → w ≤ 2048 → h ≤ 2048 → Full (Some (Storage (stored (blank f w h))))
full-blank f w h a b = (record { wide = a; high = b; image = record { image = record { wide = a; high = b; area = length-replicate (h * w) _ }; format = refl; width = refl; height = refl; owned = refl } }, refl)

pub full-frozen : (f : Format) (w h : ℕ) → w ≤ 2048 → h ≤ 2048 → Full (Some (Storage (stored (frozen (blank f w h)))))
full-frozen f w h a b = (record { wide = a; high = b; image = record { image = record { wide = a; high = b; area = length-replicate (h * w) _ }; format = refl; width = refl; height = refl; owned = refl } }, refl)

-- ---- The pixels that glTexImage2D gives.
pub full-uploaded : (c : CallValue) (align : ℕ) → unsigned (signed c 3) ≤ 2048 → unsigned (signed c 4) ≤ 2048 → Full (Some (Storage (stored (frozen (uploaded c align)))))
unfolding loaded painted
full-uploaded c align a b = (record { wide = a; high = b; image = record { image = record { wide = a; high = b; area = length-painted (unsigned (signed c 3)) _ _ _ ∙ length-replicate (unsigned (signed c 4) * unsigned (signed c 3)) _ }; format = refl; width = refl; height = refl; owned = refl } }, refl)

-- ---- The pixels that glCopyTexImage2D gives.
pub full-copied : (f : Format) (i : ImageValue) (r : Rect) → unsigned r.w ≤ 2048 → unsigned r.h ≤ 2048 → Full (Some (Storage (stored (copied_image f i r))))
unfolding copied_into painted
full-copied f i r a b = (record { wide = a; high = b; image = record { image = record { wide = a; high = b; area = length-painted (unsigned r.w) _ _ _ ∙ length-replicate (unsigned r.h * unsigned r.w) _ }; format = refl; width = refl; height = refl; owned = refl } }, refl)

-- ---- A texture without storage.
leads-none : (sh : List (Option Shape)) (i n : ℕ) → Leads sh (level_slots i (replicate n None))
leads-none sh i zero = tt
leads-none sh i (suc n) = (tt, leads-none sh (i + 1) n)

filled-none : (n : ℕ) → filled (replicate n None) ≡ []
filled-none zero = refl
filled-none (suc n) = filled-none n

pub leads-new_texture : (sh : List (Option Shape)) → Leads sh (slots_in (Some new_texture))
leads-new_texture sh = leads-none sh 0 11

pub stored-new_texture : {ws : List WindowValue} (sh : List (Option Shape)) (place : ℕ) → IsStored sh ws place (Some new_texture)
stored-new_texture sh place = without_pixels sh place (Some new_texture) refl (filled-none 11)

-- ---- Storages that are no surface's stay so where no surface is added.
no_own : (os : List (Option Object)) (o : Option Object) → own_in o ≡ None → (k : ℕ) → ((m : ℕ) → own_in (get_or os m None) ≡ Some k → ⊥) → IsFree (shapes os ++ shapes (o ∷ [])) k
no_own os o e k old = record {
  each = λ m h.
      let f : own_in (get_or (os ++ o ∷ []) m None) ≡ Some k = sym (own_at-shapes (os ++ o ∷ []) m) ∙ ap (λ (sh : List (Option Shape)). own_at sh m) (shapes-append os (o ∷ [])) ∙ h in
      elim (cases_lt m (length os)) [
        | inl l ↦ old m (ap own_in (sym (at_old os (o ∷ []) None m l)) ∙ f)
        | inr l ↦ past (m - length os) (ap own_in (sym (at_new os (o ∷ []) None m l)) ∙ f)
      ];
}
  where
    past : (j : ℕ) → own_in (get_or (o ∷ []) j None) ≡ Some k → ⊥
    past zero h = let f : None ≡ Some k = sym e ∙ h in cc
    past (suc j) h = let f : None ≡ Some k = h in cc

pub free_more : (os : List (Option Object)) (o : Option Object) (k : ℕ) → own_in o ≡ None → IsFree (shapes os) k → IsFree (shapes os ++ shapes (o ∷ [])) k
free_more os o k e f = no_own os o e k (λ m h. f.each m (own_at-shapes os m ∙ h))

-- a new object's number is no surface's storage
pub free_new : (s : State) (o : Option Object) → own_in o ≡ None → IsWhole (shapes s.objects) s → IsFree (shapes s.objects ++ shapes (o ∷ [])) (length s.objects)
free_new s o e w = no_own s.objects o e (length s.objects) (λ m h.
    let g = own_is_storage (shapes s.objects) (get_or s.objects m None) (length s.objects) (w.kinds.objects m) h in
    let b = within_shapes (shapes s.objects) a_storage (length s.objects) g in let z = length-shapes s.objects in absurd (omega (arith, b, z)))
