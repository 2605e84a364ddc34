-- What the fields of objects may be set to.
use Rattle.std.proofs.Common.{◌≡◌, length, ℕ, Bool, true, is_some, inl, inr, List, refl, sym, ap, ◌∙◌, Option, None, Some, IfSome}
use Rattle.surface_store.specs.Surfaces.{SurfaceValue}
use Rattle.context_state.specs.Parts.{PartValue}
use Rattle.context_state.specs.declared.bindings.Bindings.{Bindings}
use Rattle.pixel_rows.specs.Images.{ImageValue}
use Rattle.egl_model.specs.Parts.{set_image, set_part}
use Rattle.pixel_formats.specs.declared.formats.Format.{Format}
use Rattle.pixel_formats.specs.declared.pixels.Pixel.{Pixel}
use Rattle.egl_calls.specs.Calls.{CallValue}
use Rattle.pixel_rows.specs.Payloads.{loaded}
use Rattle.pixel_rows.specs.Painting.{painted, painted_at, painted_pixels}
use Rattle.std.specs.Option.{option_map}
use Rattle.std.proofs.lemmas.List.FromFn.{length-map-range_with_len}
use Rattle.pixel_rows.specs.declared.rects.Rect.{Rect}
use Rattle.rect_pipeline.specs.Copying.{copied_into}
use Rattle.rect_pipeline.specs.Clearing.{coloured}
use Rattle.rect_pipeline.specs.Drawing.{drawn}
use Rattle.rect_pipeline.specs.Samplers.{SamplerValue}
use Rattle.driver_objects.specs.Storages.{AreImageOf, IsImageOf, cleared_image, drawn_image, recopied_by, rewritten_image}
use Rattle.driver_objects.specs.declared.objects.Object.{Object}
use Rattle.driver_objects.specs.declared.surfaces.BackedSurface.{BackedSurface}
use Rattle.driver_objects.specs.declared.objects.Object.TheVariants.{Context, Storage, Surface, Sync}
use Rattle.model_laws.specs.Full.{Full}
use Rattle.egl_model.specs.Graph.{is_in}
use Rattle.driver_objects.specs.declared.fences.Fence.{Fence}
use Rattle.egl_model.specs.Flushes.{flushed_to}
use Rattle.egl_model.specs.Objects.{with_context, with_fence, with_image, with_part, with_surface}
use Rattle.model_laws.specs.Shapes.{Leads, Shape, pixels_in, shape_of, slots_in}
use Rattle.egl_model.specs.Currents.{has_context}
use Rattle.egl_model.specs.State.{State}
use Rattle.model_laws.proofs.Changes.Moves.{Body, Setter, body_in, draws, NoneElse, Suits}

-- ---- A context's own part.
pub holds-part : (f : PartValue → PartValue) (o : Option Object) → body_in (with_part f o) ≡ body_in o
holds-part f (Some (Context c)) = refl
holds-part f o = refl

-- a change of it by which the names stay that it has bound
abbrev pub KeepsNames : (PartValue → PartValue) → Type 0
KeepsNames f = (p : PartValue) → (f p).bound ≡ p.bound

pub setter-part : (f : PartValue → PartValue) → KeepsNames f → Setter (with_part f)
setter-part f k = record { body = holds-part f; full = full }
  where
    names : (b : Bindings) (x : Option PartValue) → IfSome x (λ p. p.bound ≡ b) → IfSome (option_map f x) (λ p. p.bound ≡ b)
    names b None h = tt
    names b (Some p) h = k p ∙ h

    still : (x : Option PartValue) → is_some x ≡ true → is_some (option_map f x) ≡ true
    still None h = h
    still (Some x) h = refl

    full : (o : Option Object) → Full o → Full (with_part f o)
    full (Some (Context c)) h = record { there = still c.part h.there; names = names c.names c.part h.names; home = h.home }
    full o h = h

pub suits-part : (t : ℕ) (sh : List (Option Shape)) (s : State) (n : ℕ) (f : PartValue → PartValue) → NoneElse (has_context n) s.threads t → Suits t sh s n (with_part f)
suits-part t sh s n f mine = record { leads = leads; pixels = λ o k h. inl (ap (is_in k) (sym (pixels o)) ∙ h); part = inr mine; image = inl past }
  where
    past : (y : Option ImageValue) (o : Option Object) → set_image y (with_part f o) ≡ with_part f (set_image y o)
    past y (Some (Context c)) = refl
    past y (Some (Storage v)) = refl
    past y o = refl

    pixels : (o : Option Object) → pixels_in (with_part f o) ≡ pixels_in o
    pixels (Some (Context c)) = refl
    pixels o = refl

    leads : (o : Option Object) → Leads sh (slots_in o) → Leads sh (slots_in (with_part f o))
    leads (Some (Context c)) l = l
    leads o l = l

-- ---- How far a context is flushed.
pub setter-flush : (k : ℕ) → Setter (with_context (flushed_to k))
setter-flush k = record { body = body; full = full }
  where
    body : (o : Option Object) → body_in (with_context (flushed_to k) o) ≡ body_in o
    body (Some (Context c)) = refl
    body o = refl

    full : (o : Option Object) → Full o → Full (with_context (flushed_to k) o)
    full (Some (Context c)) h = h
    full o h = h

pub suits-flush : (t : ℕ) (sh : List (Option Shape)) (s : State) (n k : ℕ) → Suits t sh s n (with_context (flushed_to k))
suits-flush t sh s n k = record { leads = leads; pixels = λ o m h. inl (ap (is_in m) (sym (looks o)) ∙ h); part = inl past_part; image = inl past_image }
  where
    past_part : (x : Option PartValue) (o : Option Object) → set_part x (with_context (flushed_to k) o) ≡ with_context (flushed_to k) (set_part x o)
    past_part x (Some (Context c)) = refl
    past_part x o = refl

    past_image : (y : Option ImageValue) (o : Option Object) → set_image y (with_context (flushed_to k) o) ≡ with_context (flushed_to k) (set_image y o)
    past_image y (Some (Context c)) = refl
    past_image y (Some (Storage v)) = refl
    past_image y o = refl

    looks : (o : Option Object) → pixels_in (with_context (flushed_to k) o) ≡ pixels_in o
    looks (Some (Context c)) = refl
    looks o = refl

    leads : (o : Option Object) → Leads sh (slots_in o) → Leads sh (slots_in (with_context (flushed_to k) o))
    leads (Some (Context c)) l = l
    leads o l = l

-- ---- A fence.
pub setter-fence : (f : Fence → Fence) → Setter (with_fence f)
setter-fence f = record { body = body; full = full }
  where
    body : (o : Option Object) → body_in (with_fence f o) ≡ body_in o
    body (Some (Sync x)) = refl
    body o = refl

    full : (o : Option Object) → Full o → Full (with_fence f o)
    full (Some (Sync x)) h = tt
    full o h = h

pub suits-fence : (t : ℕ) (sh : List (Option Shape)) (s : State) (n : ℕ) (f : Fence → Fence) → Suits t sh s n (with_fence f)
suits-fence t sh s n f = record { leads = leads; pixels = λ o m h. inl (ap (is_in m) (sym (looks o)) ∙ h); part = inl past_part; image = inl past_image }
  where
    past_part : (x : Option PartValue) (o : Option Object) → set_part x (with_fence f o) ≡ with_fence f (set_part x o)
    past_part x (Some (Context c)) = refl
    past_part x (Some (Sync z)) = refl
    past_part x o = refl

    past_image : (y : Option ImageValue) (o : Option Object) → set_image y (with_fence f o) ≡ with_fence f (set_image y o)
    past_image y (Some (Storage v)) = refl
    past_image y (Some (Sync z)) = refl
    past_image y o = refl

    looks : (o : Option Object) → pixels_in (with_fence f o) ≡ pixels_in o
    looks (Some (Sync x)) = refl
    looks o = refl

    leads : (o : Option Object) → Leads sh (slots_in o) → Leads sh (slots_in (with_fence f o))
    leads (Some (Sync x)) l = l
    leads o l = l

-- ---- A surface but for its storage, its sides and its window.
abbrev shaped : Shape → Body
shaped y = record { shape = Some y; bytes = 0 }

pub setter-surface : (f : SurfaceValue → SurfaceValue) → ((x : BackedSurface) → shape_of (Surface (record x { surface = f x.surface })) ≡ shape_of (Surface x)) → Setter (with_surface f)
setter-surface f same = record { body = body; full = full }
  where
    body : (o : Option Object) → body_in (with_surface f o) ≡ body_in o
    body (Some (Surface x)) = ap shaped (same x)
    body o = refl

    full : (o : Option Object) → Full o → Full (with_surface f o)
    full (Some (Surface x)) h = tt
    full o h = h

pub suits-surface : (t : ℕ) (sh : List (Option Shape)) (s : State) (n : ℕ) (f : SurfaceValue → SurfaceValue) → Suits t sh s n (with_surface f)
suits-surface t sh s n f = record { leads = leads; pixels = λ o k h. inl (ap (is_in k) (sym (looks o)) ∙ h); part = inl past_part; image = inl past_image }
  where
    past_part : (x : Option PartValue) (o : Option Object) → set_part x (with_surface f o) ≡ with_surface f (set_part x o)
    past_part x (Some (Context c)) = refl
    past_part x (Some (Surface y)) = refl
    past_part x o = refl

    past_image : (y : Option ImageValue) (o : Option Object) → set_image y (with_surface f o) ≡ with_surface f (set_image y o)
    past_image y (Some (Storage v)) = refl
    past_image y (Some (Surface x)) = refl
    past_image y o = refl

    looks : (o : Option Object) → pixels_in (with_surface f o) ≡ pixels_in o
    looks (Some (Surface x)) = refl
    looks o = refl

    leads : (o : Option Object) → Leads sh (slots_in o) → Leads sh (slots_in (with_surface f o))
    leads (Some (Surface x)) l = l
    leads o l = l

-- ---- The image of a storage.
-- an image of a format and sides becomes one of the same
pub record KeepsForm (h : ImageValue → ImageValue) : Type 0 where
  pub each : (f : Format) (w k : ℕ) (z : Bool) (i : ImageValue) → IsImageOf f w k z i → IsImageOf f w k z (h i)

pub setter-image : (h : ImageValue → ImageValue) → KeepsForm h → Setter (with_image h)
setter-image h e = record { body = body; full = full }
  where
    body : (o : Option Object) → body_in (with_image h o) ≡ body_in o
    body (Some (Storage x)) = refl
    body o = refl

    fits : (f : Format) (w k : ℕ) (z : Bool) (i : Option ImageValue) → AreImageOf f w k z i → AreImageOf f w k z (option_map h i)
    fits f w k z None a = tt
    fits f w k z (Some i) a = e.each f w k z i a

    still : (i : Option ImageValue) → is_some i ≡ true → is_some (option_map h i) ≡ true
    still None h = h
    still (Some i) h = refl

    full : (o : Option Object) → Full o → Full (with_image h o)
    full (Some (Storage v)) g = (record { wide = g.0.wide; high = g.0.high; image = fits v.format v.width v.height v.frozen v.image g.0.image }, still v.image g.1)
    full o g = g

pub suits-image : (t : ℕ) (sh : List (Option Shape)) (s : State) (n : ℕ) (h : ImageValue → ImageValue) → NoneElse (draws s.objects n) s.threads t → Suits t sh s n (with_image h)
suits-image t sh s n h mine = record { leads = leads; pixels = λ o k g. inl (ap (is_in k) (sym (looks o)) ∙ g); part = inl past; image = inr mine }
  where
    past : (x : Option PartValue) (o : Option Object) → set_part x (with_image h o) ≡ with_image h (set_part x o)
    past x (Some (Context c)) = refl
    past x (Some (Storage v)) = refl
    past x o = refl

    looks : (o : Option Object) → pixels_in (with_image h o) ≡ pixels_in o
    looks (Some (Storage x)) = refl
    looks o = refl

    leads : (o : Option Object) → Leads sh (slots_in o) → Leads sh (slots_in (with_image h o))
    leads (Some (Storage x)) l = l
    leads o l = l

-- whatever is painted keeps its form
pub length-painted : (w : ℕ) (covers : ℕ → ℕ → Bool) (becomes : ℕ → ℕ → Pixel → Pixel) (ps : List Pixel) → length (painted_pixels w covers becomes ps) ≡ length ps
unfolding painted_pixels
length-painted w covers becomes ps = length-map-range_with_len (painted_at w covers becomes ps) 0 (length ps)

pub form-cleared : (p : PartValue) → KeepsForm (cleared_image p)
unfolding coloured painted
form-cleared p = record {
  each = λ f w k z i a. record {
    image = record { wide = a.image.wide; high = a.image.high; area = length-painted i.width _ _ i.pixels ∙ a.image.area };
    format = a.format;
    width = a.width;
    height = a.height;
    owned = a.owned;
  };
}

pub form-drawn : (p : PartValue) (from : Option SamplerValue) (r : Rect) → KeepsForm (drawn_image p from r)
unfolding drawn painted
form-drawn p from r = record {
  each = λ f w k z i a. record {
    image = record { wide = a.image.wide; high = a.image.high; area = length-painted i.width _ _ i.pixels ∙ a.image.area };
    format = a.format;
    width = a.width;
    height = a.height;
    owned = a.owned;
  };
}

pub form-recopied : (x y : ℕ) (r : Rect) (from : Option ImageValue) → KeepsForm (recopied_by x y r from)
unfolding copied_into painted
form-recopied x y r (Some from) = record {
  each = λ f w k z i a. record {
    image = record { wide = a.image.wide; high = a.image.high; area = length-painted i.width _ _ i.pixels ∙ a.image.area };
    format = a.format;
    width = a.width;
    height = a.height;
    owned = a.owned;
  };
}
form-recopied x y r None = record { each = λ f w k z i a. a }

pub form-rewritten : (c : CallValue) (align : ℕ) → KeepsForm (rewritten_image c align)
unfolding painted loaded
form-rewritten c align = record {
  each = λ f w k z i a. record {
    image = record { wide = a.image.wide; high = a.image.high; area = length-painted i.width _ _ i.pixels ∙ a.image.area };
    format = a.format;
    width = a.width;
    height = a.height;
    owned = a.owned;
  };
}
