-- EGL images and the storages that they share.
use Rattle.std.proofs.Common.{◌≡◌, ℕ, ◌<◌, ℤ, pos, negsuc, true, false, not, List, [], get_or, refl, sym, ap, ◌∙◌, inl, inr, arith, Option, None, Some}
use Rattle.std.proofs.lemmas.Bool.{cases_eq, false≢true, leb-false, not-false}
use Rattle.std.proofs.lemmas.Int.{ints}
use Rattle.std.specs.Prelude.{IfSome, IsSome, int_lt, is_some}
use Rattle.call_rules.proofs.EglLaws.{image_allowed}
use Rattle.call_rules.proofs.GlLaws.{rows_off}
use Rattle.call_rules.proofs.TestLaws.{given_last}
use Rattle.egl_calls.specs.Arguments.{number}
use Rattle.egl_calls.specs.Calls.{CallValue}
use Rattle.egl_calls.specs.Ranges.{unsigned}
use Rattle.egl_calls.specs.declared.kinds.Kind.TheVariants.{Egl, Gl}
use Rattle.egl_calls.specs.declared.kinds.EglKind.TheVariants.{CreateImage}
use Rattle.egl_calls.specs.declared.kinds.GlKind.TheVariants.{ImageTargetRenderbufferStorage}
use Rattle.egl_image.specs.declared.images.EglImage.{EglImage}
use Rattle.framebuffer_objects.specs.Renderbuffers.{RenderbufferValue}
use Rattle.driver_objects.specs.Storages.{StorageValue}
use Rattle.driver_objects.specs.declared.objects.Object.{Object}
use Rattle.driver_objects.specs.declared.objects.Object.TheVariants.{Context, Group, Texture, Buffer, Renderbuffer, Framebuffer, Surface, Storage, Image, Sync}
use Rattle.egl_model.specs.Displays.{is_display}
use Rattle.egl_model.specs.EglCalls.{egl_refusal}
use Rattle.egl_model.specs.Facts.{facts_of}
use Rattle.egl_model.specs.GlCalls.{gl_refusal}
use Rattle.egl_model.specs.GlFacts.{gl_facts_of}
use Rattle.egl_model.specs.Images.{has_pixels, image_storage, is_renderable, level_pixels, source_storage, target_handle, target_image}
use Rattle.egl_model.specs.Links.{rank_in}
use Rattle.egl_model.specs.Objects.{as_egl_image, as_storage, change_renderbuffer, egl_image_in, storage_in, with_renderbuffer}
use Rattle.egl_model.specs.Renderbuffers.{with_kind}
use Rattle.egl_model.specs.State.{State}
use Rattle.egl_model.specs.Textures.{pixels_at}
use Rattle.model_laws.proofs.References.Places.{same_at_set}
use Rattle.ref_store.proofs.CountLaws.{times_none, times_other}
use Rattle.object_table.specs.Tables.{LeadsDown}
use Rattle.driver_facts.specs.Groups.{IsPixels}
use Rattle.driver_facts.proofs.RootLaws.{times_one}

-- ---- The level of which there is to be an image.
not_below_zero : (n : ℕ) → int_lt (pos n) (pos 0) ≡ false
not_below_zero n = grind (arith, ints)

pub no_negative : (z : ℤ) (o : Option Object) → int_lt z (pos 0) ≡ true → None ≡ level_pixels z o
no_negative (pos n) o h = absurd (false≢true (sym (not_below_zero n) ∙ h))
no_negative (negsuc n) o h = refl

pub some_level : (z : ℤ) (o : Option Object) → int_lt z (pos 0) ≡ false → pixels_at (unsigned z) o ≡ level_pixels z o
some_level (pos n) o h = refl
some_level (negsuc n) o h = absurd (let e : true ≡ false = h in cc)

pub no_source : (z : ℤ) → level_pixels z None ≡ None
no_source (pos n) = refl
no_source (negsuc n) = refl

-- pixels are a storage's
pub pixels_stored : (o : Option StorageValue) → has_pixels o ≡ true → IsSome o
pixels_stored None h = absurd (let e : false ≡ true = h in cc)
pixels_stored (Some v) h = refl

-- ---- What is known of an eglCreateImage that isn't refused.
pub image_display : (s : State) (t : ℕ) (c : CallValue) → c.kind ≡ Egl CreateImage → egl_refusal s t CreateImage c ≡ None → is_display (number c 0) ≡ true
unfolding egl_refusal
image_display s t c k h = (image_allowed c (facts_of s t c) k h).asked.on.display

pub image_source : (s : State) (t : ℕ) (c : CallValue) → c.kind ≡ Egl CreateImage → egl_refusal s t CreateImage c ≡ None → IsSome (source_storage s c)
unfolding egl_refusal
image_source s t c k h = (image_allowed c (facts_of s t c) k h).asked.level

pub image_numbers : (s : State) (t : ℕ) (c : CallValue) → c.kind ≡ Egl CreateImage → egl_refusal s t CreateImage c ≡ None → s.next_handle < 2147483648
unfolding egl_refusal
image_numbers s t c k h = leb-false 2147483648 s.next_handle (image_allowed c (facts_of s t c) k h).handles

-- ---- A new image refers to its storage alone.
storage_ranks : (o : Option Object) → is_some (as_storage o) ≡ true → IsSome o × (rank_in o < 1)
storage_ranks (Some (Storage v)) h = (refl, omega arith)
storage_ranks o h = absurd (false≢true h)

pub image_leads : (os : List (Option Object)) (k : ℕ) → IsSome (storage_in os k) → LeadsDown os (Image (record { storage = k }))
image_leads os k h n i = elim (cases_eq n k) [
  | inl e ↦ rw e (storage_ranks (get_or os k None) h)
  | inr ne ↦ absurd (let z : 0 < 0 = rw (times_other n k [] ne ∙ times_none n) at i in omega (arith, z))
]

-- ---- What the storage of an image is.
image_is : (o : Option Object) (i : EglImage) → as_egl_image o ≡ Some i → o ≡ Some (Image i)
image_is None i h = cc
image_is (Some (Context c)) i h = cc
image_is (Some (Group y)) i h = cc
image_is (Some (Texture y)) i h = cc
image_is (Some (Buffer y)) i h = cc
image_is (Some (Renderbuffer y)) i h = cc
image_is (Some (Framebuffer y)) i h = cc
image_is (Some (Surface y)) i h = cc
image_is (Some (Storage y)) i h = cc
image_is (Some (Image y)) i h = let e : y ≡ i = cc in ap (λ x. Some (Image x)) e
image_is (Some (Sync y)) i h = cc

pub image_pixels : (os : List (Option Object)) (m : ℕ) → ((k : ℕ) (y : Object) → get_or os k None ≡ Some y → LeadsDown os y) → IfSome (egl_image_in os m) (λ i. IsPixels os i.storage)
image_pixels os m down = by (egl_image_in os m) refl
  where
    by : (o : Option EglImage) → egl_image_in os m ≡ o → IfSome o (λ i. IsPixels os i.storage)
    by None e = tt
    by (Some i) e = down m (Image i) (image_is (get_or os m None) i e) i.storage (times_one i.storage [])

-- ---- What is known of a glEGLImageTargetRenderbufferStorageOES that isn't refused.
renderable_stored : (o : Option StorageValue) → is_renderable o ≡ true → IsSome o
renderable_stored None h = absurd (let e : false ≡ true = h in cc)
renderable_stored (Some v) h = refl

pub image_stored : (s : State) (t n : ℕ) (c : CallValue) (i : EglImage) → c.kind ≡ Gl ImageTargetRenderbufferStorage → gl_refusal s t n ImageTargetRenderbufferStorage c ≡ None → target_image s n c ≡ Some i → IsSome (storage_in s.objects i.storage)
unfolding gl_refusal
image_stored s t n c i k h e =
    let off = rows_off c (gl_facts_of s t n c) ImageTargetRenderbufferStorage k h in
    let r : is_renderable (image_storage s.objects (target_image s n c)) ≡ true = not-false _ (given_last (not (is_renderable (image_storage s.objects (target_image s n c)))) (is_some (target_handle s n c)) (not-false _ off.1.0) off.1.1.1.0) in
    renderable_stored (storage_in s.objects i.storage) (sym (ap (λ o. is_renderable (image_storage s.objects o)) e) ∙ r)

-- ---- The kind of a renderbuffer changes no storage.
no_storage : (r : RenderbufferValue) (o : Option Object) → as_storage (with_renderbuffer (with_kind r) o) ≡ as_storage o
no_storage r (Some (Renderbuffer x)) = refl
no_storage r o = refl

storage_stays : (r : RenderbufferValue) (x k : ℕ) (os mid : List (Option Object)) → mid ≡ change_renderbuffer (with_kind r) x os → IsSome (storage_in os k) → IsSome (storage_in mid k)
unfolding change_renderbuffer
storage_stays r x k os mid e h = ap (λ (xs : List (Option Object)). is_some (storage_in xs k)) e ∙ ap is_some (same_at_set as_storage os x (with_renderbuffer (with_kind r) (get_or os x None)) None (no_storage r (get_or os x None)) k) ∙ h

pub pixels_stay : (r : RenderbufferValue) (x k : ℕ) (os mid : List (Option Object)) → mid ≡ change_renderbuffer (with_kind r) x os → IsSome (storage_in os k) → IsPixels mid k
pixels_stay r x k os mid e h = storage_ranks (get_or mid k None) (storage_stays r x k os mid e h)
