-- What has an image's pixels behind a call that takes them over.
use Rattle.std.proofs.Common.{◌≡◌, ◌≢◌, ℕ, zero, suc, ◌<◌, ◌≤◌, ◌⊎◌, inl, inr, true, List, [], ◌∷◌, length, get_or, set, is_some, refl, sym, ap, ◌∙◌, arith, Option, None, Some}
use Rattle.std.proofs.lemmas.Bool.{cases_lt}
use Rattle.std.proofs.lemmas.List.{get_or-set_other, get_or-set_same, get_or_past, length-set}
use Rattle.std.proofs.lemmas.Option.{none-some, same_Some}
use Rattle.egl_calls.specs.Calls.{CallValue}
use Rattle.egl_calls.specs.declared.kinds.GlKind.{GlKind}
use Rattle.egl_calls.specs.declared.kinds.GlKind.TheVariants.{ImageTargetRenderbufferStorage, ImageTargetTexture2d}
use Rattle.driver_objects.specs.Storages.{StorageValue}
use Rattle.driver_objects.specs.declared.objects.Object.{Object}
use Rattle.driver_objects.specs.declared.objects.Object.TheVariants.{Renderbuffer, Texture}
use Rattle.driver_objects.specs.declared.renderbuffers.BackedRenderbuffer.{BackedRenderbuffer}
use Rattle.driver_objects.specs.declared.textures.BackedTexture.{BackedTexture}
use Rattle.egl_image.specs.declared.images.EglImage.{EglImage}
use Rattle.framebuffer_objects.specs.Renderbuffers.{RenderbufferValue, of_kind}
use Rattle.framebuffer_objects.specs.declared.points.Point.TheVariants.{Color}
use Rattle.egl_model.specs.GlCalls.{gl_effect}
use Rattle.egl_model.specs.Images.{image_kind, levels_dropped, renderbuffer_of_image, target_image, texture_of_image}
use Rattle.egl_model.specs.Objects.{as_renderbuffer, as_texture, change_renderbuffer, renderbuffer_in, storage_in, texture_in, with_renderbuffer}
use Rattle.egl_model.specs.Renderbuffers.{target_renderbuffer, with_kind}
use Rattle.egl_model.specs.State.{State, object_at}
use Rattle.egl_model.specs.Step.{Stepped, step}
use Rattle.egl_model.specs.Sweep.{roots}
use Rattle.egl_model.specs.Textures.{change_pixels, storage_at, target_texture, with_level, with_pixels}
use Rattle.model_laws.specs.Laws.{IsAllowedGl}
use Rattle.model_laws.proofs.References.SweepLaws.{left_as_it_was}
use Rattle.model_laws.proofs.Pixels.TextureLaws.{allowed_gl, changed_at}

-- ---- What is there behind a call that no rule refuses is what its effect made.
as_made : (s : State) (t n : ℕ) (k : GlKind) (c : CallValue) (x : ℕ) → IsAllowedGl s t n k c → is_some (object_at (step s t c).state x) ≡ true → object_at (step s t c).state x ≡ object_at (gl_effect s t n k c).state x
as_made s t n k c x h there =
    let a = (gl_effect s t n k c).state in let e : object_at (step s t c).state x ≡ _ = ap (λ (y : Stepped). object_at y.state x) (allowed_gl s t n k c h) in
    e ∙ left_as_it_was (roots a) a.objects x (ap is_some (sym e) ∙ there)

changed_pixels : (k : ℕ) (p : Option ℕ) (x : ℕ) (os : List (Option Object)) → get_or (change_pixels k p x os) x None ≡ with_pixels k p (get_or os x None)
unfolding change_pixels
changed_pixels k p x os = changed_at (with_pixels k p) refl x os

-- ---- A texture.
-- without storages at the levels from 1 to some level
cleared : ℕ → BackedTexture → BackedTexture
cleared zero y = y
cleared (suc k) y = with_level (suc k) None (cleared k y)

length_cleared : (k : ℕ) (y : BackedTexture) → length (cleared k y).levels ≡ length y.levels
unfolding cleared
length_cleared zero y = refl
length_cleared (suc k) y = length-set (cleared k y).levels (suc k) None ∙ length_cleared k y

none_set : (xs : List (Option ℕ)) (k : ℕ) → get_or (set xs k None) k None ≡ None
none_set [] k = refl
none_set (x ∷ xs) zero = refl
none_set (x ∷ xs) (suc k) = none_set xs k

none_above : (k j : ℕ) (y : BackedTexture) → j ≢ 0 → j ≤ k → storage_at j (cleared k y) ≡ None
unfolding cleared
none_above zero j y ne h = absurd (ne (omega (arith, h)))
none_above (suc k) j y ne h = elim (cases_lt j (suc k)) [
  | inl l ↦ get_or-set_other (cleared k y).levels (suc k) j None None (λ e. absurd (omega (arith, l, e))) ∙ none_above k j y ne (omega (arith, l))
  | inr l ↦ let e : j ≡ suc k = omega (arith, l, h) in ap (λ m. get_or (set (cleared k y).levels (suc k) None) m None) e ∙ none_set (cleared k y).levels (suc k)
]

at_dropped : (k x : ℕ) (os : List (Option Object)) (y : BackedTexture) → get_or os x None ≡ Some (Texture y) → get_or (levels_dropped k x os) x None ≡ Some (Texture (cleared k y))
unfolding cleared
at_dropped zero x os y e = e
at_dropped (suc k) x os y e = changed_pixels (suc k) None x (levels_dropped k x os) ∙ ap (with_pixels (suc k) None) (at_dropped k x os y e)

is_texture : (o : Option Object) (y : BackedTexture) → as_texture o ≡ Some y → o ≡ Some (Texture y)
is_texture (Some (Texture z)) y h = ap (λ (w : BackedTexture). Some (Texture w)) (same_Some z y h)
is_texture o y h = absurd (none-some y h)

-- the texture with an image's pixels
with_image_of : EglImage → BackedTexture → BackedTexture
with_image_of i y = with_level 0 (Some i.storage) (cleared 10 y)

texture_made : (s : State) (x : ℕ) (i : EglImage) (y : BackedTexture) (o : Option EglImage) (target : Option ℕ) → o ≡ Some i → target ≡ Some x → texture_in s.objects x ≡ Some y → object_at (texture_of_image o target s) x ≡ Some (Texture (with_image_of i y))
unfolding with_image_of
texture_made s x i y None target e f h = absurd (none-some i e)
texture_made s x i y (Some j) None e f h = absurd (none-some x f)
texture_made s x i y (Some j) (Some w) e f h =
    ap (λ (g : EglImage). object_at (texture_of_image (Some g) (Some w) s) x) (same_Some j i e) ∙ ap (λ m. object_at (texture_of_image (Some i) (Some m) s) x) (same_Some w x f)
    ∙ changed_pixels 0 (Some i.storage) x (levels_dropped 10 x s.objects)
    ∙ ap (with_pixels 0 (Some i.storage)) (at_dropped 10 x s.objects y (is_texture (object_at s x) y h))

some_texture : (o : Option Object) (z : BackedTexture) → as_texture o ≡ Some z → is_some o ≡ true
some_texture (Some a) z h = refl
some_texture None z h = absurd (none-some z h)

texture_got : (s : State) (t n : ℕ) (c : CallValue) (x : ℕ) (i : EglImage) (y z : BackedTexture) → IsAllowedGl s t n ImageTargetTexture2d c → target_texture s n ≡ Some x → target_image s n c ≡ Some i → texture_in s.objects x ≡ Some y → texture_in (step s t c).state.objects x ≡ Some z → z ≡ with_image_of i y
texture_got s t n c x i y z h target image before after =
    let e = as_made s t n ImageTargetTexture2d c x h (some_texture (object_at (step s t c).state x) z after) in
    same_Some z (with_image_of i y) (sym after ∙ ap as_texture (e ∙ texture_made s x i y (target_image s n c) (target_texture s n) image target before))

pub base_of_image : (s : State) (t n : ℕ) (c : CallValue) (x : ℕ) (i : EglImage) (y z : BackedTexture) → IsAllowedGl s t n ImageTargetTexture2d c → target_texture s n ≡ Some x → target_image s n c ≡ Some i → texture_in s.objects x ≡ Some y → length y.levels ≡ 11 → texture_in (step s t c).state.objects x ≡ Some z → storage_at 0 z ≡ Some i.storage
unfolding with_image_of
base_of_image s t n c x i y z h target image before l after =
    let m = length_cleared 10 y in
    ap (storage_at 0) (texture_got s t n c x i y z h target image before after) ∙ get_or-set_same (cleared 10 y).levels 0 (Some i.storage) None (omega (arith, l, m))

pub levels_of_image : (s : State) (t n : ℕ) (c : CallValue) (x j : ℕ) (i : EglImage) (y z : BackedTexture) → IsAllowedGl s t n ImageTargetTexture2d c → target_texture s n ≡ Some x → target_image s n c ≡ Some i → texture_in s.objects x ≡ Some y → length y.levels ≡ 11 → texture_in (step s t c).state.objects x ≡ Some z → j ≢ 0 → storage_at j z ≡ None
unfolding with_image_of
levels_of_image s t n c x j i y z h target image before l after ne =
    ap (storage_at j) (texture_got s t n c x i y z h target image before after) ∙ get_or-set_other (cleared 10 y).levels 0 j (Some i.storage) None ne ∙ by_place (cases_lt j 11)
  where
    by_place : (j < 11) ⊎ (11 ≤ j) → storage_at j (cleared 10 y) ≡ None
    by_place (inl a) = none_above 10 j y ne (omega (arith, a))
    by_place (inr a) = let m = length_cleared 10 y in get_or_past (cleared 10 y).levels j None (omega (arith, a, l, m))

-- ---- A renderbuffer.
renderbuffer_made : (s : State) (x : ℕ) (i : EglImage) (o : Option EglImage) (target : Option ℕ) → o ≡ Some i → target ≡ Some x →
    object_at (renderbuffer_of_image o target s) x ≡ with_pixels 0 (Some i.storage) (with_renderbuffer (with_kind (image_kind (storage_in s.objects i.storage))) (object_at s x))
unfolding change_renderbuffer
renderbuffer_made s x i None target e f = absurd (none-some i e)
renderbuffer_made s x i (Some j) None e f = absurd (none-some x f)
renderbuffer_made s x i (Some j) (Some w) e f =
    let r = image_kind (storage_in s.objects i.storage) in
    ap (λ (g : EglImage). object_at (renderbuffer_of_image (Some g) (Some w) s) x) (same_Some j i e) ∙ ap (λ m. object_at (renderbuffer_of_image (Some i) (Some m) s) x) (same_Some w x f)
    ∙ changed_pixels 0 (Some i.storage) x (change_renderbuffer (with_kind r) x s.objects)
    ∙ ap (with_pixels 0 (Some i.storage)) (changed_at (with_renderbuffer (with_kind r)) refl x s.objects)

renderbuffer_with : RenderbufferValue → ℕ → BackedRenderbuffer
renderbuffer_with r k = record { renderbuffer = r; storage = Some k }

renderbuffer_is : (r : RenderbufferValue) (k : ℕ) (z : BackedRenderbuffer) (o : Option Object) → as_renderbuffer (with_pixels 0 (Some k) (with_renderbuffer (with_kind r) o)) ≡ Some z → z ≡ renderbuffer_with r k
unfolding renderbuffer_with
renderbuffer_is r k z (Some (Renderbuffer y)) h = sym (same_Some _ z h)
renderbuffer_is r k z o h = absurd (none-some z h)

some_renderbuffer : (o : Option Object) (z : BackedRenderbuffer) → as_renderbuffer o ≡ Some z → is_some o ≡ true
some_renderbuffer (Some a) z h = refl
some_renderbuffer None z h = absurd (none-some z h)

renderbuffer_got : (s : State) (t n : ℕ) (c : CallValue) (x : ℕ) (i : EglImage) (z : BackedRenderbuffer) → IsAllowedGl s t n ImageTargetRenderbufferStorage c → target_renderbuffer s n ≡ Some x → target_image s n c ≡ Some i → renderbuffer_in (step s t c).state.objects x ≡ Some z →
    z ≡ renderbuffer_with (image_kind (storage_in s.objects i.storage)) i.storage
renderbuffer_got s t n c x i z h target image after =
    let e = as_made s t n ImageTargetRenderbufferStorage c x h (some_renderbuffer (object_at (step s t c).state x) z after) in
    renderbuffer_is (image_kind (storage_in s.objects i.storage)) i.storage z (object_at s x) (sym (ap as_renderbuffer (e ∙ renderbuffer_made s x i (target_image s n c) (target_renderbuffer s n) image target)) ∙ after)

pub pixels_of_image : (s : State) (t n : ℕ) (c : CallValue) (x : ℕ) (i : EglImage) (z : BackedRenderbuffer) → IsAllowedGl s t n ImageTargetRenderbufferStorage c → target_renderbuffer s n ≡ Some x → target_image s n c ≡ Some i → renderbuffer_in (step s t c).state.objects x ≡ Some z → z.storage ≡ Some i.storage
unfolding renderbuffer_with
pixels_of_image s t n c x i z h target image after = ap (λ (y : BackedRenderbuffer). y.storage) (renderbuffer_got s t n c x i z h target image after)

pub sides_of_image : (s : State) (t n : ℕ) (c : CallValue) (x : ℕ) (i : EglImage) (v : StorageValue) (z : BackedRenderbuffer) → IsAllowedGl s t n ImageTargetRenderbufferStorage c → target_renderbuffer s n ≡ Some x → target_image s n c ≡ Some i → storage_in s.objects i.storage ≡ Some v → renderbuffer_in (step s t c).state.objects x ≡ Some z →
    z.renderbuffer ≡ of_kind Color v.width v.height
unfolding renderbuffer_with
sides_of_image s t n c x i v z h target image stored after = ap (λ (y : BackedRenderbuffer). y.renderbuffer) (renderbuffer_got s t n c x i z h target image after) ∙ ap image_kind stored
