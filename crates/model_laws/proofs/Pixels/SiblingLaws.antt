-- What a call leaves that gives a texture's level or a renderbuffer other pixels.
use Rattle.std.proofs.Common.{◌≡◌, ◌≢◌, ℕ, zero, suc, ◌<◌, ◌≤◌, List, [], ◌∷◌, ◌++◌, length, get_or, set, refl, sym, ap, subst, ◌∙◌, arith, Option, None, Some}
use Rattle.std.specs.Option.{option_map_or}
use Rattle.std.proofs.lemmas.Bool.{cond_both}
use Rattle.std.proofs.lemmas.List.{get_or-set_other, length-append, length-set}
use Rattle.egl_calls.specs.Calls.{CallValue}
use Rattle.egl_calls.specs.declared.errors.EglError.TheVariants.{Success}
use Rattle.egl_calls.specs.declared.kinds.EglKind.{EglKind}
use Rattle.egl_calls.specs.declared.kinds.EglKind.TheVariants.{CreateImage, DestroyImage}
use Rattle.egl_calls.specs.declared.kinds.GlKind.{GlKind}
use Rattle.egl_calls.specs.declared.kinds.GlKind.TheVariants.{CopyTexImage2d, ImageTargetRenderbufferStorage, ImageTargetTexture2d, RenderbufferStorage, TexImage2d}
use Rattle.driver_objects.specs.Storages.{StorageValue}
use Rattle.driver_objects.specs.declared.objects.Object.{Object}
use Rattle.driver_objects.specs.declared.objects.Object.TheVariants.{Image, Renderbuffer, Storage, Texture}
use Rattle.egl_image.specs.declared.images.EglImage.{EglImage}
use Rattle.framebuffer_objects.specs.Renderbuffers.{RenderbufferValue}
use Rattle.pixel_rows.specs.Images.{ImageValue}
use Rattle.egl_model.specs.Copies.{copied, copied_from, copied_level, copies_nothing, read_image}
use Rattle.egl_model.specs.Arguments.{number}
use Rattle.egl_model.specs.EglCalls.{egl_effect}
use Rattle.egl_model.specs.GlCalls.{gl_effect}
use Rattle.egl_model.specs.Images.{add_image, image_kind, levels_dropped, renderbuffer_of_image, source_storage, target_image, texture_of_image}
use Rattle.egl_model.specs.Objects.{as_storage, change_renderbuffer, storage_in, with_renderbuffer}
use Rattle.egl_model.specs.Renderbuffers.{new_kind, new_pixels, stored_as, target_renderbuffer, with_kind}
use Rattle.egl_model.specs.State.{State, set_error}
use Rattle.egl_model.specs.Step.{Stepped, step}
use Rattle.egl_model.specs.Sweep.{roots, sweep}
use Rattle.egl_model.specs.Textures.{change_pixels, level_of, new_level, specified, specified_in, target_texture, unpack_alignment, with_pixels}
use Rattle.model_laws.specs.Laws.{IsAllowedEgl, IsAllowedGl}
use Rattle.model_laws.specs.Siblings.{LeavesSiblings}
use Rattle.model_laws.proofs.References.Places.{at_old, below, same_at_set}
use Rattle.model_laws.proofs.Steps.RefusalLaws.{allowed_egl_state}
use Rattle.model_laws.proofs.References.SweepLaws.{left_as_it_was}
use Rattle.model_laws.proofs.Pixels.TextureLaws.{allowed_gl, some_storage}

-- ---- Lists of objects: one of them changes, and new ones may stand behind them.
record Leaves (target : Option ℕ) (os ps : List (Option Object)) : Type 0 where
  places : length os ≤ length ps
  objects : (n : ℕ) → n < length os → target ≢ Some n → get_or ps n None ≡ get_or os n None
  pixels : (n : ℕ) → n < length os → storage_in ps n ≡ storage_in os n

leaves_self : (target : Option ℕ) (os : List (Option Object)) → Leaves target os os
leaves_self target os = record { places = omega arith; objects = λ n l ne. refl; pixels = λ n l. refl }

leaves_then : (target : Option ℕ) (os ps qs : List (Option Object)) → Leaves target os ps → Leaves target ps qs → Leaves target os qs
leaves_then target os ps qs f g = let a = f.places in let b = g.places in record {
  places = omega (arith, a, b);
  objects = λ n l ne. g.objects n (omega (arith, a, l)) ne ∙ f.objects n l ne;
  pixels = λ n l. g.pixels n (omega (arith, a, l)) ∙ f.pixels n l;
}

leaves_more : (target : Option ℕ) (os new : List (Option Object)) → Leaves target os (os ++ new)
leaves_more target os new = record {
  places = let l = length-append os new in omega (arith, l);
  objects = λ n l ne. at_old os new None n l;
  pixels = λ n l. ap as_storage (at_old os new None n l);
}

leaves_changed : (x : ℕ) (f : Option Object → Option Object) → ((o : Option Object) → as_storage (f o) ≡ as_storage o) → (os : List (Option Object)) → Leaves (Some x) os (set os x (f (get_or os x None)))
leaves_changed x f same os = record {
  places = let l = length-set os x (f (get_or os x None)) in omega (arith, l);
  objects = λ n l ne. get_or-set_other os x n (f (get_or os x None)) None (λ e. ne (ap Some (sym e)));
  pixels = λ n l. same_at_set as_storage os x (f (get_or os x None)) None (same (get_or os x None)) n;
}

leaves_pixels : (k : ℕ) (p : Option ℕ) (x : ℕ) (os : List (Option Object)) → Leaves (Some x) os (change_pixels k p x os)
unfolding change_pixels
leaves_pixels k p x os = leaves_changed x (with_pixels k p) same os
  where
    same : (o : Option Object) → as_storage (with_pixels k p o) ≡ as_storage o
    same (Some (Texture y)) = refl
    same (Some (Renderbuffer y)) = refl
    same o = refl

leaves_kind : (r : RenderbufferValue) (x : ℕ) (os : List (Option Object)) → Leaves (Some x) os (change_renderbuffer (with_kind r) x os)
unfolding change_renderbuffer
leaves_kind r x os = leaves_changed x (with_renderbuffer (with_kind r)) same os
  where
    same : (o : Option Object) → as_storage (with_renderbuffer (with_kind r) o) ≡ as_storage o
    same (Some (Renderbuffer y)) = refl
    same o = refl

leaves_new : (k : ℕ) (v : Option StorageValue) (x : ℕ) (os : List (Option Object)) → Leaves (Some x) os (specified_in k v x os)
leaves_new k None x os = leaves_pixels k None x os
leaves_new k (Some v) x os = let new = Some (Storage v) ∷ [] in leaves_then (Some x) os (os ++ new) (specified_in k (Some v) x os) (leaves_more (Some x) os new) (leaves_pixels k (Some (length os)) x (os ++ new))

leaves_dropped : (k x : ℕ) (os : List (Option Object)) → Leaves (Some x) os (levels_dropped k x os)
leaves_dropped zero x os = leaves_self (Some x) os
leaves_dropped (suc k) x os = leaves_then (Some x) os (levels_dropped k x os) (levels_dropped (suc k) x os) (leaves_dropped k x os) (leaves_pixels (suc k) None x (levels_dropped k x os))

-- ---- What each call makes of a state.
leaves_specified : (k : ℕ) (v : Option StorageValue) (target : Option ℕ) (s : State) → Leaves target s.objects (specified k v target s).objects
leaves_specified k v None s = leaves_self None s.objects
leaves_specified k v (Some x) s = leaves_new k v x s.objects

leaves_copied : (s : State) (t n : ℕ) (c : CallValue) → Leaves (target_texture s n) s.objects (copied s t n c).objects
leaves_copied s t n c = cond_both (copies_nothing c) (specified (level_of c) None (target_texture s n) s) (copied_from (read_image s t) c (target_texture s n) s) (λ (a : State). Leaves (target_texture s n) s.objects a.objects)
    (λ _. leaves_specified (level_of c) None (target_texture s n) s) (λ _. of_image (read_image s t))
  where
    of_image : (o : Option ImageValue) → Leaves (target_texture s n) s.objects (copied_from o c (target_texture s n) s).objects
    of_image (Some i) = leaves_specified (level_of c) (Some (copied_level c i)) (target_texture s n) s
    of_image None = leaves_self (target_texture s n) s.objects

leaves_stored : (r : RenderbufferValue) (v : Option StorageValue) (target : Option ℕ) (s : State) → Leaves target s.objects (stored_as r v target s).objects
leaves_stored r v None s = leaves_self None s.objects
leaves_stored r v (Some x) s = let os = change_renderbuffer (with_kind r) x s.objects in leaves_then (Some x) s.objects os (specified_in 0 v x os) (leaves_kind r x s.objects) (leaves_new 0 v x os)

leaves_texture : (o : Option EglImage) (target : Option ℕ) (s : State) → Leaves target s.objects (texture_of_image o target s).objects
leaves_texture None target s = leaves_self target s.objects
leaves_texture (Some i) None s = leaves_self None s.objects
leaves_texture (Some i) (Some x) s = let os = levels_dropped 10 x s.objects in leaves_then (Some x) s.objects os (change_pixels 0 (Some i.storage) x os) (leaves_dropped 10 x s.objects) (leaves_pixels 0 (Some i.storage) x os)

leaves_renderbuffer : (o : Option EglImage) (target : Option ℕ) (s : State) → Leaves target s.objects (renderbuffer_of_image o target s).objects
leaves_renderbuffer None target s = leaves_self target s.objects
leaves_renderbuffer (Some i) None s = leaves_self None s.objects
leaves_renderbuffer (Some i) (Some x) s =
    let r = image_kind (storage_in s.objects i.storage) in let os = change_renderbuffer (with_kind r) x s.objects in
    leaves_then (Some x) s.objects os (change_pixels 0 (Some i.storage) x os) (leaves_kind r x s.objects) (leaves_pixels 0 (Some i.storage) x os)

-- a new image changes no object
leaves_created : (s : State) (d : ℕ) (o : Option ℕ) → Leaves None s.objects (option_map_or (add_image s d) o s).objects
leaves_created s d None = leaves_self None s.objects
leaves_created s d (Some k) = leaves_more None s.objects (Some (Image (record { storage = k })) ∷ [])

-- ---- The whole call, behind whose change a sweep may take objects.
left_by_sweep : (s a : State) (target : Option ℕ) → Leaves target s.objects a.objects → LeavesSiblings s (sweep a) target
left_by_sweep s a target l = record {
  objects = λ n ne before after. left_as_it_was (roots a) a.objects n after ∙ l.objects n (below s.objects n before) ne;
  pixels = λ n v h after. ap as_storage (left_as_it_was (roots a) a.objects n after) ∙ l.pixels n (below s.objects n (some_storage (get_or s.objects n None) v h)) ∙ h;
}

by_call : (s : State) (t n : ℕ) (k : GlKind) (c : CallValue) (target : Option ℕ) → IsAllowedGl s t n k c → Leaves target s.objects (gl_effect s t n k c).state.objects → LeavesSiblings s (step s t c).state target
by_call s t n k c target h l = subst (λ (x : Stepped). LeavesSiblings s x.state target) (sym (allowed_gl s t n k c h)) (left_by_sweep s (gl_effect s t n k c).state target l)

pub level_given_alone : (s : State) (t n : ℕ) (c : CallValue) → IsAllowedGl s t n TexImage2d c → LeavesSiblings s (step s t c).state (target_texture s n)
level_given_alone s t n c h = by_call s t n TexImage2d c (target_texture s n) h (leaves_specified (level_of c) (new_level c (unpack_alignment s n)) (target_texture s n) s)

pub level_copied_alone : (s : State) (t n : ℕ) (c : CallValue) → IsAllowedGl s t n CopyTexImage2d c → LeavesSiblings s (step s t c).state (target_texture s n)
level_copied_alone s t n c h = by_call s t n CopyTexImage2d c (target_texture s n) h (leaves_copied s t n c)

pub renderbuffer_stored_alone : (s : State) (t n : ℕ) (c : CallValue) → IsAllowedGl s t n RenderbufferStorage c → LeavesSiblings s (step s t c).state (target_renderbuffer s n)
renderbuffer_stored_alone s t n c h = by_call s t n RenderbufferStorage c (target_renderbuffer s n) h (leaves_stored (new_kind c) (new_pixels c) (target_renderbuffer s n) s)

pub texture_targeted_alone : (s : State) (t n : ℕ) (c : CallValue) → IsAllowedGl s t n ImageTargetTexture2d c → LeavesSiblings s (step s t c).state (target_texture s n)
texture_targeted_alone s t n c h = by_call s t n ImageTargetTexture2d c (target_texture s n) h (leaves_texture (target_image s n c) (target_texture s n) s)

pub renderbuffer_targeted_alone : (s : State) (t n : ℕ) (c : CallValue) → IsAllowedGl s t n ImageTargetRenderbufferStorage c → LeavesSiblings s (step s t c).state (target_renderbuffer s n)
renderbuffer_targeted_alone s t n c h = by_call s t n ImageTargetRenderbufferStorage c (target_renderbuffer s n) h (leaves_renderbuffer (target_image s n c) (target_renderbuffer s n) s)

by_egl_call : (s : State) (t : ℕ) (k : EglKind) (c : CallValue) (target : Option ℕ) → IsAllowedEgl s t k c → Leaves target s.objects (egl_effect s t k c).state.objects → LeavesSiblings s (step s t c).state target
by_egl_call s t k c target h l = subst (λ (a : State). LeavesSiblings s a target) (sym (allowed_egl_state s t k c h)) (left_by_sweep s (set_error (egl_effect s t k c).state t Success) target l)

pub image_changes_nothing : (s : State) (t : ℕ) (c : CallValue) → IsAllowedEgl s t CreateImage c → LeavesSiblings s (step s t c).state None
image_changes_nothing s t c h = by_egl_call s t CreateImage c None h (leaves_created s (number c 0) (source_storage s c))

pub destroying_changes_nothing : (s : State) (t : ℕ) (c : CallValue) → IsAllowedEgl s t DestroyImage c → LeavesSiblings s (step s t c).state None
destroying_changes_nothing s t c h = by_egl_call s t DestroyImage c None h (leaves_self None s.objects)
