-- What the calls on EGL images keep, and how they pass what is put for others.
use Rattle.std.proofs.Common.{◌≡◌, ℕ, zero, suc, ◌+◌, ◌&&◌, ◌||◌, ◌==◌, not, Bool, true, false, ℤ, pos, cond, List, [], ◌∷◌, ◌++◌, refl, ap, subst, ◌∙◌, arith, inr, length, get_or, map, is_some, Option, None, Some}
use Rattle.std.specs.List.{count_by, list_any, sum_by}
use Rattle.std.specs.Option.{option_and_then, option_map_or}
use Rattle.std.proofs.Math.Path.{fun_ext}
use Rattle.std.proofs.lemmas.Bool.{cond_both, eq-eqb}
use Rattle.std.proofs.lemmas.Option.{none-some, same_Some}
use Rattle.egl_calls.specs.Calls.{CallValue}
use Rattle.egl_calls.specs.declared.places.TheConstants.{CLIENT_BUFFER, DISPLAY, TARGET_IMAGE}
use Rattle.display_table.specs.declared.handles.Handle.{Handle}
use Rattle.display_table.specs.declared.handles.HandleKind.TheVariants.{Image as an_image}
use Rattle.driver_objects.specs.declared.kinds.ObjectKind.TheVariants.{Image as an_image_kind, Storage as a_storage}
use Rattle.driver_objects.specs.declared.objects.Object.{Object}
use Rattle.driver_objects.specs.declared.objects.Object.TheVariants.{Context, Image, Renderbuffer, Storage, Texture}
use Rattle.driver_objects.specs.declared.textures.BackedTexture.{BackedTexture}
use Rattle.egl_image.specs.Images.{may_create}
use Rattle.egl_image.specs.declared.images.EglImage.{EglImage}
use Rattle.texture_objects.specs.Levels.{is_complete}
use Rattle.texture_objects.specs.declared.levels.Shape.{Shape as LevelShape}
use Rattle.egl_model.specs.Arguments.{number}
use Rattle.egl_model.specs.Draws.{level_shapes}
use Rattle.egl_model.specs.Graph.{is_in}
use Rattle.egl_model.specs.Handles.{valid, with_handle}
use Rattle.egl_model.specs.Images.{above_base, add_image, asked_level, created_image, has_pixels, image_kind, image_storage, is_incomplete_in, is_renderable, is_sibling, is_source_in, level_pixels, levels_dropped, renderbuffer_of_image, source_context, source_kind, source_object, source_storage, target_handle, target_image, texture_of_image, with_pixels_in}
use Rattle.egl_model.specs.Names.{group_of, object_named}
use Rattle.egl_model.specs.Objects.{as_egl_image, as_storage, change_renderbuffer, egl_image_in, storage_in, with_renderbuffer}
use Rattle.egl_model.specs.Parts.{own_objects, put_own}
use Rattle.egl_model.specs.Renderbuffers.{target_renderbuffer, with_kind}
use Rattle.egl_model.specs.State.{State, object_at}
use Rattle.egl_model.specs.Sweep.{edges_in, live_bytes, references, roots}
use Rattle.egl_model.specs.Textures.{change_pixels, target_texture, with_pixels}
use Rattle.framebuffer_objects.specs.Renderbuffers.{RenderbufferValue}
use Rattle.model_laws.specs.Extents.{making, quiet}
use Rattle.model_laws.specs.Shapes.{HasKind, IsFree, Shape, pixels_in, shapes}
use Rattle.model_laws.specs.Sound.{IsWhole}
use Rattle.model_laws.proofs.Steps.Blinds.{blind-display, blind-length, blind-object, blind-of, free_pixels}
use Rattle.model_laws.proofs.Calls.DrawCalls.{blind-shape}
use Rattle.model_laws.proofs.Changes.Keeps.{Acts, Blind, acts_of, acts_self, acts_then, acts_within, by_quiet_moves}
use Rattle.model_laws.proofs.Changes.LinkSetters.{setter-pixels, suits-pixels}
use Rattle.model_laws.proofs.References.LitterLaws.{roots-set_error}
use Rattle.model_laws.proofs.Changes.Moves.{Add, Change, IsStored, Name, own_in}
use Rattle.model_laws.proofs.Calls.NameCalls.{blind-group_of, blind-named}
use Rattle.model_laws.proofs.Changes.NewObjects.{free_more}
use Rattle.model_laws.proofs.References.Places.{new_kind, old_kind, same_at_set}
use Rattle.model_laws.proofs.Calls.RenderbufferCalls.{acts-kind, blind-target_renderbuffer, kinded}
use Rattle.model_laws.proofs.References.Slots.{in_levels, no_edge, only_one, pixels_are_storages}
use Rattle.model_laws.proofs.Calls.TextureCalls.{acts-no_level, blind-target}
use Rattle.model_laws.proofs.Changes.Writes.{IsBlind, blind-edges, sum-written}

-- ---- What eglCreateImage looks at: names, sides and references, which no thread has to itself.
source_number : State → CallValue → Option Handle → Option ℕ
source_number s c h = option_and_then (λ h. object_named s (group_of s h.object) (source_kind c) (number c CLIENT_BUFFER)) h

blind-number : (t : ℕ) (c : CallValue) (h : Option Handle) (s : State) → Blind t s (λ a. source_number a c h)
unfolding source_number
blind-number t c None s w v x ne = refl
blind-number t c (Some h) s w v x ne =
    ap (λ g. object_named (put_own s v x) g (source_kind c) (number c CLIENT_BUFFER)) (blind-group_of t h.object s w v x ne)
    ∙ blind-named t (group_of s h.object) (source_kind c) (number c CLIENT_BUFFER) s w v x ne

blind-at : {A : Type 0} (g : Option Object → A) → IsBlind g → (t : ℕ) (o : Option ℕ) (s : State) → Blind t s (λ a. g (option_and_then (object_at a) o))
blind-at g b t None s w v x ne = refl
blind-at g b t (Some n) s w v x ne = blind-object g b t n s w v x ne

blind-source : {A : Type 0} (g : Option Object → A) → IsBlind g → (t : ℕ) (c : CallValue) (s : State) → Blind t s (λ a. g (source_object a c))
unfolding source_number
blind-source g b t c s w v x ne =
    ap (λ o. g (option_and_then (object_at (put_own s v x)) o)) (blind-number t c (source_context s c) s w v x ne)
    ∙ blind-at g b t (source_number s c (source_context s c)) s w v x ne

pixels-blind : IsBlind (λ o. has_pixels (as_storage o))
pixels-blind (Some (Context c)) = refl
pixels-blind (Some (Storage v)) = refl
pixels-blind o = refl

blind-with_pixels : (t : ℕ) (o : Option ℕ) (s : State) → Blind t s (λ a. with_pixels_in a.objects o)
blind-with_pixels t None s w v x ne = refl
blind-with_pixels t (Some k) s w v x ne = ap (λ b. cond b (Some k) None) (blind-object (λ o. has_pixels (as_storage o)) pixels-blind t k s w v x ne)

level-blind : (l : ℤ) → IsBlind (level_pixels l)
level-blind (pos k) (Some (Context c)) = refl
level-blind (pos k) (Some (Storage v)) = refl
level-blind l o = refl

pub blind-source_storage : (t : ℕ) (c : CallValue) (s : State) → Blind t s (λ a. source_storage a c)
blind-source_storage t c s w v x ne =
    ap (with_pixels_in (put_own s v x).objects) (blind-source (level_pixels (asked_level c)) (level-blind (asked_level c)) t c s w v x ne)
    ∙ blind-with_pixels t (level_pixels (asked_level c) (source_object s c)) s w v x ne

blind-level_shapes : (t : ℕ) (y : BackedTexture) (s : State) → Blind t s (λ a. level_shapes a.objects y)
blind-level_shapes t y s w v x ne = ap (λ (f : Option ℕ → Option LevelShape). map f y.levels) (fun_ext (λ o. blind-shape t o s w v x ne))

-- whether there may be an image at all, by what the state has at the call and by an object
source-blind : (os : List (Option Object)) → IsBlind (is_source_in os)
source-blind os (Some (Context c)) = refl
source-blind os (Some (Storage v)) = refl
source-blind os o = refl

blind-is_source_in : (t : ℕ) (o : Option Object) (s : State) → Blind t s (λ a. is_source_in a.objects o)
blind-is_source_in t (Some (Texture y)) s w v x ne = ap (list_any is_some) (blind-level_shapes t y s w v x ne)
blind-is_source_in t (Some (Renderbuffer r)) s w v x ne = ap (λ (o : Option ℕ). is_some o) (blind-with_pixels t r.storage s w v x ne)
blind-is_source_in t o s w v x ne = refl

pub blind-is_source : (t : ℕ) (c : CallValue) (s : State) → Blind t s (λ a. is_source_in a.objects (source_object a c))
blind-is_source t c s w v x ne =
    blind-source (is_source_in (put_own s v x).objects) (source-blind (put_own s v x).objects) t c s w v x ne
    ∙ blind-is_source_in t (source_object s c) s w v x ne

incomplete-blind : (os : List (Option Object)) → IsBlind (is_incomplete_in os)
incomplete-blind os (Some (Context c)) = refl
incomplete-blind os (Some (Storage v)) = refl
incomplete-blind os o = refl

blind-is_incomplete_in : (t : ℕ) (o : Option Object) (s : State) → Blind t s (λ a. is_incomplete_in a.objects o)
blind-is_incomplete_in t (Some (Texture y)) s w v x ne = ap (λ (zs : List (Option LevelShape)). list_any is_some (above_base zs) && not (is_complete y.texture zs)) (blind-level_shapes t y s w v x ne)
blind-is_incomplete_in t o s w v x ne = refl

pub blind-is_incomplete : (t : ℕ) (c : CallValue) (s : State) → Blind t s (λ a. is_incomplete_in a.objects (source_object a c))
blind-is_incomplete t c s w v x ne =
    blind-source (is_incomplete_in (put_own s v x).objects) (incomplete-blind (put_own s v x).objects) t c s w v x ne
    ∙ blind-is_incomplete_in t (source_object s c) s w v x ne

-- what is put of parts and images is no reference
blind-references : (t n : ℕ) (s : State) → Blind t s (λ a. references a n)
unfolding references
blind-references t n s w v x ne =
    ap (λ k. k + count_by (λ m. m == n) (roots (put_own s v x))) (sum-written (λ o. count_by (λ m. m == n) (edges_in o)) (λ o. ap (count_by (λ m. m == n)) (blind-edges o)) (own_objects s v) x s.objects)
    ∙ ap (λ rs. sum_by (λ o. count_by (λ m. m == n) (edges_in o)) s.objects + count_by (λ m. m == n) rs) (roots-set_error s v x.error)

blind-is_sibling : (t : ℕ) (o : Option ℕ) (s : State) → Blind t s (λ a. is_sibling a o)
blind-is_sibling t None s w v x ne = refl
blind-is_sibling t (Some k) s w v x ne = ap (λ r. not (may_create r)) (blind-references t k s w v x ne)

pub blind-is_source_sibling : (t : ℕ) (c : CallValue) (s : State) → Blind t s (λ a. is_sibling a (source_storage a c))
blind-is_source_sibling t c s w v x ne = ap (is_sibling (put_own s v x)) (blind-source_storage t c s w v x ne) ∙ blind-is_sibling t (source_storage s c) s w v x ne

-- ---- What the calls look at that take over an image's pixels.
pub blind-target_handle : (t n : ℕ) (c : CallValue) (s : State) → Blind t s (λ a. target_handle a n c)
blind-target_handle t n c s w v x ne = ap (λ d. valid s d (number c TARGET_IMAGE) an_image) (blind-display t (Some n) s w v x ne)

image-blind : IsBlind as_egl_image
image-blind (Some (Context c)) = refl
image-blind (Some (Storage v)) = refl
image-blind o = refl

pub blind-target_image : (t n : ℕ) (c : CallValue) (s : State) → Blind t s (λ a. target_image a n c)
blind-target_image t n c s w v x ne =
    ap (λ o. option_and_then (λ (h : Handle). egl_image_in (put_own s v x).objects h.object) o) (blind-target_handle t n c s w v x ne)
    ∙ blind-of as_egl_image image-blind t (target_handle s n c) s w v x ne

renderable-blind : IsBlind (λ o. is_renderable (as_storage o))
renderable-blind (Some (Context c)) = refl
renderable-blind (Some (Storage v)) = refl
renderable-blind o = refl

blind-renderable_image : (t : ℕ) (o : Option EglImage) (s : State) → Blind t s (λ a. is_renderable (image_storage a.objects o))
blind-renderable_image t None s w v x ne = refl
blind-renderable_image t (Some i) s w v x ne = blind-object (λ o. is_renderable (as_storage o)) renderable-blind t i.storage s w v x ne

pub blind-renderable : (t n : ℕ) (c : CallValue) (s : State) → Blind t s (λ a. is_renderable (image_storage a.objects (target_image a n c)))
blind-renderable t n c s w v x ne =
    ap (λ o. is_renderable (image_storage (put_own s v x).objects o)) (blind-target_image t n c s w v x ne)
    ∙ blind-renderable_image t (target_image s n c) s w v x ne

-- ---- A storage that is no surface's.
record IsShareable (sh : List (Option Shape)) (k : ℕ) : Type 0 where
  storage : HasKind sh a_storage k
  free : IsFree sh k

-- what stands among the pixels of an object that isn't a surface
shareable : (s : State) (n k : ℕ) → own_in (object_at s n) ≡ None → is_in k (pixels_in (object_at s n)) ≡ true → IsWhole (shapes s.objects) s → IsShareable (shapes s.objects) k
shareable s n k none h w = record {
  storage = pixels_are_storages (shapes s.objects) (object_at s n) k (w.kinds.objects n) h;
  free = free_pixels s n k none h w;
}

-- ---- eglCreateImage.
at_base : (k : ℕ) (b : Bool) (o : Option ℕ) → cond b o None ≡ Some k → o ≡ Some k
at_base k true o h = h
at_base k false o h = absurd (none-some k h)

among_pixels : (k : ℕ) (l : ℤ) (o : Option Object) → level_pixels l o ≡ Some k → (is_in k (pixels_in o) ≡ true) × (own_in o ≡ None)
among_pixels k (pos j) (Some (Texture y)) h = (in_levels k j y.levels h, refl)
among_pixels k (pos j) (Some (Renderbuffer r)) h = (in_levels k 0 (r.storage ∷ []) (at_base k (j == 0) r.storage h), refl)
among_pixels k l o h = absurd (none-some k h)

named_pixels : (os : List (Option Object)) (o : Option ℕ) (k : ℕ) → with_pixels_in os o ≡ Some k → o ≡ Some k
named_pixels os None k h = h
named_pixels os (Some j) k h = cond_both (has_pixels (storage_in os j)) (Some j) None (λ (y : Option ℕ). y ≡ Some k → Some j ≡ Some k) (λ _ e. e) (λ _ e. absurd (none-some k e)) h

object_pixels : (s : State) (l : ℤ) (o : Option ℕ) (k : ℕ) → level_pixels l (option_and_then (object_at s) o) ≡ Some k → IsWhole (shapes s.objects) s → IsShareable (shapes s.objects) k
object_pixels s l None k h w = no_edge k (among_pixels k l None h).0
object_pixels s l (Some n) k h w = let a = among_pixels k l (object_at s n) h in shareable s n k a.1 a.0 w

source_pixels : (s : State) (c : CallValue) (k : ℕ) → source_storage s c ≡ Some k → IsWhole (shapes s.objects) s → IsShareable (shapes s.objects) k
unfolding source_number
source_pixels s c k h w = object_pixels s (asked_level c) (source_number s c (source_context s c)) k (named_pixels s.objects (level_pixels (asked_level c) (source_object s c)) k h) w

image_of : ℕ → Option Object
image_of k = Some (Image (record { storage = k }))

stored_image : (s : State) (place k : ℕ) → IsFree (shapes s.objects) k → IsStored (shapes s.objects ++ shapes (image_of k ∷ [])) s.windows place (image_of k)
unfolding image_of
stored_image s place k f = record {
  own = λ m e. absurd (none-some m e);
  thawed = λ m e. absurd (none-some m e);
  sides = λ m e. absurd (none-some m e);
  window = λ id e. absurd (none-some id e);
  pixels = λ m h. inr (subst (IsFree (shapes s.objects ++ shapes (image_of k ∷ []))) (only_one m k h) (free_more s.objects (image_of k) k refl f));
}

acts-add_image : (s : State) (t d k : ℕ) → (IsWhole (shapes s.objects) s → IsShareable (shapes s.objects) k) → Acts making t s (λ a. add_image a d k)
unfolding live_bytes image_of
acts-add_image s t d k own =
    let n = length s.objects in let new = image_of k ∷ [] in
    acts_of making t s (λ a. length a.objects) (λ n a. with_handle a d an_image n (image_of k ∷ [])) (blind-length t s)
    (by_quiet_moves t s (Add new ∷ Name d an_image n ∷ []) refl ((tt, tt), (tt, tt)) (λ w. (
      ((old_kind (shapes s.objects) (shapes new) a_storage k (own w).storage, tt), stored_image s _ k (own w).free, tt),
      λ v. (new_kind s.objects new 0 n an_image_kind (omega arith) refl, tt),
    )))

acts-created : (s : State) (t d : ℕ) (o : Option ℕ) → ((k : ℕ) → o ≡ Some k → IsWhole (shapes s.objects) s → IsShareable (shapes s.objects) k) → Acts making t s (λ a. option_map_or (add_image a d) o a)
acts-created s t d None own = acts_within making t s (λ a. a) (acts_self t s)
acts-created s t d (Some k) own = acts-add_image s t d k (own k refl)

pub acts-create_image : (s : State) (t : ℕ) (c : CallValue) → Acts making t s (λ a. created_image a c)
acts-create_image s t c = acts_of making t s (λ a. source_storage a c) (λ o a. option_map_or (add_image a (number c DISPLAY)) o a) (blind-source_storage t c s)
    (acts-created s t (number c DISPLAY) (source_storage s c) (λ k e w. source_pixels s c k e w))

-- ---- The storage of an image, which stands among its pixels.
image_pixels : (s : State) (m : ℕ) (i : EglImage) → egl_image_in s.objects m ≡ Some i → IsWhole (shapes s.objects) s → IsShareable (shapes s.objects) i.storage
image_pixels s m i h w = let a = of_image (object_at s m) h in shareable s m i.storage a.1 a.0 w
  where
    of_image : (o : Option Object) → as_egl_image o ≡ Some i → (is_in i.storage (pixels_in o) ≡ true) × (own_in o ≡ None)
    of_image (Some (Image j)) e = (ap (λ b. b || false) (eq-eqb j.storage i.storage (ap (λ (y : EglImage). y.storage) (same_Some j i e))), refl)
    of_image o e = absurd (none-some i e)

-- other pixels make no other image
image_stays : (k : ℕ) (o : Option ℕ) (x m : ℕ) (os : List (Option Object)) → egl_image_in (change_pixels k o x os) m ≡ egl_image_in os m
unfolding change_pixels
image_stays k o x m os = same_at_set as_egl_image os x (with_pixels k o (get_or os x None)) None (same (get_or os x None)) m
  where
    same : (y : Option Object) → as_egl_image (with_pixels k o y) ≡ as_egl_image y
    same (Some (Texture z)) = refl
    same (Some (Renderbuffer z)) = refl
    same y = refl

image_stays_dropped : (k x m : ℕ) (os : List (Option Object)) → egl_image_in (levels_dropped k x os) m ≡ egl_image_in os m
image_stays_dropped zero x m os = refl
image_stays_dropped (suc k) x m os = image_stays (suc k) None x m (levels_dropped k x os) ∙ image_stays_dropped k x m os

image_stays_kinded : (r : RenderbufferValue) (x m : ℕ) (os : List (Option Object)) → egl_image_in (change_renderbuffer (with_kind r) x os) m ≡ egl_image_in os m
unfolding change_renderbuffer
image_stays_kinded r x m os = same_at_set as_egl_image os x (with_renderbuffer (with_kind r) (get_or os x None)) None (same (get_or os x None)) m
  where
    same : (y : Option Object) → as_egl_image (with_renderbuffer (with_kind r) y) ≡ as_egl_image y
    same (Some (Renderbuffer z)) = refl
    same y = refl

-- a texture or a renderbuffer gets an image's pixels
acts-shared : (s : State) (t x m : ℕ) (i : EglImage) → egl_image_in s.objects m ≡ Some i → Acts quiet t s (λ a. record a { objects = change_pixels 0 (Some i.storage) x a.objects })
unfolding change_pixels
acts-shared s t x m i h = by_quiet_moves t s (Change x (with_pixels 0 (Some i.storage)) ∷ []) refl (setter-pixels 0 (Some i.storage), tt)
    (λ w. let p = image_pixels s m i h w in (suits-pixels t (shapes s.objects) s x 0 (Some i.storage) p.storage (λ j e. subst (IsFree (shapes s.objects)) (only_one j i.storage e) p.free), tt))

-- ---- glEGLImageTargetTexture2DOES.
dropped : ℕ → ℕ → State → State
dropped k x s = record s { objects = levels_dropped k x s.objects }

acts-dropped : (s : State) (t x k : ℕ) → Acts quiet t s (dropped k x)
unfolding dropped
acts-dropped s t x zero = acts_self t s
acts-dropped s t x (suc k) = acts_then quiet t s (dropped k x) (λ a. record a { objects = change_pixels (suc k) None x a.objects }) (acts-dropped s t x k) (acts-no_level (dropped k x s) t (suc k) x)

acts-texture_of : (s : State) (t : ℕ) (h : Option Handle) (o : Option EglImage) (target : Option ℕ) → option_and_then (λ h. egl_image_in s.objects h.object) h ≡ o → Acts quiet t s (λ a. texture_of_image o target a)
unfolding dropped
acts-texture_of s t h None target e = acts_self t s
acts-texture_of s t h (Some i) None e = acts_self t s
acts-texture_of s t None (Some i) (Some x) e = absurd (none-some i e)
acts-texture_of s t (Some h) (Some i) (Some x) e =
    acts_then quiet t s (dropped 10 x) (λ a. record a { objects = change_pixels 0 (Some i.storage) x a.objects }) (acts-dropped s t x 10)
    (acts-shared (dropped 10 x s) t x h.object i (image_stays_dropped 10 x h.object s.objects ∙ e))

pub acts-texture_of_image : (s : State) (t n : ℕ) (c : CallValue) → Acts quiet t s (λ a. texture_of_image (target_image a n c) (target_texture a n) a)
acts-texture_of_image s t n c = acts_of quiet t s (λ a. target_image a n c) (λ o a. texture_of_image o (target_texture a n) a) (blind-target_image t n c s)
    (acts_of quiet t s (λ a. target_texture a n) (λ x a. texture_of_image (target_image s n c) x a) (blind-target t n s)
    (acts-texture_of s t (target_handle s n c) (target_image s n c) (target_texture s n) refl))

-- ---- glEGLImageTargetRenderbufferStorageOES.
kind-blind : IsBlind (λ o. image_kind (as_storage o))
kind-blind (Some (Context c)) = refl
kind-blind (Some (Storage v)) = refl
kind-blind o = refl

acts-renderbuffer_of : (s : State) (t : ℕ) (h : Option Handle) (o : Option EglImage) (target : Option ℕ) → option_and_then (λ h. egl_image_in s.objects h.object) h ≡ o → Acts quiet t s (λ a. renderbuffer_of_image o target a)
unfolding kinded
acts-renderbuffer_of s t h None target e = acts_self t s
acts-renderbuffer_of s t h (Some i) None e = acts_self t s
acts-renderbuffer_of s t None (Some i) (Some x) e = absurd (none-some i e)
acts-renderbuffer_of s t (Some h) (Some i) (Some x) e =
    let r = image_kind (storage_in s.objects i.storage) in
    acts_of quiet t s (λ a. image_kind (storage_in a.objects i.storage)) (λ r a. record a { objects = change_pixels 0 (Some i.storage) x (change_renderbuffer (with_kind r) x a.objects) })
    (blind-object (λ o. image_kind (as_storage o)) kind-blind t i.storage s)
    (acts_then quiet t s (kinded r x) (λ a. record a { objects = change_pixels 0 (Some i.storage) x a.objects }) (acts-kind s t x r)
    (acts-shared (kinded r x s) t x h.object i (image_stays_kinded r x h.object s.objects ∙ e)))

pub acts-renderbuffer_of_image : (s : State) (t n : ℕ) (c : CallValue) → Acts quiet t s (λ a. renderbuffer_of_image (target_image a n c) (target_renderbuffer a n) a)
acts-renderbuffer_of_image s t n c = acts_of quiet t s (λ a. target_image a n c) (λ o a. renderbuffer_of_image o (target_renderbuffer a n) a) (blind-target_image t n c s)
    (acts_of quiet t s (λ a. target_renderbuffer a n) (λ x a. renderbuffer_of_image (target_image s n c) x a) (blind-target_renderbuffer t n s)
    (acts-renderbuffer_of s t (target_handle s n c) (target_image s n c) (target_renderbuffer s n) refl))
