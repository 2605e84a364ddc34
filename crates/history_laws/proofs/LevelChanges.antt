-- Lists of objects whose textures have their eleven levels, and changes that leave them so.
use Rattle.std.proofs.Common.{◌≡◌, inl, inr, ℕ, zero, suc, List, [], ◌∷◌, ◌++◌, length, get_or, set, refl, sym, ap, subst, ◌∙◌, Option, None, Some}
use Rattle.std.proofs.lemmas.List.{length-set}
use Rattle.std.proofs.lemmas.Option.{none-some, same_Some}
use Rattle.buffer_objects.specs.Buffers.{BufferValue}
use Rattle.context_state.specs.Parts.{PartValue}
use Rattle.framebuffer_objects.specs.Framebuffers.{FramebufferValue}
use Rattle.share_group.specs.Groups.{GroupValue}
use Rattle.surface_store.specs.Surfaces.{SurfaceValue}
use Rattle.driver_objects.specs.Storages.{StorageValue}
use Rattle.driver_objects.specs.declared.contexts.Context.{Context as ContextObject}
use Rattle.driver_objects.specs.declared.fences.Fence.{Fence}
use Rattle.driver_objects.specs.declared.objects.Object.{Object}
use Rattle.driver_objects.specs.declared.objects.Object.TheVariants.{Buffer, Context, Framebuffer, Group, Renderbuffer, Storage, Surface, Sync, Texture}
use Rattle.driver_objects.specs.declared.renderbuffers.BackedRenderbuffer.{BackedRenderbuffer}
use Rattle.driver_objects.specs.declared.textures.BackedTexture.{BackedTexture}
use Rattle.egl_model.specs.Objects.{as_texture, change_buffer, change_context, change_fence, change_framebuffer, change_group, change_part, change_renderbuffer, change_storage, change_surface, change_texture, with_buffer, with_context, with_fence, with_framebuffer, with_group, with_part, with_renderbuffer, with_storage, with_surface, with_texture}
use Rattle.egl_model.specs.State.{State}
use Rattle.egl_model.specs.Sweep.{swept}
use Rattle.egl_model.specs.Textures.{change_pixels, specified_in, with_pixels}
use Rattle.model_laws.proofs.Pixels.TextureLaws.{swept_same}
use Rattle.history_laws.specs.Levels.{HaveLevels}

abbrev pub Eleven : Option Object → Type 0
Eleven (Some (Texture x)) = length x.levels ≡ 11
Eleven o = Unit {0}

pub record Elevens (os : List (Option Object)) : Type 0 where
  pub at : (n : ℕ) → Eleven (get_or os n None)

-- ---- What it means of a state.
texture_has : (o : Option Object) (x : BackedTexture) → Eleven o → as_texture o ≡ Some x → length x.levels ≡ 11
texture_has (Some (Texture y)) x e h = ap (λ (z : BackedTexture). length z.levels) (sym (same_Some y x h)) ∙ e
texture_has o x e h = absurd (none-some x h)

pub have : (s : State) → Elevens s.objects → HaveLevels s
have s e = record { each = λ n x h. texture_has (get_or s.objects n None) x (e.at n) h }

has_texture : (o : Option Object) → ((x : BackedTexture) → as_texture o ≡ Some x → length x.levels ≡ 11) → Eleven o
has_texture (Some (Texture x)) h = h x refl
has_texture o h = tt

pub had : (s : State) → HaveLevels s → Elevens s.objects
had s h = record { at = λ n. has_texture (get_or s.objects n None) (λ x e. h.each n x e) }

-- ---- An object in place of another, and new objects behind all.
set_at : (os : List (Option Object)) (n : ℕ) (o : Option Object) → ((k : ℕ) → Eleven (get_or os k None)) → Eleven o → (k : ℕ) → Eleven (get_or (set os n o) k None)
set_at [] n o e f k = e k
set_at (x ∷ xs) zero o e f zero = f
set_at (x ∷ xs) zero o e f (suc k) = e (suc k)
set_at (x ∷ xs) (suc n) o e f zero = e zero
set_at (x ∷ xs) (suc n) o e f (suc k) = set_at xs n o (λ j. e (suc j)) f k

changes : (f : Option Object → Option Object) → ((o : Option Object) → Eleven o → Eleven (f o)) → (n : ℕ) (os : List (Option Object)) → Elevens os → Elevens (set os n (f (get_or os n None)))
changes f h n os e = record { at = set_at os n (f (get_or os n None)) e.at (h (get_or os n None) (e.at n)) }

-- new objects whose textures have their levels
abbrev pub AreNew : List (Option Object) → Type 0
AreNew [] = Unit {0}
AreNew (o ∷ os) = Eleven o × AreNew os

new_at : (os : List (Option Object)) → AreNew os → (n : ℕ) → Eleven (get_or os n None)
new_at [] h n = tt
new_at (o ∷ os) h zero = h.0
new_at (o ∷ os) h (suc n) = new_at os h.1 n

added_at : (os new : List (Option Object)) → ((n : ℕ) → Eleven (get_or os n None)) → AreNew new → (n : ℕ) → Eleven (get_or (os ++ new) n None)
added_at [] new e h n = new_at new h n
added_at (o ∷ os) new e h zero = e zero
added_at (o ∷ os) new e h (suc n) = added_at os new (λ k. e (suc k)) h n

pub adds : (os new : List (Option Object)) → Elevens os → AreNew new → Elevens (os ++ new)
adds os new e h = record { at = added_at os new e.at h }

pub empty : Elevens []
empty = record { at = λ n. tt }

-- ---- A sweep.
pub sweeps : (rs : List ℕ) (os : List (Option Object)) → Elevens os → Elevens (swept rs os)
sweeps rs os e = record {
  at = λ n. elim (swept_same rs os n) [
    | inl h ↦ subst Eleven (sym h) tt
    | inr h ↦ subst Eleven (sym h) (e.at n)
  ];
}

-- ---- Objects that aren't textures.
context_keeps : (f : ContextObject → ContextObject) (o : Option Object) → Eleven o → Eleven (with_context f o)
context_keeps f (Some (Context c)) e = tt
context_keeps f o e = e

pub change_context_keeps : (f : ContextObject → ContextObject) (n : ℕ) (os : List (Option Object)) → Elevens os → Elevens (change_context f n os)
unfolding change_context
change_context_keeps f n os e = changes (with_context f) (context_keeps f) n os e

part_keeps : (f : PartValue → PartValue) (o : Option Object) → Eleven o → Eleven (with_part f o)
part_keeps f (Some (Context c)) e = tt
part_keeps f o e = e

pub change_part_keeps : (f : PartValue → PartValue) (n : ℕ) (os : List (Option Object)) → Elevens os → Elevens (change_part f n os)
unfolding change_part
change_part_keeps f n os e = changes (with_part f) (part_keeps f) n os e

group_keeps : (f : GroupValue → GroupValue) (o : Option Object) → Eleven o → Eleven (with_group f o)
group_keeps f (Some (Group g)) e = tt
group_keeps f o e = e

pub change_group_keeps : (f : GroupValue → GroupValue) (n : ℕ) (os : List (Option Object)) → Elevens os → Elevens (change_group f n os)
unfolding change_group
change_group_keeps f n os e = changes (with_group f) (group_keeps f) n os e

buffer_keeps : (f : BufferValue → BufferValue) (o : Option Object) → Eleven o → Eleven (with_buffer f o)
buffer_keeps f (Some (Buffer b)) e = tt
buffer_keeps f o e = e

pub change_buffer_keeps : (f : BufferValue → BufferValue) (n : ℕ) (os : List (Option Object)) → Elevens os → Elevens (change_buffer f n os)
unfolding change_buffer
change_buffer_keeps f n os e = changes (with_buffer f) (buffer_keeps f) n os e

renderbuffer_keeps : (f : BackedRenderbuffer → BackedRenderbuffer) (o : Option Object) → Eleven o → Eleven (with_renderbuffer f o)
renderbuffer_keeps f (Some (Renderbuffer r)) e = tt
renderbuffer_keeps f o e = e

pub change_renderbuffer_keeps : (f : BackedRenderbuffer → BackedRenderbuffer) (n : ℕ) (os : List (Option Object)) → Elevens os → Elevens (change_renderbuffer f n os)
unfolding change_renderbuffer
change_renderbuffer_keeps f n os e = changes (with_renderbuffer f) (renderbuffer_keeps f) n os e

framebuffer_keeps : (f : FramebufferValue → FramebufferValue) (o : Option Object) → Eleven o → Eleven (with_framebuffer f o)
framebuffer_keeps f (Some (Framebuffer x)) e = tt
framebuffer_keeps f o e = e

pub change_framebuffer_keeps : (f : FramebufferValue → FramebufferValue) (n : ℕ) (os : List (Option Object)) → Elevens os → Elevens (change_framebuffer f n os)
unfolding change_framebuffer
change_framebuffer_keeps f n os e = changes (with_framebuffer f) (framebuffer_keeps f) n os e

fence_keeps : (f : Fence → Fence) (o : Option Object) → Eleven o → Eleven (with_fence f o)
fence_keeps f (Some (Sync x)) e = tt
fence_keeps f o e = e

pub change_fence_keeps : (f : Fence → Fence) (n : ℕ) (os : List (Option Object)) → Elevens os → Elevens (change_fence f n os)
unfolding change_fence
change_fence_keeps f n os e = changes (with_fence f) (fence_keeps f) n os e

storage_keeps : (f : StorageValue → StorageValue) (o : Option Object) → Eleven o → Eleven (with_storage f o)
storage_keeps f (Some (Storage v)) e = tt
storage_keeps f o e = e

pub change_storage_keeps : (f : StorageValue → StorageValue) (n : ℕ) (os : List (Option Object)) → Elevens os → Elevens (change_storage f n os)
unfolding change_storage
change_storage_keeps f n os e = changes (with_storage f) (storage_keeps f) n os e

surface_keeps : (f : SurfaceValue → SurfaceValue) (o : Option Object) → Eleven o → Eleven (with_surface f o)
surface_keeps f (Some (Surface x)) e = tt
surface_keeps f o e = e

pub change_surface_keeps : (f : SurfaceValue → SurfaceValue) (n : ℕ) (os : List (Option Object)) → Elevens os → Elevens (change_surface f n os)
unfolding change_surface
change_surface_keeps f n os e = changes (with_surface f) (surface_keeps f) n os e

-- ---- Textures.
texture_keeps : (f : BackedTexture → BackedTexture) → ((x : BackedTexture) → length (f x).levels ≡ length x.levels) → (o : Option Object) → Eleven o → Eleven (with_texture f o)
texture_keeps f h (Some (Texture x)) e = h x ∙ e
texture_keeps f h o e = e

pub change_texture_keeps : (f : BackedTexture → BackedTexture) → ((x : BackedTexture) → length (f x).levels ≡ length x.levels) → (n : ℕ) (os : List (Option Object)) → Elevens os → Elevens (change_texture f n os)
unfolding change_texture
change_texture_keeps f h n os e = changes (with_texture f) (texture_keeps f h) n os e

pixels_keep : (k : ℕ) (p : Option ℕ) (o : Option Object) → Eleven o → Eleven (with_pixels k p o)
pixels_keep k p (Some (Texture x)) e = length-set x.levels k p ∙ e
pixels_keep k p (Some (Renderbuffer r)) e = tt
pixels_keep k p o e = e

pub change_pixels_keeps : (k : ℕ) (p : Option ℕ) (n : ℕ) (os : List (Option Object)) → Elevens os → Elevens (change_pixels k p n os)
unfolding change_pixels
change_pixels_keeps k p n os e = changes (with_pixels k p) (pixels_keep k p) n os e

pub specified_keeps : (k : ℕ) (v : Option StorageValue) (n : ℕ) (os : List (Option Object)) → Elevens os → Elevens (specified_in k v n os)
specified_keeps k None n os e = change_pixels_keeps k None n os e
specified_keeps k (Some v) n os e = change_pixels_keeps k (Some (length os)) n (os ++ Some (Storage v) ∷ []) (adds os (Some (Storage v) ∷ []) e (tt, tt))
