-- What the calls that copy pixels into a texture keep, and how they pass what is put for others.
use Rattle.std.proofs.Common.{◌≡◌, ℕ, ◌≤◌, refl, ap, ◌∙◌, arith, Option, None, Some}
use Rattle.std.specs.Option.{option_and_then}
use Rattle.egl_calls.specs.Calls.{CallValue}
use Rattle.egl_calls.specs.Ranges.{unsigned}
use Rattle.egl_calls.specs.Arguments.{number, signed}
use Rattle.egl_calls.specs.declared.kinds.Kind.TheVariants.{Gl}
use Rattle.egl_calls.specs.declared.kinds.GlKind.TheVariants.{CopyTexImage2d}
use Rattle.call_rules.specs.GlAllowed.{CopyAllowed}
use Rattle.call_rules.proofs.GlLaws.{copy_allowed}
use Rattle.pixel_rows.specs.Images.{ImageValue}
use Rattle.pixel_rows.specs.Painting.{painted}
use Rattle.rect_pipeline.specs.Copying.{copied_into}
use Rattle.driver_objects.specs.Storages.{recopied_by, storage_bytes}
use Rattle.driver_objects.specs.declared.objects.Object.TheVariants.{Context, Storage}
use Rattle.egl_model.specs.State.{State}
use Rattle.egl_model.specs.Copies.{copied, copied_bytes, copied_format, copied_from, copied_level, copied_part, copied_part_from, copied_part_rect, copied_rect, copies_nothing, read_image}
use Rattle.egl_model.specs.Framebuffers.{BoundFramebuffer, bound_framebuffer}
use Rattle.egl_model.specs.GlCalls.{gl_refusal}
use Rattle.egl_model.specs.GlFacts.{gl_facts_of, has_read_alpha, has_stored_alpha}
use Rattle.egl_model.specs.Objects.{as_storage, change_storage, storage_in}
use Rattle.egl_model.specs.Parts.{put_own}
use Rattle.egl_model.specs.Textures.{level_of, level_storage, specified, target_texture}
use Rattle.model_laws.specs.Extents.{quiet}
use Rattle.model_laws.specs.Shapes.{IsFree, shapes}
use Rattle.model_laws.specs.Sound.{IsWhole}
use Rattle.model_laws.proofs.Steps.Blinds.{blind-object}
use Rattle.model_laws.proofs.Parts.BoundFramebuffers.{blind-bound_framebuffer, blind-read_from}
use Rattle.model_laws.proofs.Calls.GlCalls.{acts-written}
use Rattle.model_laws.proofs.Changes.Keeps.{Acts, Blind, acts_cond, acts_of, acts_self}
use Rattle.model_laws.proofs.Changes.NewObjects.{full-copied}
use Rattle.model_laws.proofs.Changes.Setters.{form-recopied}
use Rattle.model_laws.proofs.Calls.TextureCalls.{acts-new_level, acts-no_level, blind-level, blind-target, free_level, side_few, small}
use Rattle.model_laws.proofs.Changes.Writes.{IsBlind}

-- ---- What a thread reads, which no other thread has to itself.
blind-read_image : (t : ℕ) (s : State) → Blind t s (λ a. read_image a t)
blind-read_image t s w v x ne = ap (λ o. option_and_then (λ y. y.image) o) (blind-read_from t s w v x ne)

alpha-blind : IsBlind (λ o. has_stored_alpha (as_storage o))
alpha-blind (Some (Context c)) = refl
alpha-blind (Some (Storage v)) = refl
alpha-blind o = refl

blind-stored_alpha : (t : ℕ) (o : Option ℕ) (s : State) → Blind t s (λ a. has_stored_alpha (option_and_then (storage_in a.objects) o))
blind-stored_alpha t None s w v x ne = refl
blind-stored_alpha t (Some n) s w v x ne = blind-object (λ o. has_stored_alpha (as_storage o)) alpha-blind t n s w v x ne

pub blind-read_alpha : (t : ℕ) (s : State) → Blind t s (λ a. has_read_alpha a t)
blind-read_alpha t s w v x ne =
    ap (λ (b : BoundFramebuffer). has_stored_alpha (option_and_then (storage_in (put_own s v x).objects) b.read)) (blind-bound_framebuffer t s w v x ne)
    ∙ blind-stored_alpha t (bound_framebuffer s t).read s w v x ne

-- ---- glCopyTexImage2D.
pub copy_passed : (s : State) (t n : ℕ) (c : CallValue) → c.kind ≡ Gl CopyTexImage2d → gl_refusal s t n CopyTexImage2d c ≡ None → CopyAllowed c (gl_facts_of s t n c)
unfolding gl_refusal
copy_passed s t n c h r = copy_allowed c (gl_facts_of s t n c) h r

new_bytes : (c : CallValue) (i : ImageValue) → unsigned (signed c 5) ≤ 1024 → unsigned (signed c 6) ≤ 1024 → storage_bytes (copied_level c i) ≡ copied_bytes c
unfolding copied_into painted
new_bytes c i a b = rw (small (unsigned (signed c 5)) a, small (unsigned (signed c 6)) b) refl

acts-copied_level : (s : State) (t n k : ℕ) (c : CallValue) (i : ImageValue) (o : Option ℕ) → CopyAllowed c (gl_facts_of s t n c) → Acts quiet t s (λ a. specified k (Some (copied_level c i)) o a)
acts-copied_level s t n k c i None h = acts_self t s
acts-copied_level s t n k c i (Some x) h =
    let w = side_few _ (signed c 5) h.width in let e = side_few _ (signed c 6) h.height in let room = h.room in
    acts-new_level s t k x (copied_level c i) (full-copied (copied_format c) i (copied_rect c) (omega (arith, w)) (omega (arith, e))) (let b = new_bytes c i w e in omega (arith, b, room))

acts-copied_from : (s : State) (t n : ℕ) (c : CallValue) (from : Option ImageValue) (o : Option ℕ) → CopyAllowed c (gl_facts_of s t n c) → Acts quiet t s (λ a. copied_from from c o a)
acts-copied_from s t n c (Some i) o h = acts-copied_level s t n (level_of c) c i o h
acts-copied_from s t n c None o h = acts_self t s

acts-copied_nothing : (s : State) (t k : ℕ) (o : Option ℕ) → Acts quiet t s (λ a. specified k None o a)
acts-copied_nothing s t k None = acts_self t s
acts-copied_nothing s t k (Some x) = acts-no_level s t k x

pub acts-copied : (s : State) (t n : ℕ) (c : CallValue) → c.kind ≡ Gl CopyTexImage2d → gl_refusal s t n CopyTexImage2d c ≡ None → Acts quiet t s (λ a. copied a t n c)
acts-copied s t n c h r = acts_cond quiet t s (copies_nothing c) (λ a. specified (level_of c) None (target_texture a n) a) (λ a. copied_from (read_image a t) c (target_texture a n) a)
    (λ _. acts_of quiet t s (λ a. target_texture a n) (λ o a. specified (level_of c) None o a) (blind-target t n s) (acts-copied_nothing s t (level_of c) (target_texture s n)))
    (λ _. acts_of quiet t s (λ a. read_image a t) (λ i a. copied_from i c (target_texture a n) a) (blind-read_image t s)
    (acts_of quiet t s (λ a. target_texture a n) (λ o a. copied_from (read_image s t) c o a) (blind-target t n s)
    (acts-copied_from s t n c (read_image s t) (target_texture s n) (copy_passed s t n c h r))))

-- ---- glCopyTexSubImage2D.
acts-copied_part_at : (s : State) (t : ℕ) (c : CallValue) (from : Option ImageValue) (o : Option ℕ) → ((n : ℕ) → o ≡ Some n → IsWhole (shapes s.objects) s → IsFree (shapes s.objects) n) → Acts quiet t s (λ a. copied_part_from from c o a)
unfolding change_storage
acts-copied_part_at s t c from None free = acts_self t s
acts-copied_part_at s t c from (Some n) free = acts-written t n s (recopied_by (number c 2) (number c 3) (copied_part_rect c) from) (form-recopied (number c 2) (number c 3) (copied_part_rect c) from) (free n refl)

pub acts-copied_part : (s : State) (t n : ℕ) (c : CallValue) → Acts quiet t s (λ a. copied_part a t n c)
acts-copied_part s t n c = acts_of quiet t s (λ a. read_image a t) (λ i a. copied_part_from i c (level_storage a n (level_of c)) a) (blind-read_image t s)
    (acts_of quiet t s (λ a. level_storage a n (level_of c)) (λ o a. copied_part_from (read_image s t) c o a) (blind-level t n (level_of c) s)
    (acts-copied_part_at s t c (read_image s t) (level_storage s n (level_of c)) (λ m e w. free_level s m (level_of c) (target_texture s n) e w)))
