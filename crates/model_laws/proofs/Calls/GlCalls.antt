-- What each call of OpenGL ES keeps, and how it passes what is put for others.
use Rattle.std.proofs.Common.{◌≡◌, ℕ, [], ◌∷◌, refl, ap, ◌∙◌, Option, None, Some}
use Rattle.egl_calls.specs.Calls.{CallValue}
use Rattle.context_state.specs.Parts.{PartValue}
use Rattle.pixel_rows.specs.Images.{ImageValue}
use Rattle.driver_objects.specs.Storages.{cleared_image}
use Rattle.model_laws.specs.Extents.{quiet}
use Rattle.egl_model.specs.State.{State}
use Rattle.egl_model.specs.Objects.{change_part, change, change_storage, with_image, with_part}
use Rattle.egl_model.specs.Currents.{current_context, has_context, part_of_context}
use Rattle.egl_model.specs.Framebuffers.{BoundFramebuffer, bound_framebuffer}
use Rattle.egl_model.specs.Drawing.{clear_storage, cleared_draw, clears_colour}
use Rattle.egl_model.specs.Parts.{put_own}
use Rattle.model_laws.specs.Shapes.{IsFree, shapes}
use Rattle.model_laws.specs.Sound.{IsWhole}
use Rattle.model_laws.proofs.Steps.Blinds.{alone_with, blind-own_part, free_undrawn}
use Rattle.model_laws.proofs.Parts.BoundFramebuffers.{blind-bound_framebuffer, bound_draw_alone}
use Rattle.model_laws.proofs.Changes.Keeps.{Acts, acts_cond, acts_of, acts_self, by_quiet_moves}
use Rattle.model_laws.proofs.Changes.Moves.{Change, NoneElse}
use Rattle.model_laws.proofs.Changes.Setters.{KeepsForm, KeepsNames, form-cleared, setter-image, setter-part, suits-image, suits-part}

-- what a context that is current to no other thread keeps for itself
pub acts-part : (t n : ℕ) (f : PartValue → PartValue) (s : State) → KeepsNames f → (IsWhole (shapes s.objects) s → NoneElse (has_context n) s.threads t) → Acts quiet t s (λ a. record a { objects = change_part f n a.objects })
unfolding change_part
acts-part t n f s k mine = by_quiet_moves t s (Change n (with_part f) ∷ []) refl (setter-part f k, tt) (λ w. (suits-part t (shapes s.objects) s n f (mine w), tt))

pub acts-own_part : (s : State) (t n : ℕ) (f : PartValue → PartValue) → KeepsNames f → current_context s t ≡ Some n → Acts quiet t s (λ a. record a { objects = change_part f n a.objects })
acts-own_part s t n f k e = acts-part t n f s k (alone_with s t n e)

-- ---- glClear.
acts-clear_storage : (t : ℕ) (s : State) (p : Option PartValue) (o : Option ℕ) → (bound_framebuffer s t).draw ≡ o → Acts quiet t s (clear_storage p o)
unfolding change_storage
acts-clear_storage t s (Some p) (Some n) e = by_quiet_moves t s (Change n (with_image (cleared_image p)) ∷ []) refl (setter-image (cleared_image p) (form-cleared p), tt) (λ w. (suits-image t (shapes s.objects) s n (cleared_image p) (bound_draw_alone s t n e w), tt))
acts-clear_storage t s (Some p) None e = acts_self t s
acts-clear_storage t s None o e = acts_self t s

pub acts-clear : (s : State) (t n : ℕ) (c : CallValue) → current_context s t ≡ Some n → Acts quiet t s (λ a. cleared_draw a t n c)
acts-clear s t n c e = acts_cond quiet t s (clears_colour c) (λ a. clear_storage (part_of_context a n) (bound_framebuffer a t).draw a) (λ a. a)
    (λ _. acts_of {A = Option PartValue × Option ℕ} quiet t s (λ a. (part_of_context a n, (bound_framebuffer a t).draw)) (λ y. clear_storage y.0 y.1)
    (λ w v x ne. ap (λ p. (p, (bound_framebuffer (put_own s v x) t).draw)) (blind-own_part t n s e w v x ne) ∙ ap (λ (b : BoundFramebuffer). (part_of_context s n, b.draw)) (blind-bound_framebuffer t s w v x ne))
    (acts-clear_storage t s (part_of_context s n) (bound_framebuffer s t).draw refl)) (λ _. acts_self t s)

-- ---- To write to a storage that is no surface's, as a texture's: no thread has its image to itself.
pub acts-written : (t n : ℕ) (s : State) (h : ImageValue → ImageValue) → KeepsForm h → (IsWhole (shapes s.objects) s → IsFree (shapes s.objects) n) → Acts quiet t s (λ a. record a { objects = change (with_image h) n a.objects })
acts-written t n s h e free = by_quiet_moves t s (Change n (with_image h) ∷ []) refl (setter-image h e, tt) (λ w. (suits-image t (shapes s.objects) s n h (free_undrawn s t n (free w)), tt))
