-- What the calls that draw a texture keep, and how they pass what is put for others.
use Rattle.std.proofs.Common.{◌≡◌, ℕ, [], ◌∷◌, List, cond, refl, ap, ◌∙◌, map, Option, None, Some}
use Rattle.std.proofs.Math.Path.{fun_ext}
use Rattle.std.specs.Option.{option_and_then, option_map}
use Rattle.egl_calls.specs.Calls.{CallValue}
use Rattle.egl_calls.specs.Ranges.{unsigned}
use Rattle.egl_calls.specs.declared.kinds.GlKind.{GlKind}
use Rattle.pixel_rows.specs.declared.rects.Rect.{Rect}
use Rattle.texture_objects.specs.Levels.{is_complete, level_at, level_for}
use Rattle.texture_objects.specs.declared.levels.Shape.{Shape}
use Rattle.context_state.specs.Parts.{PartValue}
use Rattle.rect_pipeline.specs.Samplers.{SamplerValue}
use Rattle.driver_objects.specs.Storages.{drawn_image}
use Rattle.driver_objects.specs.declared.objects.Object.TheVariants.{Context, Storage}
use Rattle.driver_objects.specs.declared.textures.BackedTexture.{BackedTexture}
use Rattle.egl_model.specs.State.{State}
use Rattle.egl_model.specs.Objects.{as_storage, change_storage, storage_in, texture_in, with_image}
use Rattle.egl_model.specs.Currents.{current_context, part_of_context}
use Rattle.egl_model.specs.Draws.{draw_into, drawn, drawn_rect, sampler, sampler_by, sampler_in, sampler_over, shape_in, shape_of}
use Rattle.egl_model.specs.Framebuffers.{BoundFramebuffer, bound_framebuffer}
use Rattle.egl_model.specs.Parts.{put_own}
use Rattle.egl_model.specs.Textures.{storage_at, target_texture}
use Rattle.model_laws.specs.Extents.{quiet}
use Rattle.model_laws.specs.Shapes.{shapes}
use Rattle.model_laws.proofs.Steps.Blinds.{blind-object, blind-own_part, blind-own_storage, free_undrawn}
use Rattle.model_laws.proofs.Parts.BoundFramebuffers.{blind-bound_framebuffer, bound_draw_alone}
use Rattle.model_laws.proofs.Changes.Keeps.{Acts, Blind, acts_of, acts_self, by_quiet_moves}
use Rattle.model_laws.proofs.Changes.Moves.{Change}
use Rattle.model_laws.proofs.Changes.Setters.{form-drawn, setter-image, suits-image}
use Rattle.model_laws.proofs.Calls.TextureCalls.{blind-target, blind-texture, free_level}
use Rattle.model_laws.proofs.Changes.Writes.{IsBlind}

-- ---- What a draw samples: nothing that another thread has to itself.
shape-blind : IsBlind (λ o. option_map shape_of (as_storage o))
shape-blind (Some (Context c)) = refl
shape-blind (Some (Storage v)) = refl
shape-blind o = refl

pub blind-shape : (t : ℕ) (o : Option ℕ) (s : State) → Blind t s (λ a. shape_in a.objects o)
blind-shape t None s w v x ne = refl
blind-shape t (Some n) s w v x ne = blind-object (λ o. option_map shape_of (as_storage o)) shape-blind t n s w v x ne

-- the pixels of a level are no surface's
blind-pixels : (t n k : ℕ) (y : BackedTexture) (s : State) → option_and_then (texture_in s.objects) (target_texture s n) ≡ Some y → Blind t s (λ a. option_and_then (storage_in a.objects) (storage_at k y))
blind-pixels t n k y s e = blind-own_storage t (storage_at k y) s (λ m f w. free_undrawn s t m (free_level s m k (target_texture s n) (ap (λ o. option_and_then (storage_at k) o) e ∙ f) w))

blind-sampler_in : (t n : ℕ) (r : Rect) (y : BackedTexture) (s : State) → option_and_then (texture_in s.objects) (target_texture s n) ≡ Some y → Blind t s (λ a. sampler_in a.objects r y)
blind-sampler_in t n r y s e w v x ne =
    ap (λ (f : Option ℕ → Option Shape). sampler_by (map f y.levels) (put_own s v x).objects r y) (fun_ext (λ o. blind-shape t o s w v x ne))
    ∙ sampled_same (map (shape_in s.objects) y.levels)
  where
    sampled_same : (shapes : List (Option Shape)) → sampler_by shapes (put_own s v x).objects r y ≡ sampler_by shapes s.objects r y
    sampled_same shapes = ap (λ o. cond (is_complete y.texture shapes) (sampler_over y.texture (level_at shapes 0) o) None) (blind-pixels t n (level_for y.texture shapes (unsigned r.w) (unsigned r.h)) y s e w v x ne)

blind-sampler_of : (t n : ℕ) (r : Rect) (o : Option BackedTexture) (s : State) → option_and_then (texture_in s.objects) (target_texture s n) ≡ o → Blind t s (λ a. option_and_then (sampler_in a.objects r) o)
blind-sampler_of t n r None s e w v x ne = refl
blind-sampler_of t n r (Some y) s e w v x ne = blind-sampler_in t n r y s e w v x ne

pub blind-sampler : (t n : ℕ) (r : Rect) (s : State) → Blind t s (λ a. sampler a n r)
blind-sampler t n r s w v x ne =
    ap (λ o. option_and_then (sampler_in (put_own s v x).objects r) (option_and_then (texture_in (put_own s v x).objects) o)) (blind-target t n s w v x ne)
    ∙ ap (λ o. option_and_then (sampler_in (put_own s v x).objects r) o) (blind-texture t (target_texture s n) s w v x ne)
    ∙ blind-sampler_of t n r (option_and_then (texture_in s.objects) (target_texture s n)) s refl w v x ne

-- ---- glDrawTexiOES and glDrawTexxOES.
acts-draw_into : (t : ℕ) (s : State) (p : Option PartValue) (o : Option ℕ) (from : Option SamplerValue) (r : Rect) → (bound_framebuffer s t).draw ≡ o → Acts quiet t s (draw_into p o from r)
unfolding change_storage
acts-draw_into t s (Some p) (Some m) from r e =
    let f : Option SamplerValue = cond p.is_texture_enabled from None in
    by_quiet_moves t s (Change m (with_image (drawn_image p f r)) ∷ []) refl (setter-image (drawn_image p f r) (form-drawn p f r), tt) (λ w. (suits-image t (shapes s.objects) s m (drawn_image p f r) (bound_draw_alone s t m e w), tt))
acts-draw_into t s (Some p) None from r e = acts_self t s
acts-draw_into t s None o from r e = acts_self t s

pub acts-drawn : (s : State) (t n : ℕ) (k : GlKind) (c : CallValue) → current_context s t ≡ Some n → Acts quiet t s (λ a. drawn a t n k c)
acts-drawn s t n k c e =
    let r : Rect = drawn_rect k c in
    acts_of {A = Option PartValue × (Option ℕ × Option SamplerValue)} quiet t s (λ a. (part_of_context a n, ((bound_framebuffer a t).draw, sampler a n r))) (λ y. draw_into y.0 y.1.0 y.1.1 r)
    (λ w v x ne.
    ap (λ p. (p, ((bound_framebuffer (put_own s v x) t).draw, sampler (put_own s v x) n r))) (blind-own_part t n s e w v x ne)
    ∙ ap (λ (b : BoundFramebuffer). (part_of_context s n, (b.draw, sampler (put_own s v x) n r))) (blind-bound_framebuffer t s w v x ne)
    ∙ ap (λ z. (part_of_context s n, ((bound_framebuffer s t).draw, z))) (blind-sampler t n r s w v x ne))
    (acts-draw_into t s (part_of_context s n) (bound_framebuffer s t).draw (sampler s n r) r refl)
