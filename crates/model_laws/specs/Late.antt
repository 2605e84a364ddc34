-- Draws on what is a thread's own, which may be made once its part is out.
use Rattle.std.specs.Prelude.{◌≡◌, ℕ, pos, Bool, false, not, ◌&&◌, ◌⊎◌, List, [], ◌∷◌, if◌then◌else◌, Option, None, Some}
use Rattle.std.specs.Option.{option_and_then, option_map}
use Rattle.egl_calls.specs.Calls.{CallValue}
use Rattle.egl_calls.specs.declared.errors.GlError.{GlError}
use Rattle.egl_calls.specs.declared.errors.Outcome.TheVariants.{Done, Gl as RefusedGl}
use Rattle.egl_calls.specs.declared.kinds.Kind.{Kind}
use Rattle.egl_calls.specs.declared.kinds.Kind.TheVariants.{Gl}
use Rattle.call_table.specs.Roles.{draws}
use Rattle.call_table.specs.Rows.{gl_role}
use Rattle.call_rules.specs.GlRules as gl_rules
use Rattle.context_state.specs.Parts.{PartValue, noted}
use Rattle.driver_objects.specs.Storages.{drawn_image}
use Rattle.pixel_rows.specs.Images.{ImageValue}
use Rattle.pixel_rows.specs.declared.rects.Rect.{Rect}
use Rattle.rect_pipeline.specs.Samplers.{SamplerValue}
use Rattle.egl_model.specs.Currents.{current_context}
use Rattle.egl_model.specs.Draws.{drawn_rect, sampler}
use Rattle.egl_model.specs.Parts.{Own, Private, own_of, put_own}
use Rattle.egl_model.specs.State.{State}
use Rattle.egl_model.specs.Step.{Stepped, bare}
use Rattle.model_laws.specs.Local.{facts_locally, has_framebuffer}

-- a thread is among these
abbrev pub IsOut : ℕ → List ℕ → Type 0
IsOut t [] = ⊥
IsOut t (u ∷ us) = (u ≡ t) ⊎ IsOut t us

-- ---- Other pixels to draw to.
-- the thread's own with them, its part, and the state
abbrev pub drawn_own : (ImageValue → ImageValue) → Own → Own
drawn_own f x = record x { draw = option_map f x.draw }

abbrev pub drawn_part : (ImageValue → ImageValue) → Private → Private
drawn_part f p = record p { own = drawn_own f p.own }

abbrev pub drawn_state : State → ℕ → (ImageValue → ImageValue) → State
drawn_state s t f = put_own s t (drawn_own f (own_of s t))

-- ---- Which draws may be late.
abbrev pub is_draw : Kind → Bool
is_draw (Gl k) = draws (gl_role k)
is_draw k = false

-- a context is current, and what it has bound is the framebuffer of the window system
abbrev pub draws_to_surface : Option PartValue → Bool
draws_to_surface None = false
draws_to_surface (Some q) = not (has_framebuffer q)

-- a draw of a thread that doesn't wait, and draws to its own surface
abbrev pub is_late : Private → CallValue → Bool
is_late p c = is_draw c.kind && (not p.kept.waits && draws_to_surface p.own.context)

-- without surfaces there is nothing to draw to (OES_surfaceless_context)
abbrev pub late_refusal : Private → CallValue → Option GlError
late_refusal p c = gl_rules.gl_refusal c (facts_locally p)

-- ---- What a late draw does.
-- left, bottom, width and height in 16.16 fixed point
abbrev pub late_rect : Kind → CallValue → Rect
late_rect (Gl k) c = drawn_rect k c
late_rect k c = record { x = pos 0; y = pos 0; w = pos 0; h = pos 0 }

-- what is sampled where GL_TEXTURE_2D is enabled
abbrev pub sampled_by : Option PartValue → Option SamplerValue → Option SamplerValue
sampled_by (Some q) from = if q.is_texture_enabled then from else None
sampled_by None from = None

-- of the texture on which the calls of a context work
abbrev pub texture_sampler : State → Option ℕ → Rect → Option SamplerValue
texture_sampler s current r = option_and_then (λ n. sampler s n r) current

abbrev pub late_sampler : State → ℕ → CallValue → Option SamplerValue
late_sampler s t c = sampled_by (own_of s t).context (texture_sampler s (current_context s t) (late_rect c.kind c))

-- what a draw makes of an image, by what the context keeps
abbrev pub drawing : Option PartValue → Option SamplerValue → Rect → ImageValue → ImageValue
drawing (Some q) from r = drawn_image q from r
drawing None from r = λ i. i

-- the step: refused, its context notes the error; done, the thread's own pixels alone are drawn on
abbrev pub late_step : State → ℕ → CallValue → Option GlError → Stepped
late_step s t c (Some e) = record { reply = bare (RefusedGl e); state = put_own s t (record (own_of s t) { context = option_map (noted e) (own_of s t).context }) }
late_step s t c None = record { reply = bare Done; state = drawn_state s t (drawing (own_of s t).context (late_sampler s t c) (late_rect c.kind c)) }
