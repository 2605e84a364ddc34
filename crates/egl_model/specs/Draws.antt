-- Draws of a texture's crop rectangle (OES_draw_texture).
use Rattle.std.specs.Prelude.{ℕ, ℤ, pos, ◌*ℤ◌, nat_lt, ◌&&◌, List, map, if◌then◌else◌, Option, None, Some}
use Rattle.std.specs.Option.{option_and_then, option_map}
use Rattle.egl_calls.specs.Calls.{CallValue}
use Rattle.egl_calls.specs.Ranges.{unsigned}
use Rattle.egl_calls.specs.declared.kinds.GlKind.{GlKind}
use Rattle.egl_calls.specs.declared.kinds.GlKind.TheVariants.{DrawTexi}
use Rattle.egl_calls.specs.declared.places.TheConstants.{DRAWN_HEIGHT, DRAWN_WIDTH, X, Y}
use Rattle.egl_calls.specs.Arguments.{signed}
use Rattle.pixel_rows.specs.declared.rects.Rect.{Rect}
use Rattle.texture_objects.specs.Levels.{is_complete, level_at, level_for}
use Rattle.texture_objects.specs.Textures.{TextureValue}
use Rattle.texture_objects.specs.declared.levels.Shape.{Shape}
use Rattle.context_state.specs.Parts.{PartValue}
use Rattle.rect_pipeline.specs.Samplers.{SamplerValue, sampled}
use Rattle.driver_objects.specs.Storages.{StorageValue, drawn_storage}
use Rattle.driver_objects.specs.declared.objects.Object.{Object}
use Rattle.driver_objects.specs.declared.textures.BackedTexture.{BackedTexture}
use Rattle.egl_model.specs.State.{State}
use Rattle.egl_model.specs.Objects.{change_storage, storage_in, texture_in}
use Rattle.egl_model.specs.Currents.{part_of_context}
use Rattle.egl_model.specs.Framebuffers.{bound_framebuffer}
use Rattle.egl_model.specs.Textures.{storage_at, target_texture}

-- a number of a draw in 16.16 fixed point: those of glDrawTexiOES are whole
abbrev pub fixed : GlKind → ℤ → ℤ
fixed DrawTexi z = z *ℤ pos 65536
fixed k z = z

-- left, bottom, width and height of a draw in fixed point
abbrev pub drawn_rect : GlKind → CallValue → Rect
drawn_rect k c = record { x = fixed k (signed c X); y = fixed k (signed c Y); w = fixed k (signed c DRAWN_WIDTH); h = fixed k (signed c DRAWN_HEIGHT) }

-- the shape of a level, where it has storage
abbrev pub shape_of : StorageValue → Shape
shape_of v = record { format = v.format; w = v.width; h = v.height }

abbrev pub shape_in : List (Option Object) → Option ℕ → Option Shape
shape_in os o = option_map shape_of (option_and_then (storage_in os) o)

abbrev pub level_shapes : List (Option Object) → BackedTexture → List (Option Shape)
level_shapes os x = map (shape_in os) x.levels

-- what is sampled of a level: its pixels, by the sides of level 0. A level has sides above 0 wherever it has storage
abbrev pub sampler_over : TextureValue → Option Shape → Option StorageValue → Option SamplerValue
sampler_over t (Some base) (Some v) =
    if (nat_lt 0 base.w && nat_lt 0 base.h) && (nat_lt 0 v.width && nat_lt 0 v.height) then option_map (λ i. sampled i t base.w base.h) v.image else None
sampler_over t (Some base) None = None
sampler_over t None v = None

-- of a texture with levels of these shapes, the one that a draw of this rectangle samples, where the texture is complete
abbrev pub sampler_by : List (Option Shape) → List (Option Object) → Rect → BackedTexture → Option SamplerValue
sampler_by shapes os r x =
    if is_complete x.texture shapes then sampler_over x.texture (level_at shapes 0) (option_and_then (storage_in os) (storage_at (level_for x.texture shapes (unsigned r.w) (unsigned r.h)) x)) else None

abbrev pub sampler_in : List (Option Object) → Rect → BackedTexture → Option SamplerValue
sampler_in os r x = sampler_by (level_shapes os x) os r x

-- what a draw samples of the texture on which the calls of a context work
abbrev pub sampler : State → ℕ → Rect → Option SamplerValue
sampler s n r = option_and_then (sampler_in s.objects r) (option_and_then (texture_in s.objects) (target_texture s n))

-- a storage is drawn into by a context; a texture is sampled where GL_TEXTURE_2D is enabled
abbrev pub draw_into : Option PartValue → Option ℕ → Option SamplerValue → Rect → State → State
draw_into (Some p) (Some m) from r s = record s { objects = change_storage (drawn_storage p (if p.is_texture_enabled then from else None) r) m s.objects }
draw_into (Some p) None from r s = s
draw_into None o from r s = s

-- what a thread draws to is drawn into by its context
abbrev pub drawn : State → ℕ → ℕ → GlKind → CallValue → State
drawn s t n k c = draw_into (part_of_context s n) (bound_framebuffer s t).draw (sampler s n (drawn_rect k c)) (drawn_rect k c) s
