-- What a draw to a thread's own surface leaves to be drawn.
use Rattle.std.specs.Prelude.{◌≡◌, ℕ, true, Option, None, Some}
use Rattle.std.specs.Option.{option_map}
use Rattle.egl_calls.specs.Calls.{CallValue}
use Rattle.egl_calls.specs.declared.errors.Outcome.TheVariants.{Done}
use Rattle.rect_pipeline.specs.Samplers.{SamplerValue, sampled}
use Rattle.object_table.specs.declared.samples.Sampled.{Sampled}
use Rattle.egl_model.specs.Parts.{Private, own_of, part_of}
use Rattle.egl_model.specs.State.{State}
use Rattle.egl_model.specs.Step.{step}
use Rattle.model_laws.specs.Late.{drawing, drawn_part, drawn_state, is_late, late_rect, late_sampler}
use Rattle.driver_core.specs.Machine.{Machine}
use Rattle.driver_core.specs.declared.drawings.Drawing.{Drawing}

abbrev pub sampler_of : Option Sampled → Option SamplerValue
sampler_of o = option_map (λ s. sampled s.image s.texture s.base_w s.base_h) o

-- a state once what is left is drawn on a thread's own pixels
abbrev pub drawn_late : State → ℕ → Option Drawing → State
drawn_late s t None = s
drawn_late s t (Some d) = drawn_state s t (drawing (own_of s t).context (sampler_of d.from) d.rect)

-- and its part
abbrev pub part_drawn_late : Option Drawing → Private → Private
part_drawn_late None p = p
part_drawn_late (Some d) p = drawn_part (drawing p.own.context (sampler_of d.from) d.rect) p

-- Nothing is left: the driver has made the step. Something is: the call is a late draw that is done, what is left is its rectangle with what it samples, and the driver is as it was
abbrev pub IsLeft : Machine → ℕ → CallValue → Option Drawing → Machine → Type 0
IsLeft x t c None y = y ≡ record x { state = (step x.state t c).state }
IsLeft x t c (Some d) y =
    (y ≡ x) × (is_late (part_of x.state t) c ≡ true) × ((step x.state t c).reply.outcome ≡ Done) × (sampler_of d.from ≡ late_sampler x.state t c) × (d.rect ≡ late_rect c.kind c)
