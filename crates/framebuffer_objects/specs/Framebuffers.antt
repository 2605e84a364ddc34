-- Framebuffers (OES_framebuffer_object).
use Rattle.std.specs.Prelude.{ℕ}
use Rattle.std.specs.Option.{option_map}
use Rattle.std.specs.declared.option.Option.{Option}
use Rattle.std.specs.declared.option.Option.TheVariants.{None}
use Rattle.framebuffer_objects.specs.declared.framebuffers.Attached.{Attached}
use Rattle.framebuffer_objects.specs.declared.points.Point.{Point}
use Rattle.framebuffer_objects.specs.declared.points.Point.TheVariants.{Color, Depth, Stencil}

-- what is attached at each point
pub record FramebufferValue : Type 0 where
  pub color : Option Attached
  pub depth : Option Attached
  pub stencil : Option Attached

abbrev pub fresh : FramebufferValue
fresh = record { color = None; depth = None; stencil = None }

abbrev pub at_point : Point → FramebufferValue → Option Attached
at_point Color f = f.color
at_point Depth f = f.depth
at_point Stencil f = f.stencil

-- with this at a point, and at the others what was there
abbrev pub with_point : Point → Option Attached → FramebufferValue → FramebufferValue
with_point Color a f = record f { color = a }
with_point Depth a f = record f { depth = a }
with_point Stencil a f = record f { stencil = a }

-- the number of an attached object
abbrev pub object_of : Option Attached → Option ℕ
object_of a = option_map (λ x. x.object) a
