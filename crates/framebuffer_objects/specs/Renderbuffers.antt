-- Renderbuffers (OES_framebuffer_object).
use Rattle.std.specs.Prelude.{◌≡◌, ℕ}
use Rattle.std.specs.Option.{option_map}
use Rattle.std.specs.declared.option.Option.{Option}
use Rattle.std.specs.declared.option.Option.TheVariants.{None, Some}
use Rattle.pixel_rows.specs.Images.{ImageValue, blank}
use Rattle.framebuffer_objects.specs.InternalFormats.{format_of}
use Rattle.framebuffer_objects.specs.declared.points.Point.{Point}

pub record RenderbufferValue : Type 0 where
  -- the point that its storage is for, where it has any
  pub point : Option Point
  pub width : ℕ
  pub height : ℕ

abbrev pub fresh : RenderbufferValue
fresh = record { point = None; width = 0; height = 0 }

-- sides of 0 without storage
pub record IsStored (point : Option Point) (w h : ℕ) : Type 0 where
  pub no_width : point ≡ None → w ≡ 0
  pub no_height : point ≡ None → h ≡ 0

-- with storage for a point
abbrev pub of_kind : Point → ℕ → ℕ → RenderbufferValue
of_kind point w h = record { point = Some point; width = w; height = h }

-- the pixels of new storage: those of a colour, all zero
abbrev pub pixels_of : ℕ → ℕ → ℕ → Option ImageValue
pixels_of internal w h = option_map (λ f. blank f w h) (format_of internal)
