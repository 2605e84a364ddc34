-- What holds of the formats and of surfaces.
use Rattle.std.specs.Prelude.{◌≡◌, ℕ, ℤ, pos, ◌≤◌, ◌≤ℤ◌, Bool, true}
use Rattle.egl_names.specs.declared.codes.TheConstants.{EGL_RED_SIZE, EGL_GREEN_SIZE, EGL_BLUE_SIZE, EGL_ALPHA_SIZE}
use Rattle.config_match.specs.Compatible.{are_compatible}
use Rattle.pixel_formats.specs.Formats.{layout_of}
use Rattle.surface_store.specs.Formats.{format_of, size_of}
use Rattle.surface_store.specs.Surfaces.{SurfaceValue, IsSurface, pbuffer, taken}

-- a format that keeps the bits of a config's colours, each of them
pub record HasSizesOf (config : ℤ) : Type 0 where
  pub red : (layout_of (format_of config)).r.bits ≡ size_of config EGL_RED_SIZE
  pub green : (layout_of (format_of config)).g.bits ≡ size_of config EGL_GREEN_SIZE
  pub blue : (layout_of (format_of config)).b.bits ≡ size_of config EGL_BLUE_SIZE
  pub alpha : (layout_of (format_of config)).a.bits ≡ size_of config EGL_ALPHA_SIZE

-- the format of each config's surfaces keeps the bits of its colours
abbrev pub FormatsHaveSizes : Type 0
FormatsHaveSizes = (config : ℤ) → pos 1 ≤ℤ config → config ≤ℤ pos 8 → HasSizesOf config

-- surfaces of compatible configs are stored alike
abbrev pub CompatibleStoreAlike : Type 0
CompatibleStoreAlike = (first second : ℤ) → are_compatible first second ≡ true → format_of first ≡ format_of second

-- a new pbuffer has pixels that fit it
abbrev pub PbuffersFit : Type 0
PbuffersFit = (config : ℤ) (w h : ℕ) (largest : Bool) → pos 1 ≤ℤ config → config ≤ℤ pos 8 → w ≤ 2048 → h ≤ 2048 → IsSurface (pbuffer config w h largest)

-- a surface whose pixels were taken out is one still
abbrev pub TakenFits : Type 0
TakenFits = (s : SurfaceValue) → IsSurface s → IsSurface (taken s)
