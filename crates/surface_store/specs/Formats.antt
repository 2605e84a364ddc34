-- How the pixels of a config's surfaces are stored.
use Rattle.std.specs.Prelude.{ℕ, ℤ, pos, Bool, ◌&&◌, ◌==◌, List, [], ◌∷◌, find, unwrap_or}
use Rattle.egl_calls.specs.Ranges.{unsigned}
use Rattle.egl_names.specs.declared.codes.TheConstants.{EGL_RED_SIZE, EGL_GREEN_SIZE, EGL_BLUE_SIZE, EGL_ALPHA_SIZE}
use Rattle.config_match.specs.Table.{attribute}
use Rattle.pixel_formats.specs.Formats.{layout_of}
use Rattle.pixel_formats.specs.declared.formats.Format.{Format}
use Rattle.pixel_formats.specs.declared.formats.Format.TheVariants.{Rgb565, Rgb888, Rgba8888, Rgba4444, Rgba5551}

-- the bits of a colour in a config's colour buffer, and 0 where there is no such config (EGL 1.5, section 3.4)
abbrev pub size_of : ℤ → ℕ → ℕ
size_of config name = unsigned (unwrap_or (attribute config (pos name)) (pos 0))

-- whether a format keeps just so many bits of red, green, blue and alpha
abbrev pub keeps : ℕ → ℕ → ℕ → ℕ → Format → Bool
keeps r g b a f = ((layout_of f).r.bits == r) && ((layout_of f).g.bits == g) && ((layout_of f).b.bits == b) && ((layout_of f).a.bits == a)

-- the formats in which surfaces are stored
abbrev pub surface_formats : List Format
surface_formats = Rgb565 ∷ Rgb888 ∷ Rgba8888 ∷ Rgba4444 ∷ Rgba5551 ∷ []

-- the format of a config's surfaces: the one that keeps just the bits of the config's colours (EGL 1.5, section 3.4),
-- and Rgba8888 where there is no such config
unfoldable pub format_of : ℤ → Format
format_of config =
    unwrap_or (find (keeps (size_of config EGL_RED_SIZE) (size_of config EGL_GREEN_SIZE) (size_of config EGL_BLUE_SIZE) (size_of config EGL_ALPHA_SIZE)) surface_formats) Rgba8888
