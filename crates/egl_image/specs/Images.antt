-- Where there may be an EGL image.
use Rattle.std.specs.Prelude.{ℕ, Bool, ◌==◌}
use Rattle.pixel_formats.specs.declared.formats.Format.{Format}
use Rattle.framebuffer_objects.specs.Completeness.{is_color_renderable}

-- of a storage that its texture or renderbuffer alone refers to
abbrev pub may_create : ℕ → Bool
may_create references = references == 1

-- a renderbuffer may have the formats that a colour attachment may have
abbrev pub may_target_renderbuffer : Format → Bool
may_target_renderbuffer format = is_color_renderable format
