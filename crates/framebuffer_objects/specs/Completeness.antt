-- Whether a framebuffer is complete (OES_framebuffer_object).
use Rattle.std.specs.Prelude.{ℕ, Bool, true, false, not, ◌||◌, ◌&&◌, ◌==◌, nat_lt, List, if◌then◌else◌, slice_index_or, Option, Some}
use Rattle.egl_names.specs.declared.codes.TheConstants.{GL_FRAMEBUFFER_COMPLETE_OES, GL_FRAMEBUFFER_INCOMPLETE_ATTACHMENT_OES, GL_FRAMEBUFFER_INCOMPLETE_DIMENSIONS_OES, GL_FRAMEBUFFER_INCOMPLETE_MISSING_ATTACHMENT_OES, GL_FRAMEBUFFER_UNSUPPORTED_OES}
use Rattle.pixel_formats.specs.Formats.{base_of}
use Rattle.pixel_formats.specs.declared.formats.Base.{Base}
use Rattle.pixel_formats.specs.declared.formats.Base.TheVariants.{Rgb, Rgba, Alpha, Luminance, LuminanceAlpha}
use Rattle.pixel_formats.specs.declared.formats.Format.{Format}
use Rattle.framebuffer_objects.specs.Renderbuffers.{RenderbufferValue}
use Rattle.framebuffer_objects.specs.declared.completeness.Part.{Part}
use Rattle.framebuffer_objects.specs.declared.points.Point.{Point}
use Rattle.framebuffer_objects.specs.declared.points.Point.TheVariants.{Color, Depth, Stencil}

-- nothing
abbrev pub no_part : Part
no_part = record { present = false; attachable = false; w = 0; h = 0 }

-- something that may not be there
abbrev pub unattachable : Part
unattachable = record { present = true; attachable = false; w = 0; h = 0 }

-- the base formats that a colour may have
abbrev pub is_color_base : Base → Bool
is_color_base Rgb = true
is_color_base Rgba = true
is_color_base Alpha = false
is_color_base Luminance = false
is_color_base LuminanceAlpha = false

abbrev pub is_color_renderable : Format → Bool
is_color_renderable format = is_color_base (base_of format)

-- pixels at the colour point
abbrev pub color_part : Format → ℕ → ℕ → Part
color_part format w h = record { present = true; attachable = is_color_renderable format && (nat_lt 0 w && nat_lt 0 h); w = w; h = h }

-- whether a renderbuffer's storage is for a point
abbrev pub is_for : Point → Option Point → Bool
is_for Color (Some Color) = true
is_for Depth (Some Depth) = true
is_for Stencil (Some Stencil) = true
is_for point o = false

-- a renderbuffer at the depth or the stencil point
abbrev pub renderbuffer_part : Point → RenderbufferValue → Part
renderbuffer_part point r = record { present = true; attachable = is_for point r.point && (nat_lt 0 r.width && nat_lt 0 r.height); w = r.width; h = r.height }

abbrev pub part_at : List Part → ℕ → Part
part_at parts k = slice_index_or parts k no_part

-- attached, but it may not be there
abbrev pub is_incomplete : Part → Bool
is_incomplete p = p.present && not p.attachable

-- both attached, and of different sides
abbrev pub differ : Part → Part → Bool
differ p q = p.present && q.present && (not (p.w == q.w) || not (p.h == q.h))

-- the code of the first status that holds, of what is attached as colour, depth and stencil
abbrev pub status : Part → Part → Part → ℕ
status color depth stencil =
    if is_incomplete color || is_incomplete depth || is_incomplete stencil then GL_FRAMEBUFFER_INCOMPLETE_ATTACHMENT_OES
    else if not color.present && not depth.present && not stencil.present then GL_FRAMEBUFFER_INCOMPLETE_MISSING_ATTACHMENT_OES
    else if differ color depth || differ color stencil || differ depth stencil then GL_FRAMEBUFFER_INCOMPLETE_DIMENSIONS_OES
    else if not color.present then GL_FRAMEBUFFER_UNSUPPORTED_OES
    else GL_FRAMEBUFFER_COMPLETE_OES
