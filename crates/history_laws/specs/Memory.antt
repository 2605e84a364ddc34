-- Which calls may want bytes, and when nothing else is wrong with one, in words of the call and of the state before it (OpenGL ES 1.1, sections 2.9, 3.7.1 and 3.7.2; OES_framebuffer_object).
use Rattle.std.specs.Prelude.{◌≡◌, ℕ, pos, ◌≤ℤ◌, Bool, true, false, is_some}
use Rattle.egl_calls.specs.Arguments.{is_zero, number, signed}
use Rattle.egl_calls.specs.Calls.{CallValue}
use Rattle.egl_calls.specs.declared.kinds.Kind.{Kind}
use Rattle.egl_calls.specs.declared.kinds.Kind.TheVariants.{Gl}
use Rattle.call_table.specs.Rows.{gl_role}
use Rattle.call_table.specs.declared.roles.Role.{Role}
use Rattle.call_table.specs.declared.roles.Role.TheVariants.{Copies, Specifies}
use Rattle.egl_calls.specs.declared.places.TheConstants.{BORDER, BUFFER_SIZE, BUFFER_USAGE, COPIED_BORDER, COPIED_HEIGHT, COPIED_WIDTH, IMAGE_FORMAT, IMAGE_HEIGHT, IMAGE_TYPE, IMAGE_WIDTH, INTERNAL_FORMAT, LEVEL, STORED_FORMAT, STORED_HEIGHT, STORED_WIDTH, TARGET}
use Rattle.egl_names.specs.declared.codes.TheConstants.{GL_RENDERBUFFER_OES, GL_TEXTURE_2D}
use Rattle.texture_objects.specs.Forms.{form_of}
use Rattle.framebuffer_objects.specs.InternalFormats.{is_internal}
use Rattle.call_rules.specs.BufferRules.{is_buffer_target, is_usage}
use Rattle.call_rules.specs.CopyRules.{has_alpha}
use Rattle.call_rules.specs.GlAllowed.{IsSide}
use Rattle.call_rules.specs.TextureRules.{is_image_format, is_image_type, is_no_level, is_no_level_side}
use Rattle.egl_model.specs.Buffers.{buffer_of}
use Rattle.egl_model.specs.Framebuffers.{bound_framebuffer, is_complete}
use Rattle.egl_model.specs.GlFacts.{has_read_alpha}
use Rattle.egl_model.specs.Renderbuffers.{target_renderbuffer}
use Rattle.egl_model.specs.State.{State}

-- those that give what is bound new pixels or bytes
abbrev pub wants_bytes : Role → Bool
wants_bytes (Specifies names) = true
wants_bytes Copies = true
wants_bytes r = false

abbrev pub may_want_bytes : Kind → Bool
may_want_bytes (Gl k) = wants_bytes (gl_role k)
may_want_bytes k = false

-- glTexImage2D: a target, a level and sides that it may have, no border, and a format and a type that go together, the format that of the inside too
pub record IsFaultlessLevel (c : CallValue) : Type 0 where
  pub target : number c TARGET ≡ GL_TEXTURE_2D
  pub format : is_image_format (number c IMAGE_FORMAT) ≡ true
  pub kind : is_image_type (number c IMAGE_TYPE) ≡ true
  pub internal : is_image_format (number c INTERNAL_FORMAT) ≡ true
  pub level : is_no_level (signed c LEVEL) ≡ false
  pub width : is_no_level_side (number c LEVEL) (signed c IMAGE_WIDTH) ≡ false
  pub height : is_no_level_side (number c LEVEL) (signed c IMAGE_HEIGHT) ≡ false
  pub border : is_zero c BORDER ≡ true
  pub same : number c INTERNAL_FORMAT ≡ number c IMAGE_FORMAT
  pub pair : is_some (form_of (number c IMAGE_FORMAT) (number c IMAGE_TYPE)) ≡ true

-- glCopyTexImage2D: a complete framebuffer too, which has alpha where the format asks for some
pub record IsFaultlessCopy (s : State) (t : ℕ) (c : CallValue) : Type 0 where
  pub target : number c TARGET ≡ GL_TEXTURE_2D
  pub internal : is_image_format (number c INTERNAL_FORMAT) ≡ true
  pub level : is_no_level (signed c LEVEL) ≡ false
  pub width : is_no_level_side (number c LEVEL) (signed c COPIED_WIDTH) ≡ false
  pub height : is_no_level_side (number c LEVEL) (signed c COPIED_HEIGHT) ≡ false
  pub border : is_zero c COPIED_BORDER ≡ true
  pub complete : is_complete (bound_framebuffer s t) ≡ true
  pub alpha : has_alpha (number c INTERNAL_FORMAT) ≡ true → has_read_alpha s t ≡ true

-- glBufferData: a target with a buffer, a usage, and a size that isn't negative
pub record IsFaultlessData (s : State) (n : ℕ) (c : CallValue) : Type 0 where
  pub target : is_buffer_target (number c TARGET) ≡ true
  pub usage : is_usage (number c BUFFER_USAGE) ≡ true
  pub size : pos 0 ≤ℤ signed c BUFFER_SIZE
  pub bound : is_some (buffer_of s n c) ≡ true

-- glRenderbufferStorageOES: a format, two sides, and a renderbuffer
pub record IsFaultlessStorage (s : State) (n : ℕ) (c : CallValue) : Type 0 where
  pub target : number c TARGET ≡ GL_RENDERBUFFER_OES
  pub format : is_internal (number c STORED_FORMAT) ≡ true
  pub width : IsSide (signed c STORED_WIDTH)
  pub height : IsSide (signed c STORED_HEIGHT)
  pub bound : is_some (target_renderbuffer s n) ≡ true
