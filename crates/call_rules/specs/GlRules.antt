-- When each call of OpenGL ES is refused, and with which error: the first of its rows in the table of calls whose condition holds.
use Rattle.std.specs.Prelude.{ℕ, ◌+◌, ℤ, pos, Bool, false, not, ◌&&◌, ◌||◌, ◌==◌, List, [], bit_or, int_lt, is_some, length, map, nat_lt}
use Rattle.std.specs.declared.option.Option.{Option}
use Rattle.std.specs.declared.option.Option.TheVariants.{None, Some}
use Rattle.egl_calls.specs.Calls.{CallValue}
use Rattle.egl_calls.specs.declared.kinds.Kind.{Kind}
use Rattle.egl_calls.specs.declared.kinds.Kind.TheVariants.{Gl, Own}
use Rattle.egl_calls.specs.declared.kinds.GlKind.{GlKind}
use Rattle.egl_calls.specs.declared.errors.GlError.{GlError}
use Rattle.egl_calls.specs.Ranges.{unsigned}
use Rattle.egl_names.specs.declared.codes.TheConstants.{GL_COLOR_BUFFER_BIT, GL_DEPTH_BUFFER_BIT, GL_FRAMEBUFFER_ATTACHMENT_OBJECT_NAME_OES, GL_FRAMEBUFFER_OES, GL_RENDERBUFFER_OES, GL_RGB, GL_RGBA, GL_STENCIL_BUFFER_BIT, GL_TEXTURE_2D, GL_TEXTURE_CROP_RECT_OES, GL_UNSIGNED_BYTE, GL_UNSIGNED_SHORT_5_6_5}
use Rattle.egl_calls.specs.declared.places.TheConstants.{ATTACHED_LEVEL, ATTACHED_TARGET, ATTACHMENT, ATTACHMENT_PNAME, BORDER, BOUND_NAME, BOUND_PARAM, BOUND_PNAME, BUFFER_OFFSET, BUFFER_PART_SIZE, BUFFER_SIZE, BUFFER_USAGE, COPIED_BORDER, COPIED_HEIGHT, COPIED_PART_HEIGHT, COPIED_PART_WIDTH, COPIED_WIDTH, COUNT, DRAWN_HEIGHT, DRAWN_WIDTH, FORMAT, HEIGHT, IMAGE_FORMAT, IMAGE_HEIGHT, IMAGE_TYPE, IMAGE_WIDTH, INTERNAL_FORMAT, LEVEL, MASK, PART_HEIGHT, PART_WIDTH, STORED_FORMAT, STORED_HEIGHT, STORED_WIDTH, TARGET, TYPE, WIDTH, X_OFFSET, Y_OFFSET}
use Rattle.call_rules.specs.declared.gl_facts.GlFacts.{GlFacts}
use Rattle.call_table.specs.Rows.{gl_rules, own_rules}
use Rattle.call_table.specs.declared.gl_conditions.GlCondition.{GlCondition}
use Rattle.call_table.specs.declared.gl_conditions.GlCondition.TheVariants.{NoEnabledCapability, NoCapability, NegativeBox, NoEnvironment, NoStore, NoAlignment, NoContextParameter, NoIndex, NoBufferBit, NotComplete, WrongReadSides, NoReadKind, NoReadPair, DrawsNothing, WrongCount, NoTextureTarget, NegativeName, NoBufferTarget, NoRenderbufferTarget, NoFramebufferTarget, NoTextureParameter, NoCropParameter, WrongCropLength, NoImageKind, NoInternalFormat, NoLevel, WrongLevelSides, SomeBorder, OtherFormat, NoImagePair, NoImageVideo, NoCopiedVideo, NoDataVideo, NoStorageVideo, NoStorage, OutsideLevel, OtherLevelFormat, WrongCopiedSides, SomeCopiedBorder, NoInternalAlpha, CopiedOutsideLevel, NoLevelAlpha, NoUsage, NegativeSize, NoBufferBound, NoRenderbufferBound, NoFramebufferBound, NegativePart, PartBehindEnd, NoBufferParameter, NoRenderbufferFormat, WrongStorageSides, NoRenderbufferParameter, NoAttachment, NoAttachedTarget, NoTextureNamed, NoRenderbufferNamed, SomeAttachedLevel, NoAttachedRenderbufferTarget, NoAttachmentParameter, NothingAttached, NoImage, NotRenderable}
use Rattle.refusal_rows.specs.Rows.{Row, first_error, row_of}
use Rattle.framebuffer_objects.specs.InternalFormats.{is_internal}
use Rattle.framebuffer_objects.specs.Attachments.{is_attachment}
use Rattle.call_rules.specs.AttachmentRules.{attaches, is_attachment_parameter}
use Rattle.call_rules.specs.CopyRules.{has_alpha}
use Rattle.call_rules.specs.TextureRules.{is_image_format, is_image_type, is_no_count, is_no_level, is_no_level_side, is_outside_side}
use Rattle.call_rules.specs.BufferRules.{is_buffer_parameter, is_buffer_target, is_usage}
use Rattle.call_rules.specs.RenderbufferRules.{is_no_side, is_renderbuffer_parameter}
use Rattle.texture_objects.specs.Forms.{form_of}
use Rattle.texture_objects.specs.Textures.{is_parameter_pair}
use Rattle.context_state.specs.Kinds.{context_gl_call}
use Rattle.context_state.specs.Refusals.{context_holds, context_rows}
use Rattle.egl_calls.specs.Arguments.{is_zero, number, signed}

-- no fact holds, and each number is 0
abbrev pub no_gl_facts : GlFacts
no_gl_facts = record {
  live_bytes = 0;
  image_bytes = 0;
  copied_bytes = 0;
  data_bytes = 0;
  storage_bytes = 0;
  video_limit = 0;
  is_framebuffer_complete = false;
  has_read_alpha = false;
  is_stored = false;
  stored_width = 0;
  stored_height = 0;
  stored_base = 0;
  is_buffer_bound = false;
  is_renderbuffer_bound = false;
  is_framebuffer_bound = false;
  buffer_size = 0;
  is_texture_named = false;
  is_renderbuffer_named = false;
  is_attached = false;
  is_image = false;
  is_renderable = false;
}

-- the bits of the buffers that glClear clears (OpenGL ES 1.1, section 4.2.3)
abbrev pub buffer_bits : ℕ
buffer_bits = bit_or (bit_or GL_COLOR_BUFFER_BIT GL_DEPTH_BUFFER_BIT) GL_STENCIL_BUFFER_BIT

-- whether a mask has no bit besides those; a negative one has
abbrev pub is_clear_mask : ℤ → Bool
is_clear_mask mask = not (int_lt mask (pos 0)) && (bit_or (unsigned mask) buffer_bits == buffer_bits)

-- the formats of pixels that are read (OpenGL ES 1.1, section 4.3.1)
abbrev pub is_read_format : ℕ → Bool
is_read_format format = (format == GL_RGBA) || (format == GL_RGB)

-- the types of their components
abbrev pub is_read_type : ℕ → Bool
is_read_type kind = (kind == GL_UNSIGNED_BYTE) || (kind == GL_UNSIGNED_SHORT_5_6_5)

-- the type that goes with each format
abbrev pub is_read_pair : ℕ → ℕ → Bool
is_read_pair format kind =
    ((format == GL_RGBA) && (kind == GL_UNSIGNED_BYTE)) || ((format == GL_RGB) && (kind == GL_UNSIGNED_SHORT_5_6_5))

-- the code of the format that glReadPixels is given
abbrev pub read_format : CallValue → ℕ
read_format c = unsigned (signed c FORMAT)

-- the code of the type
abbrev pub read_type : CallValue → ℕ
read_type c = unsigned (signed c TYPE)

-- a draw has a width and a height (OES_draw_texture)
abbrev pub draws_nothing : CallValue → Bool
draws_nothing c = int_lt (signed c DRAWN_WIDTH) (pos 1) || int_lt (signed c DRAWN_HEIGHT) (pos 1)

-- what each condition is of the call and of the facts about the state. It holds by itself: what isn't there has no property
abbrev pub gl_holds : GlCondition → CallValue → GlFacts → Bool
-- what is bound to a target, and what is named
gl_holds NoTextureTarget c f = not (number c TARGET == GL_TEXTURE_2D)
gl_holds NoBufferTarget c f = not (is_buffer_target (number c TARGET))
gl_holds NoRenderbufferTarget c f = not (number c TARGET == GL_RENDERBUFFER_OES)
gl_holds NoFramebufferTarget c f = not (number c TARGET == GL_FRAMEBUFFER_OES)
gl_holds NoBufferBound c f = not f.is_buffer_bound
gl_holds NoRenderbufferBound c f = not f.is_renderbuffer_bound
gl_holds NoFramebufferBound c f = not f.is_framebuffer_bound
gl_holds WrongCount c f = is_no_count (signed c COUNT)
gl_holds NegativeName c f = int_lt (signed c BOUND_NAME) (pos 0)
-- bytes for new pixels, or for what a buffer is given
gl_holds NoImageVideo c f = nat_lt f.video_limit (f.live_bytes + f.image_bytes)
gl_holds NoCopiedVideo c f = nat_lt f.video_limit (f.live_bytes + f.copied_bytes)
gl_holds NoDataVideo c f = nat_lt f.video_limit (f.live_bytes + f.data_bytes)
gl_holds NoStorageVideo c f = nat_lt f.video_limit (f.live_bytes + f.storage_bytes)
-- what is drawn to and read from (OES_framebuffer_object)
gl_holds NotComplete c f = not f.is_framebuffer_complete
-- OpenGL ES 1.1, section 4.2.3
gl_holds NoBufferBit c f = not (is_clear_mask (signed c MASK))
-- section 4.3.1
gl_holds WrongReadSides c f = is_no_side (signed c WIDTH) || is_no_side (signed c HEIGHT)
gl_holds NoReadKind c f = not (is_read_format (read_format c) && is_read_type (read_type c))
gl_holds NoReadPair c f = not (is_read_pair (read_format c) (read_type c)) && (is_read_format (read_format c) && is_read_type (read_type c))
-- OES_draw_texture: a draw has a width and a height, a crop rectangle four numbers
gl_holds DrawsNothing c f = draws_nothing c
gl_holds NoCropParameter c f = not (number c BOUND_PNAME == GL_TEXTURE_CROP_RECT_OES)
gl_holds WrongCropLength c f = not (length c.list == 4)
-- section 3.7.4
gl_holds NoTextureParameter c f = not (is_parameter_pair (number c BOUND_PNAME) (number c BOUND_PARAM))
-- section 3.7.1: a level, and the pixels that are given for it
gl_holds NoImageKind c f = not (is_image_format (number c IMAGE_FORMAT) && is_image_type (number c IMAGE_TYPE))
gl_holds NoImagePair c f = not (is_some (form_of (number c IMAGE_FORMAT) (number c IMAGE_TYPE))) && (is_image_format (number c IMAGE_FORMAT) && is_image_type (number c IMAGE_TYPE))
gl_holds NoInternalFormat c f = not (is_image_format (number c INTERNAL_FORMAT))
gl_holds NoLevel c f = is_no_level (signed c LEVEL)
gl_holds WrongLevelSides c f = is_no_level_side (number c LEVEL) (signed c IMAGE_WIDTH) || is_no_level_side (number c LEVEL) (signed c IMAGE_HEIGHT)
gl_holds SomeBorder c f = not (is_zero c BORDER)
gl_holds OtherFormat c f = not (number c INTERNAL_FORMAT == number c IMAGE_FORMAT)
-- section 3.7.2: a part of a level
gl_holds NoStorage c f = not f.is_stored
gl_holds OutsideLevel c f = is_outside_side f.is_stored f.stored_width (signed c X_OFFSET) (signed c PART_WIDTH) || is_outside_side f.is_stored f.stored_height (signed c Y_OFFSET) (signed c PART_HEIGHT)
gl_holds OtherLevelFormat c f = not (number c IMAGE_FORMAT == f.stored_base) && f.is_stored
-- and pixels that are copied: no alpha comes from pixels that have none
gl_holds WrongCopiedSides c f = is_no_level_side (number c LEVEL) (signed c COPIED_WIDTH) || is_no_level_side (number c LEVEL) (signed c COPIED_HEIGHT)
gl_holds SomeCopiedBorder c f = not (is_zero c COPIED_BORDER)
gl_holds NoInternalAlpha c f = has_alpha (number c INTERNAL_FORMAT) && (not f.has_read_alpha && f.is_framebuffer_complete)
gl_holds CopiedOutsideLevel c f = is_outside_side f.is_stored f.stored_width (signed c X_OFFSET) (signed c COPIED_PART_WIDTH) || is_outside_side f.is_stored f.stored_height (signed c Y_OFFSET) (signed c COPIED_PART_HEIGHT)
gl_holds NoLevelAlpha c f = has_alpha f.stored_base && (not f.has_read_alpha && f.is_framebuffer_complete)
-- sections 2.9 and 6.1.12
gl_holds NoUsage c f = not (is_usage (number c BUFFER_USAGE))
gl_holds NegativeSize c f = int_lt (signed c BUFFER_SIZE) (pos 0)
gl_holds NegativePart c f = int_lt (signed c BUFFER_OFFSET) (pos 0) || int_lt (signed c BUFFER_PART_SIZE) (pos 0)
gl_holds PartBehindEnd c f = nat_lt f.buffer_size (number c BUFFER_OFFSET + number c BUFFER_PART_SIZE) && f.is_buffer_bound
gl_holds NoBufferParameter c f = not (is_buffer_parameter (number c BOUND_PNAME))
-- OES_framebuffer_object: renderbuffers
gl_holds NoRenderbufferFormat c f = not (is_internal (number c STORED_FORMAT))
gl_holds WrongStorageSides c f = is_no_side (signed c STORED_WIDTH) || is_no_side (signed c STORED_HEIGHT)
gl_holds NoRenderbufferParameter c f = not (is_renderbuffer_parameter (number c BOUND_PNAME))
-- what is attached to framebuffers: where the name 0 detaches, the target and the level of a texture count for nothing
gl_holds NoAttachment c f = not (is_attachment (number c ATTACHMENT))
gl_holds NoTextureNamed c f = attaches c && not f.is_texture_named
gl_holds NoRenderbufferNamed c f = attaches c && not f.is_renderbuffer_named
gl_holds NoAttachedTarget c f = attaches c && not (number c ATTACHED_TARGET == GL_TEXTURE_2D)
gl_holds SomeAttachedLevel c f = attaches c && not (is_zero c ATTACHED_LEVEL)
gl_holds NoAttachedRenderbufferTarget c f = not (number c ATTACHED_TARGET == GL_RENDERBUFFER_OES)
gl_holds NoAttachmentParameter c f = not (is_attachment_parameter (number c ATTACHMENT_PNAME))
gl_holds NothingAttached c f = (number c ATTACHMENT_PNAME == GL_FRAMEBUFFER_ATTACHMENT_OBJECT_NAME_OES) && not f.is_attached && f.is_framebuffer_bound
-- OES_EGL_image: the image is a valid one of the context's display, and a renderbuffer has red, green and blue
gl_holds NoImage c f = not f.is_image
gl_holds NotRenderable c f = not f.is_renderable && f.is_image
-- the state that a context keeps for itself
gl_holds NoEnabledCapability c f = context_holds NoEnabledCapability c
gl_holds NoCapability c f = context_holds NoCapability c
gl_holds NegativeBox c f = context_holds NegativeBox c
gl_holds NoEnvironment c f = context_holds NoEnvironment c
gl_holds NoStore c f = context_holds NoStore c
gl_holds NoAlignment c f = context_holds NoAlignment c
gl_holds NoContextParameter c f = context_holds NoContextParameter c
gl_holds NoIndex c f = context_holds NoIndex c

-- the rows that rules of the table of calls make
abbrev pub ruled : List (GlCondition × GlError) → CallValue → GlFacts → List (Row GlError)
ruled rules c f = map (row_of (λ x. gl_holds x c f)) rules

-- the rows of a call of OpenGL ES, in the order of the tests, with a test for its conditions: one that asks or sets its context's own state has its rows with that state
abbrev pub rows_by : (GlCondition → Bool) → Option GlKind → GlKind → CallValue → List (Row GlError)
rows_by holds (Some own) k c = context_rows own c
rows_by holds None k c = map (row_of holds) (gl_rules k)

-- the rows of each call. One that isn't of OpenGL ES has the rows of its rules: readBuffer those of a part of a buffer, another call of this project none
abbrev pub gl_judged : (GlCondition → Bool) → Kind → CallValue → List (Row GlError)
gl_judged holds (Gl k) c = rows_by holds (context_gl_call k) k c
gl_judged holds (Own k) c = map (row_of holds) (own_rules k)
gl_judged holds k c = []

abbrev pub gl_rows : GlKind → CallValue → GlFacts → List (Row GlError)
gl_rows k c f = gl_judged (λ x. gl_holds x c f) (Gl k) c

abbrev pub gl_rows_by : Kind → CallValue → GlFacts → List (Row GlError)
gl_rows_by k c f = gl_judged (λ x. gl_holds x c f) k c

-- the error that a call of OpenGL ES or a readBuffer keeps, if it is refused
unfoldable pub gl_refusal : CallValue → GlFacts → Option GlError
gl_refusal c f = first_error (gl_rows_by c.kind c f)
