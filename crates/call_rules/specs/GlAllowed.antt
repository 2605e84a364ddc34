-- What is known where a call of OpenGL ES isn't refused.
use Rattle.std.specs.Prelude.{◌≡◌, ◌+◌, ◌≤◌, ℤ, pos, ◌≤ℤ◌, true, false, ◌⊎◌, List, [], ◌∷◌, bit_or, IsSome}
use Rattle.egl_calls.specs.Calls.{CallValue}
use Rattle.egl_calls.specs.declared.kinds.GlKind.{GlKind}
use Rattle.egl_calls.specs.declared.kinds.GlKind.TheVariants.{BufferData, CopyTexImage2d, RenderbufferStorage, TexImage2d}
use Rattle.call_table.specs.Rows.{gl_rules}
use Rattle.egl_calls.specs.Ranges.{unsigned}
use Rattle.egl_names.specs.declared.codes.TheConstants.{GL_RGB, GL_RGBA, GL_UNSIGNED_BYTE, GL_UNSIGNED_SHORT_5_6_5}
use Rattle.egl_calls.specs.declared.places.TheConstants.{COPIED_HEIGHT, COPIED_PART_HEIGHT, COPIED_PART_WIDTH, COPIED_WIDTH, HEIGHT, IMAGE_HEIGHT, IMAGE_WIDTH, LEVEL, MASK, STORED_FORMAT, STORED_HEIGHT, STORED_WIDTH, WIDTH, X_OFFSET, Y_OFFSET, BUFFER_OFFSET, BUFFER_PART_SIZE}
use Rattle.pixel_rows.specs.Rects.{IsInSide, IsInside}
use Rattle.texture_objects.specs.Uploads.{given_form, part_rect}
use Rattle.call_rules.specs.declared.gl_facts.GlFacts.{GlFacts}
use Rattle.egl_calls.specs.Arguments.{number, signed}
use Rattle.call_rules.specs.GlRules.{buffer_bits, no_gl_facts, read_format, read_type, ruled}
use Rattle.refusal_rows.specs.Rows.{AllOff}
use Rattle.framebuffer_objects.specs.InternalFormats.{is_internal}
use Rattle.call_rules.specs.TextureRules.{is_no_level, is_no_level_side}

-- the rules before the last, which asks for bytes
abbrev pub but_last : {A : Type 0} → List A → List A
but_last [] = []
but_last (x ∷ []) = []
but_last (x ∷ y ∷ xs) = x ∷ but_last (y ∷ xs)

-- nothing is wrong with a call but, it may be, that bytes want
abbrev pub IsAsked : GlKind → CallValue → GlFacts → Type 0
IsAsked k c f = AllOff (ruled (but_last (gl_rules k)) c f)

-- glClear (OpenGL ES 1.1, section 4.2.3): the mask adds no bit to those of the buffers
pub record ClearAllowed (c : CallValue) (f : GlFacts) : Type 0 where
  pub mask : pos 0 ≤ℤ signed c MASK
  pub bits : bit_or (unsigned (signed c MASK)) buffer_bits ≡ buffer_bits
  pub complete : f.is_framebuffer_complete ≡ true

-- a width or height that something can have
pub record IsSide (side : ℤ) : Type 0 where
  pub low : pos 0 ≤ℤ side
  pub high : side ≤ℤ pos 2048

-- pixels are read as GL_RGBA in bytes, or as GL_RGB in shorts of 5, 6 and 5 bits
abbrev pub IsReadPair : CallValue → Type 0
IsReadPair c =
    ((read_format c ≡ GL_RGBA) × (read_type c ≡ GL_UNSIGNED_BYTE))
    ⊎ ((read_format c ≡ GL_RGB) × (read_type c ≡ GL_UNSIGNED_SHORT_5_6_5))

-- glReadPixels (section 4.3.1)
pub record ReadAllowed (c : CallValue) (f : GlFacts) : Type 0 where
  pub width : IsSide (signed c WIDTH)
  pub height : IsSide (signed c HEIGHT)
  pub pair : IsReadPair c
  pub complete : f.is_framebuffer_complete ≡ true

-- glTexImage2D (section 3.7.1): nothing is wrong with the call's own numbers
abbrev pub ImageAsked : CallValue → Type 0
ImageAsked c = IsAsked TexImage2d c no_gl_facts

-- a level and sides that it may have, a format and a type that go together, and bytes for the pixels
pub record ImageAllowed (c : CallValue) (f : GlFacts) : Type 0 where
  pub level : is_no_level (signed c LEVEL) ≡ false
  pub width : is_no_level_side (number c LEVEL) (signed c IMAGE_WIDTH) ≡ false
  pub height : is_no_level_side (number c LEVEL) (signed c IMAGE_HEIGHT) ≡ false
  pub form : IsSome (given_form c)
  pub room : f.live_bytes + f.image_bytes ≤ f.video_limit

-- glTexSubImage2D (section 3.7.2): a level, a part of its storage, and a format and a type that go together
pub record PartAllowed (c : CallValue) (f : GlFacts) : Type 0 where
  pub level : is_no_level (signed c LEVEL) ≡ false
  pub stored : f.is_stored ≡ true
  pub inside : IsInside (part_rect c) f.stored_width f.stored_height
  pub form : IsSome (given_form c)

-- glCopyTexImage2D (section 3.7.2): nothing is wrong but, it may be, the bytes of the new pixels
abbrev pub CopyAsked : CallValue → GlFacts → Type 0
CopyAsked c f = IsAsked CopyTexImage2d c f

-- a level and sides that it may have, and bytes for the pixels
pub record CopyAllowed (c : CallValue) (f : GlFacts) : Type 0 where
  pub level : is_no_level (signed c LEVEL) ≡ false
  pub width : is_no_level_side (number c LEVEL) (signed c COPIED_WIDTH) ≡ false
  pub height : is_no_level_side (number c LEVEL) (signed c COPIED_HEIGHT) ≡ false
  pub complete : f.is_framebuffer_complete ≡ true
  pub room : f.live_bytes + f.copied_bytes ≤ f.video_limit

-- glCopyTexSubImage2D (section 3.7.2): a level and a part of its storage
pub record CopyPartAllowed (c : CallValue) (f : GlFacts) : Type 0 where
  pub level : is_no_level (signed c LEVEL) ≡ false
  pub stored : f.is_stored ≡ true
  pub columns : IsInSide (signed c X_OFFSET) (signed c COPIED_PART_WIDTH) f.stored_width
  pub rows : IsInSide (signed c Y_OFFSET) (signed c COPIED_PART_HEIGHT) f.stored_height
  pub complete : f.is_framebuffer_complete ≡ true

-- glBufferData (section 2.9): nothing is wrong but that bytes may want
abbrev pub DataAsked : CallValue → GlFacts → Type 0
DataAsked c f = IsAsked BufferData c f

-- glBufferSubData and readBuffer: a buffer is bound, and the part is one of its contents
pub record BufferPartAllowed (c : CallValue) (f : GlFacts) : Type 0 where
  pub offset : pos 0 ≤ℤ signed c BUFFER_OFFSET
  pub size : pos 0 ≤ℤ signed c BUFFER_PART_SIZE
  pub bound : f.is_buffer_bound ≡ true
  pub inside : number c BUFFER_OFFSET + number c BUFFER_PART_SIZE ≤ f.buffer_size

-- glRenderbufferStorageOES (OES_framebuffer_object): nothing is wrong but that bytes may want
abbrev pub StorageAsked : CallValue → GlFacts → Type 0
StorageAsked c f = IsAsked RenderbufferStorage c f

-- a renderbuffer is bound, and there are bytes for pixels of such a format and such sides
pub record StorageAllowed (c : CallValue) (f : GlFacts) : Type 0 where
  pub format : is_internal (number c STORED_FORMAT) ≡ true
  pub width : IsSide (signed c STORED_WIDTH)
  pub height : IsSide (signed c STORED_HEIGHT)
  pub bound : f.is_renderbuffer_bound ≡ true
  pub room : f.live_bytes + f.storage_bytes ≤ f.video_limit
