-- The names of EGL and OpenGL ES that a trace may use, their codes, and the words that stand for a number.
use Rattle.std.specs.Prelude.{ℕ, ◌+◌, ◌-◌, ℤ, pos, negsuc, Bool, List, [], ◌∷◌, ◌++◌, codes, Option, None, if◌then◌else◌, nat_lt, slice_get, find, is_some}
use Rattle.std.specs.List.{position_from}
use Rattle.std.specs.Option.{option_map, option_or}
use Rattle.std.specs.Str.{bytes_eq}

-- the errors of EGL (EGL 1.5, section 3.1), then those of OpenGL ES (OpenGL ES 1.1, section 2.5) and of OES_framebuffer_object
unfoldable pub errors : List (List ℕ)
errors =
    codes "EGL_SUCCESS"
    ∷ codes "EGL_NOT_INITIALIZED"
    ∷ codes "EGL_BAD_ACCESS"
    ∷ codes "EGL_BAD_ALLOC"
    ∷ codes "EGL_BAD_ATTRIBUTE"
    ∷ codes "EGL_BAD_CONFIG"
    ∷ codes "EGL_BAD_CONTEXT"
    ∷ codes "EGL_BAD_CURRENT_SURFACE"
    ∷ codes "EGL_BAD_DISPLAY"
    ∷ codes "EGL_BAD_MATCH"
    ∷ codes "EGL_BAD_NATIVE_PIXMAP"
    ∷ codes "EGL_BAD_NATIVE_WINDOW"
    ∷ codes "EGL_BAD_PARAMETER"
    ∷ codes "EGL_BAD_SURFACE"
    ∷ codes "EGL_CONTEXT_LOST"
    ∷ codes "GL_NO_ERROR"
    ∷ codes "GL_INVALID_ENUM"
    ∷ codes "GL_INVALID_VALUE"
    ∷ codes "GL_INVALID_OPERATION"
    ∷ codes "GL_OUT_OF_MEMORY"
    ∷ codes "GL_INVALID_FRAMEBUFFER_OPERATION_OES"
    ∷ []

-- the attributes of a config (EGL 1.5, section 3.4)
unfoldable pub config_attributes : List (List ℕ)
config_attributes =
    codes "EGL_BUFFER_SIZE"
    ∷ codes "EGL_RED_SIZE"
    ∷ codes "EGL_GREEN_SIZE"
    ∷ codes "EGL_BLUE_SIZE"
    ∷ codes "EGL_ALPHA_SIZE"
    ∷ codes "EGL_LUMINANCE_SIZE"
    ∷ codes "EGL_ALPHA_MASK_SIZE"
    ∷ codes "EGL_DEPTH_SIZE"
    ∷ codes "EGL_STENCIL_SIZE"
    ∷ codes "EGL_SAMPLE_BUFFERS"
    ∷ codes "EGL_SAMPLES"
    ∷ codes "EGL_BIND_TO_TEXTURE_RGB"
    ∷ codes "EGL_BIND_TO_TEXTURE_RGBA"
    ∷ codes "EGL_CONFIG_CAVEAT"
    ∷ codes "EGL_CONFIG_ID"
    ∷ codes "EGL_MAX_SWAP_INTERVAL"
    ∷ codes "EGL_MIN_SWAP_INTERVAL"
    ∷ codes "EGL_NATIVE_RENDERABLE"
    ∷ codes "EGL_NATIVE_VISUAL_ID"
    ∷ codes "EGL_NATIVE_VISUAL_TYPE"
    ∷ codes "EGL_TRANSPARENT_TYPE"
    ∷ codes "EGL_TRANSPARENT_RED_VALUE"
    ∷ codes "EGL_TRANSPARENT_GREEN_VALUE"
    ∷ codes "EGL_TRANSPARENT_BLUE_VALUE"
    ∷ codes "EGL_COLOR_BUFFER_TYPE"
    ∷ codes "EGL_LEVEL"
    ∷ codes "EGL_SURFACE_TYPE"
    ∷ codes "EGL_RENDERABLE_TYPE"
    ∷ codes "EGL_CONFORMANT"
    ∷ codes "EGL_MAX_PBUFFER_WIDTH"
    ∷ codes "EGL_MAX_PBUFFER_HEIGHT"
    ∷ codes "EGL_MAX_PBUFFER_PIXELS"
    ∷ []

-- the other names of EGL: values of attributes, and the attributes of surfaces, contexts, syncs and images
unfoldable pub other_egl_names : List (List ℕ)
other_egl_names =
    codes "EGL_NONE"
    ∷ codes "EGL_SLOW_CONFIG"
    ∷ codes "EGL_NON_CONFORMANT_CONFIG"
    ∷ codes "EGL_RGB_BUFFER"
    ∷ codes "EGL_LUMINANCE_BUFFER"
    ∷ codes "EGL_TRANSPARENT_RGB"
    ∷ codes "EGL_WIDTH"
    ∷ codes "EGL_HEIGHT"
    ∷ codes "EGL_LARGEST_PBUFFER"
    ∷ codes "EGL_RENDER_BUFFER"
    ∷ codes "EGL_BACK_BUFFER"
    ∷ codes "EGL_SINGLE_BUFFER"
    ∷ codes "EGL_SWAP_BEHAVIOR"
    ∷ codes "EGL_BUFFER_PRESERVED"
    ∷ codes "EGL_BUFFER_DESTROYED"
    ∷ codes "EGL_DRAW"
    ∷ codes "EGL_READ"
    ∷ codes "EGL_OPENGL_ES_API"
    ∷ codes "EGL_OPENVG_API"
    ∷ codes "EGL_OPENGL_API"
    ∷ codes "EGL_CONTEXT_CLIENT_TYPE"
    ∷ codes "EGL_CONTEXT_CLIENT_VERSION"
    ∷ codes "EGL_CONTEXT_MINOR_VERSION"
    ∷ codes "EGL_SYNC_FENCE"
    ∷ codes "EGL_SYNC_TYPE"
    ∷ codes "EGL_SYNC_STATUS"
    ∷ codes "EGL_SYNC_CONDITION"
    ∷ codes "EGL_SYNC_PRIOR_COMMANDS_COMPLETE"
    ∷ codes "EGL_SIGNALED"
    ∷ codes "EGL_UNSIGNALED"
    ∷ codes "EGL_CONDITION_SATISFIED"
    ∷ codes "EGL_TIMEOUT_EXPIRED"
    ∷ codes "EGL_GL_TEXTURE_2D"
    ∷ codes "EGL_GL_RENDERBUFFER"
    ∷ codes "EGL_GL_TEXTURE_LEVEL"
    ∷ codes "EGL_IMAGE_PRESERVED"
    ∷ []

-- the names of OpenGL ES 1.1, OES_framebuffer_object, OES_draw_texture, OES_rgb8_rgba8 and OES_stencil8
unfoldable pub gl_names : List (List ℕ)
gl_names =
    codes "GL_TEXTURE_2D"
    ∷ codes "GL_SCISSOR_TEST"
    ∷ codes "GL_DITHER"
    ∷ codes "GL_BLEND"
    ∷ codes "GL_DEPTH_TEST"
    ∷ codes "GL_ALPHA_TEST"
    ∷ codes "GL_STENCIL_TEST"
    ∷ codes "GL_CULL_FACE"
    ∷ codes "GL_LIGHTING"
    ∷ codes "GL_FOG"
    ∷ codes "GL_TEXTURE_ENV"
    ∷ codes "GL_TEXTURE_ENV_MODE"
    ∷ codes "GL_MODULATE"
    ∷ codes "GL_REPLACE"
    ∷ codes "GL_UNPACK_ALIGNMENT"
    ∷ codes "GL_PACK_ALIGNMENT"
    ∷ codes "GL_TEXTURE_MIN_FILTER"
    ∷ codes "GL_TEXTURE_MAG_FILTER"
    ∷ codes "GL_TEXTURE_WRAP_S"
    ∷ codes "GL_TEXTURE_WRAP_T"
    ∷ codes "GL_NEAREST"
    ∷ codes "GL_LINEAR"
    ∷ codes "GL_NEAREST_MIPMAP_NEAREST"
    ∷ codes "GL_LINEAR_MIPMAP_NEAREST"
    ∷ codes "GL_NEAREST_MIPMAP_LINEAR"
    ∷ codes "GL_LINEAR_MIPMAP_LINEAR"
    ∷ codes "GL_REPEAT"
    ∷ codes "GL_CLAMP_TO_EDGE"
    ∷ codes "GL_TEXTURE_CROP_RECT_OES"
    ∷ codes "GL_ALPHA"
    ∷ codes "GL_RGB"
    ∷ codes "GL_RGBA"
    ∷ codes "GL_LUMINANCE"
    ∷ codes "GL_LUMINANCE_ALPHA"
    ∷ codes "GL_UNSIGNED_BYTE"
    ∷ codes "GL_UNSIGNED_SHORT_5_6_5"
    ∷ codes "GL_UNSIGNED_SHORT_4_4_4_4"
    ∷ codes "GL_UNSIGNED_SHORT_5_5_5_1"
    ∷ codes "GL_ARRAY_BUFFER"
    ∷ codes "GL_ELEMENT_ARRAY_BUFFER"
    ∷ codes "GL_STATIC_DRAW"
    ∷ codes "GL_DYNAMIC_DRAW"
    ∷ codes "GL_BUFFER_SIZE"
    ∷ codes "GL_BUFFER_USAGE"
    ∷ codes "GL_FRAMEBUFFER_OES"
    ∷ codes "GL_RENDERBUFFER_OES"
    ∷ codes "GL_RGB565_OES"
    ∷ codes "GL_RGBA4_OES"
    ∷ codes "GL_RGB5_A1_OES"
    ∷ codes "GL_RGBA8_OES"
    ∷ codes "GL_DEPTH_COMPONENT16_OES"
    ∷ codes "GL_STENCIL_INDEX8_OES"
    ∷ codes "GL_COLOR_ATTACHMENT0_OES"
    ∷ codes "GL_DEPTH_ATTACHMENT_OES"
    ∷ codes "GL_STENCIL_ATTACHMENT_OES"
    ∷ codes "GL_FRAMEBUFFER_COMPLETE_OES"
    ∷ codes "GL_FRAMEBUFFER_INCOMPLETE_ATTACHMENT_OES"
    ∷ codes "GL_FRAMEBUFFER_INCOMPLETE_MISSING_ATTACHMENT_OES"
    ∷ codes "GL_FRAMEBUFFER_INCOMPLETE_DIMENSIONS_OES"
    ∷ codes "GL_FRAMEBUFFER_UNSUPPORTED_OES"
    ∷ codes "GL_FRAMEBUFFER_ATTACHMENT_OBJECT_TYPE_OES"
    ∷ codes "GL_FRAMEBUFFER_ATTACHMENT_OBJECT_NAME_OES"
    ∷ codes "GL_NONE_OES"
    ∷ codes "GL_TEXTURE"
    ∷ codes "GL_RENDERBUFFER_WIDTH_OES"
    ∷ codes "GL_RENDERBUFFER_HEIGHT_OES"
    ∷ codes "GL_TEXTURE_BINDING_2D"
    ∷ codes "GL_ARRAY_BUFFER_BINDING"
    ∷ codes "GL_ELEMENT_ARRAY_BUFFER_BINDING"
    ∷ codes "GL_FRAMEBUFFER_BINDING_OES"
    ∷ codes "GL_RENDERBUFFER_BINDING_OES"
    ∷ codes "GL_VIEWPORT"
    ∷ codes "GL_SCISSOR_BOX"
    ∷ codes "GL_MAX_TEXTURE_SIZE"
    ∷ codes "GL_FRAMEBUFFER_UNDEFINED_OES"
    ∷ []

-- every name, in the order of the codes
unfoldable pub names : List (List ℕ)
names = errors ++ config_attributes ++ other_egl_names ++ gl_names

-- the code of the first name; the others follow it one by one. The codes are this project's own
abbrev pub first_code : ℕ
first_code = 3000000000

-- the name with a code, in a list of names
abbrev pub name_at : List (List ℕ) → ℕ → Option (List ℕ)
name_at list n = if nat_lt n first_code then None else slice_get list (n - first_code)

-- the name with a code
unfoldable pub name_of : ℤ → Option (List ℕ)
name_of (pos n) = name_at names n
name_of (negsuc n) = None

-- the place of a word in a list of words, counted from 0
abbrev pub place_of : List (List ℕ) → List ℕ → Option ℕ
place_of words w = position_from (λ x. bytes_eq x w) 0 words

-- the code of a name
unfoldable pub code_of : List ℕ → Option ℕ
code_of w = option_map (λ k. first_code + k) (place_of names w)

-- the words that stand for a number and are no bits. EGL_CONTEXT_MAJOR_VERSION is another word for EGL_CONTEXT_CLIENT_VERSION
unfoldable pub plain_words : List (List ℕ × ℤ)
plain_words =
    (codes "EGL_FALSE", pos 0)
    ∷ (codes "GL_FALSE", pos 0)
    ∷ (codes "EGL_DEFAULT_DISPLAY", pos 0)
    ∷ (codes "EGL_NO_DISPLAY", pos 0)
    ∷ (codes "EGL_NO_CONTEXT", pos 0)
    ∷ (codes "EGL_NO_SURFACE", pos 0)
    ∷ (codes "EGL_NO_SYNC", pos 0)
    ∷ (codes "EGL_NO_IMAGE", pos 0)
    ∷ (codes "EGL_TRUE", pos 1)
    ∷ (codes "GL_TRUE", pos 1)
    ∷ (codes "EGL_DONT_CARE", negsuc 0)
    ∷ (codes "EGL_FOREVER", negsuc 0)
    ∷ (codes "EGL_CONTEXT_MAJOR_VERSION", pos 3000000074)
    ∷ []

-- the words that are bits of a number, and which `|` may join. The bits are this project's own
unfoldable pub bit_words : List (List ℕ × ℕ)
bit_words =
    (codes "EGL_PBUFFER_BIT", 1)
    ∷ (codes "EGL_PIXMAP_BIT", 2)
    ∷ (codes "EGL_WINDOW_BIT", 4)
    ∷ (codes "EGL_SWAP_BEHAVIOR_PRESERVED_BIT", 8)
    ∷ (codes "EGL_OPENGL_ES_BIT", 1)
    ∷ (codes "EGL_OPENVG_BIT", 2)
    ∷ (codes "EGL_OPENGL_ES2_BIT", 4)
    ∷ (codes "EGL_OPENGL_BIT", 8)
    ∷ (codes "EGL_SYNC_FLUSH_COMMANDS_BIT", 1)
    ∷ (codes "GL_COLOR_BUFFER_BIT", 1)
    ∷ (codes "GL_DEPTH_BUFFER_BIT", 2)
    ∷ (codes "GL_STENCIL_BUFFER_BIT", 4)
    ∷ []

-- the number beside the first word of a list that is this one
abbrev pub value_in : {V : Type 0} → List (List ℕ × V) → List ℕ → Option V
value_in words w = option_map (λ e. e.1) (find (λ e. bytes_eq e.0 w) words)

-- the number of a bit
unfoldable pub bit_word : List ℕ → Option ℕ
bit_word w = value_in bit_words w

-- whether a word is a bit
abbrev pub is_bit_word : List ℕ → Bool
is_bit_word w = is_some (bit_word w)

-- the number of a word that stands for one
unfoldable pub number_word : List ℕ → Option ℤ
number_word w = option_or (value_in plain_words w) (option_map pos (bit_word w))
