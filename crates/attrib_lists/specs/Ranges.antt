-- The attributes and the values that each kind of attribute list may have.
use Rattle.std.specs.Prelude.{ℕ, ℤ, pos, negsuc, Bool, true, false, ◌&&◌, ◌||◌, List, [], ◌∷◌, if◌then◌else◌, ◌==◌, int_le}
use Rattle.std.specs.List.{list_any}
use Rattle.std.specs.Ordering.{int_eq}
use Rattle.egl_calls.specs.Ranges.{unsigned}
use Rattle.egl_names.specs.declared.codes.TheConstants.{EGL_BUFFER_SIZE, EGL_RED_SIZE, EGL_GREEN_SIZE, EGL_BLUE_SIZE, EGL_ALPHA_SIZE, EGL_LUMINANCE_SIZE, EGL_ALPHA_MASK_SIZE, EGL_DEPTH_SIZE, EGL_STENCIL_SIZE, EGL_SAMPLE_BUFFERS, EGL_SAMPLES, EGL_BIND_TO_TEXTURE_RGB, EGL_BIND_TO_TEXTURE_RGBA, EGL_CONFIG_CAVEAT, EGL_CONFIG_ID, EGL_MAX_SWAP_INTERVAL, EGL_MIN_SWAP_INTERVAL, EGL_NATIVE_RENDERABLE, EGL_NATIVE_VISUAL_ID, EGL_NATIVE_VISUAL_TYPE, EGL_TRANSPARENT_TYPE, EGL_TRANSPARENT_RED_VALUE, EGL_TRANSPARENT_GREEN_VALUE, EGL_TRANSPARENT_BLUE_VALUE, EGL_COLOR_BUFFER_TYPE, EGL_LEVEL, EGL_SURFACE_TYPE, EGL_RENDERABLE_TYPE, EGL_CONFORMANT, EGL_MAX_PBUFFER_WIDTH, EGL_MAX_PBUFFER_HEIGHT, EGL_MAX_PBUFFER_PIXELS}
use Rattle.egl_names.specs.declared.codes.TheConstants.{EGL_NONE, EGL_SLOW_CONFIG, EGL_NON_CONFORMANT_CONFIG, EGL_RGB_BUFFER, EGL_LUMINANCE_BUFFER, EGL_TRANSPARENT_RGB, EGL_WIDTH, EGL_HEIGHT, EGL_LARGEST_PBUFFER, EGL_RENDER_BUFFER, EGL_BACK_BUFFER, EGL_SINGLE_BUFFER, EGL_CONTEXT_CLIENT_VERSION, EGL_CONTEXT_MINOR_VERSION, EGL_IMAGE_PRESERVED, EGL_GL_TEXTURE_LEVEL}
use Rattle.attrib_lists.specs.declared.allowed.Allowed.{Allowed}
use Rattle.attrib_lists.specs.declared.allowed.Allowed.TheVariants.{Config, Window, Pbuffer, Context, Image}

-- whether a code is on a list
abbrev pub has_code : List ℕ → ℕ → Bool
has_code ns n = list_any (λ m. n == m) ns

-- whether a number is a code on a list. No code is negative, and none is 0
abbrev pub is_one_of : List ℕ → ℤ → Bool
is_one_of ns z = has_code ns (unsigned z)

-- EGL_DONT_CARE
abbrev pub is_dont_care : ℤ → Bool
is_dont_care z = int_eq z (negsuc 0)

-- any number
abbrev pub is_any : ℤ → Bool
is_any z = true

-- EGL_DONT_CARE, or a number that isn't negative and fits 31 bits
abbrev pub is_size : ℤ → Bool
is_size z = int_le (negsuc 0) z && int_le z (pos 2147483647)

-- EGL_DONT_CARE, EGL_FALSE or EGL_TRUE
abbrev pub is_choice : ℤ → Bool
is_choice z = int_le (negsuc 0) z && int_le z (pos 1)

-- EGL_FALSE or EGL_TRUE
abbrev pub is_flag : ℤ → Bool
is_flag z = int_le (pos 0) z && int_le z (pos 1)

-- EGL_DONT_CARE, or a code on a list
abbrev pub is_name_of : List ℕ → ℤ → Bool
is_name_of ns z = is_dont_care z || is_one_of ns z

-- the attributes that ask for at least a value, and those that ask for bits (EGL 1.5, section 3.4.1)
abbrev pub size_attributes : List ℕ
size_attributes =
    EGL_BUFFER_SIZE ∷ EGL_RED_SIZE ∷ EGL_GREEN_SIZE ∷ EGL_BLUE_SIZE ∷ EGL_ALPHA_SIZE ∷ EGL_LUMINANCE_SIZE ∷ EGL_ALPHA_MASK_SIZE
    ∷ EGL_DEPTH_SIZE ∷ EGL_STENCIL_SIZE ∷ EGL_SAMPLE_BUFFERS ∷ EGL_SAMPLES ∷ EGL_SURFACE_TYPE ∷ EGL_RENDERABLE_TYPE ∷ EGL_CONFORMANT ∷ []

-- the attributes that ask for a yes or a no
abbrev pub choice_attributes : List ℕ
choice_attributes = EGL_BIND_TO_TEXTURE_RGB ∷ EGL_BIND_TO_TEXTURE_RGBA ∷ EGL_NATIVE_RENDERABLE ∷ []

-- the attributes of a config that may be asked for by any number
abbrev pub other_attributes : List ℕ
other_attributes =
    EGL_CONFIG_ID ∷ EGL_MAX_SWAP_INTERVAL ∷ EGL_MIN_SWAP_INTERVAL ∷ EGL_NATIVE_VISUAL_ID ∷ EGL_NATIVE_VISUAL_TYPE
    ∷ EGL_TRANSPARENT_RED_VALUE ∷ EGL_TRANSPARENT_GREEN_VALUE ∷ EGL_TRANSPARENT_BLUE_VALUE ∷ EGL_LEVEL
    ∷ EGL_MAX_PBUFFER_WIDTH ∷ EGL_MAX_PBUFFER_HEIGHT ∷ EGL_MAX_PBUFFER_PIXELS ∷ []

-- a row of a table: some attributes, and which values they may have
pub record Row : Type 0 where
  pub attributes : List ℕ
  pub values : ℤ → Bool

infix 6 ◌may_be◌
abbrev pub ◌may_be◌ : List ℕ → (ℤ → Bool) → Row
attributes may_be values = record { attributes = attributes; values = values }

-- what the lists of eglChooseConfig (EGL 1.5, section 3.4.1), eglCreateWindowSurface (3.5.1), eglCreatePbufferSurface (3.5.2), eglCreateContext (3.7.1) and eglCreateImage (3.9) may have
abbrev pub rows : Allowed → List Row
rows Config =
    (size_attributes may_be is_size)
    ∷ (choice_attributes may_be is_choice)
    ∷ ((EGL_CONFIG_CAVEAT ∷ []) may_be is_name_of (EGL_NONE ∷ EGL_SLOW_CONFIG ∷ EGL_NON_CONFORMANT_CONFIG ∷ []))
    ∷ ((EGL_COLOR_BUFFER_TYPE ∷ []) may_be is_name_of (EGL_RGB_BUFFER ∷ EGL_LUMINANCE_BUFFER ∷ []))
    ∷ ((EGL_TRANSPARENT_TYPE ∷ []) may_be is_name_of (EGL_NONE ∷ EGL_TRANSPARENT_RGB ∷ []))
    ∷ (other_attributes may_be is_any)
    ∷ []
rows Window = ((EGL_RENDER_BUFFER ∷ []) may_be is_one_of (EGL_BACK_BUFFER ∷ EGL_SINGLE_BUFFER ∷ [])) ∷ []
rows Pbuffer = ((EGL_WIDTH ∷ EGL_HEIGHT ∷ []) may_be is_any) ∷ ((EGL_LARGEST_PBUFFER ∷ []) may_be is_flag) ∷ []
rows Context = ((EGL_CONTEXT_CLIENT_VERSION ∷ EGL_CONTEXT_MINOR_VERSION ∷ []) may_be is_any) ∷ []
rows Image = ((EGL_IMAGE_PRESERVED ∷ []) may_be is_flag) ∷ ((EGL_GL_TEXTURE_LEVEL ∷ []) may_be is_any) ∷ []

-- whether the row of an attribute lets a value through; an attribute without a row is not allowed
abbrev pub is_allowed_code : List Row → ℕ → ℤ → Bool
is_allowed_code [] code value = false
is_allowed_code (r ∷ rs) code value = if has_code r.attributes code then r.values value else is_allowed_code rs code value

-- whether a kind of list may have an attribute with a value
unfoldable pub is_allowed : Allowed → ℤ → ℤ → Bool
is_allowed allowed attribute value = is_allowed_code (rows allowed) (unsigned attribute) value
