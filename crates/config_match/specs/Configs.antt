-- Which configs an attribute list chooses, and in which order (EGL 1.5, section 3.4.1).
use Rattle.std.specs.Prelude.{ℕ, ◌+◌, ◌-◌, ℤ, pos, negsuc, Bool, not, ◌&&◌, ◌||◌, List, [], ◌∷◌, if◌then◌else◌, ◌==◌, map, int_le, bit_and, unwrap_or, filter, slice_index}
use Rattle.std.specs.List.{list_all, position_from}
use Rattle.std.specs.Ordering.{int_eq}
use Rattle.egl_calls.specs.Ranges.{unsigned}
use Rattle.egl_names.specs.declared.codes.TheConstants.{EGL_BUFFER_SIZE, EGL_RED_SIZE, EGL_GREEN_SIZE, EGL_BLUE_SIZE, EGL_ALPHA_SIZE, EGL_LUMINANCE_SIZE, EGL_ALPHA_MASK_SIZE, EGL_DEPTH_SIZE, EGL_STENCIL_SIZE, EGL_SAMPLE_BUFFERS, EGL_SAMPLES, EGL_BIND_TO_TEXTURE_RGB, EGL_BIND_TO_TEXTURE_RGBA, EGL_CONFIG_CAVEAT, EGL_CONFIG_ID, EGL_MAX_SWAP_INTERVAL, EGL_MIN_SWAP_INTERVAL, EGL_NATIVE_RENDERABLE, EGL_NATIVE_VISUAL_TYPE, EGL_TRANSPARENT_TYPE, EGL_COLOR_BUFFER_TYPE, EGL_LEVEL, EGL_SURFACE_TYPE, EGL_RENDERABLE_TYPE, EGL_CONFORMANT, EGL_NONE, EGL_SLOW_CONFIG, EGL_NON_CONFORMANT_CONFIG, EGL_RGB_BUFFER, EGL_LUMINANCE_BUFFER, EGL_WINDOW_BIT, EGL_OPENGL_ES_BIT}
use Rattle.attrib_lists.specs.Ranges.{is_dont_care}
use Rattle.attrib_lists.specs.Lists.{value_of}
use Rattle.config_match.specs.declared.table.Config.{Config}
use Rattle.config_match.specs.Table.{configs, attribute_of}
use Rattle.config_match.specs.Keys.{rising}

-- EGL_DONT_CARE
abbrev pub dont_care : ℤ
dont_care = negsuc 0

-- the attributes that a config must have at least, all 0 by default
abbrev pub at_least : List ℕ
at_least =
    EGL_BUFFER_SIZE ∷ EGL_RED_SIZE ∷ EGL_GREEN_SIZE ∷ EGL_BLUE_SIZE ∷ EGL_ALPHA_SIZE ∷ EGL_LUMINANCE_SIZE ∷ EGL_ALPHA_MASK_SIZE
    ∷ EGL_DEPTH_SIZE ∷ EGL_STENCIL_SIZE ∷ EGL_SAMPLE_BUFFERS ∷ EGL_SAMPLES ∷ []

-- those that it must have exactly, with the defaults. EGL_LEVEL is the one for which EGL_DONT_CARE is the level -1
abbrev pub exact : List (ℕ × ℤ)
exact =
    (EGL_BIND_TO_TEXTURE_RGB, dont_care)
    ∷ (EGL_BIND_TO_TEXTURE_RGBA, dont_care)
    ∷ (EGL_CONFIG_CAVEAT, dont_care)
    ∷ (EGL_CONFIG_ID, dont_care)
    ∷ (EGL_MAX_SWAP_INTERVAL, dont_care)
    ∷ (EGL_MIN_SWAP_INTERVAL, dont_care)
    ∷ (EGL_NATIVE_RENDERABLE, dont_care)
    ∷ (EGL_COLOR_BUFFER_TYPE, pos EGL_RGB_BUFFER)
    ∷ (EGL_LEVEL, pos 0)
    ∷ (EGL_TRANSPARENT_TYPE, pos EGL_NONE)
    ∷ []

-- those of which it must have all bits, with the defaults
abbrev pub mask : List (ℕ × ℤ)
mask = (EGL_SURFACE_TYPE, pos EGL_WINDOW_BIT) ∷ (EGL_RENDERABLE_TYPE, pos EGL_OPENGL_ES_BIT) ∷ (EGL_CONFORMANT, pos 0) ∷ []

-- what a list asks for: the value of the last pair with the attribute, else the default
abbrev pub wanted : List ℤ → ℕ → ℤ → ℤ
wanted list name default = unwrap_or (value_of list (pos name)) default

-- the value of an attribute of a config
abbrev pub value : Config → ℕ → ℕ
value c name = unwrap_or (attribute_of c name) 0

-- whether a config has at least what is asked for
unfoldable pub has_at_least : Config → ℕ → ℤ → Bool
has_at_least c name w = is_dont_care w || int_le w (pos (value c name))

-- whether it has exactly that; EGL_DONT_CARE asks for nothing, but at EGL_LEVEL
unfoldable pub has_exactly : Config → ℕ → ℤ → Bool
has_exactly c name w = (is_dont_care w && not (name == EGL_LEVEL)) || int_eq w (pos (value c name))

-- whether it has every bit that is asked for
unfoldable pub has_bits : Config → ℕ → ℤ → Bool
has_bits c name w = is_dont_care w || (bit_and (value c name) (unsigned w) == unsigned w)

-- whether a config meets each criterion
unfoldable pub meets_all : List ℤ → Config → Bool
meets_all list c =
    list_all (λ name. has_at_least c name (wanted list name (pos 0))) at_least
    && list_all (λ e. has_exactly c e.0 (wanted list e.0 e.1)) exact
    && list_all (λ e. has_bits c e.0 (wanted list e.0 e.1)) mask

-- whether a list chooses a config. An id that is asked for decides alone
unfoldable pub matches : List ℤ → Config → Bool
matches list c =
    let id = wanted list EGL_CONFIG_ID dont_care in
    if is_dont_care id then meets_all list c else int_eq id (pos c.id)

-- the size of a colour, where the list asks for it with a value other than 0 and EGL_DONT_CARE
abbrev pub requested_size : List ℤ → Config → ℕ → ℕ
requested_size list c name =
    let w = wanted list name (pos 0) in
    if is_dont_care w || int_eq w (pos 0) then 0 else value c name

-- the sum of the sizes of the colours that a list asks for
abbrev pub requested_bits : List ℤ → Config → ℕ
requested_bits list c = requested_size list c EGL_RED_SIZE + requested_size list c EGL_GREEN_SIZE + requested_size list c EGL_BLUE_SIZE + requested_size list c EGL_ALPHA_SIZE

-- the place of a code in a list, by which it is ordered
abbrev pub rank : List ℕ → ℕ → ℕ
rank codes code = unwrap_or (position_from (λ n. n == code) 0 codes) 0

-- the caveats, in their order
abbrev pub caveats : List ℕ
caveats = EGL_NONE ∷ EGL_SLOW_CONFIG ∷ EGL_NON_CONFORMANT_CONFIG ∷ []

-- the buffer types, in their order
abbrev pub buffer_types : List ℕ
buffer_types = EGL_RGB_BUFFER ∷ EGL_LUMINANCE_BUFFER ∷ []

-- the eleven parts by which configs are ordered, each rising. More requested bits come first, and no config has more than 32
unfoldable pub key : List ℤ → Config → List ℕ
key list c =
    rank caveats (value c EGL_CONFIG_CAVEAT)
    ∷ rank buffer_types (value c EGL_COLOR_BUFFER_TYPE)
    ∷ (32 - requested_bits list c)
    ∷ map (value c) (EGL_BUFFER_SIZE ∷ EGL_SAMPLE_BUFFERS ∷ EGL_SAMPLES ∷ EGL_DEPTH_SIZE ∷ EGL_STENCIL_SIZE ∷ EGL_ALPHA_MASK_SIZE ∷ EGL_NATIVE_VISUAL_TYPE ∷ EGL_CONFIG_ID ∷ [])

-- the last part of a key
abbrev pub id_of_key : List ℕ → ℤ
id_of_key k = pos (slice_index k 10)

-- the ids of the configs that a list chooses, in rising order of their keys
unfoldable pub chosen : List ℤ → List ℤ
chosen list = map id_of_key (rising (map (key list) (filter (matches list) configs)))
