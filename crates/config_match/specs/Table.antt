-- The configs and their attributes.
use Rattle.std.specs.Prelude.{ℕ, ◌+◌, ℤ, pos, Bool, List, [], ◌∷◌, Option, None, Some, ◌==◌, if◌then◌else◌, find, map, is_some}
use Rattle.std.specs.Option.{option_map, option_or, option_and_then}
use Rattle.egl_calls.specs.Ranges.{unsigned}
use Rattle.egl_names.specs.declared.codes.TheConstants.{EGL_BUFFER_SIZE, EGL_RED_SIZE, EGL_GREEN_SIZE, EGL_BLUE_SIZE, EGL_ALPHA_SIZE, EGL_LUMINANCE_SIZE, EGL_ALPHA_MASK_SIZE, EGL_DEPTH_SIZE, EGL_STENCIL_SIZE, EGL_SAMPLE_BUFFERS, EGL_SAMPLES, EGL_BIND_TO_TEXTURE_RGB, EGL_BIND_TO_TEXTURE_RGBA, EGL_CONFIG_CAVEAT, EGL_CONFIG_ID, EGL_MAX_SWAP_INTERVAL, EGL_MIN_SWAP_INTERVAL, EGL_NATIVE_RENDERABLE, EGL_NATIVE_VISUAL_ID, EGL_NATIVE_VISUAL_TYPE, EGL_TRANSPARENT_TYPE, EGL_TRANSPARENT_RED_VALUE, EGL_TRANSPARENT_GREEN_VALUE, EGL_TRANSPARENT_BLUE_VALUE, EGL_COLOR_BUFFER_TYPE, EGL_LEVEL, EGL_SURFACE_TYPE, EGL_RENDERABLE_TYPE, EGL_CONFORMANT, EGL_MAX_PBUFFER_WIDTH, EGL_MAX_PBUFFER_HEIGHT, EGL_MAX_PBUFFER_PIXELS, EGL_NONE, EGL_SLOW_CONFIG, EGL_NON_CONFORMANT_CONFIG, EGL_RGB_BUFFER}
use Rattle.config_match.specs.declared.table.Config.{Config}
use Rattle.config_match.specs.declared.table.Caveat.{Caveat}
use Rattle.config_match.specs.declared.table.Caveat.TheVariants.{NoCaveat, Slow, NonConformant}

-- a config, written as a row
abbrev pub row : ℕ → ℕ → ℕ → ℕ → ℕ → ℕ → ℕ → ℕ → Caveat → Config
row id red green blue alpha depth stencil surface caveat = record {
  id = id;
  red = red;
  green = green;
  blue = blue;
  alpha = alpha;
  depth = depth;
  stencil = stencil;
  surface = record { 0 = surface };
  caveat = caveat;
}

-- id, sizes of red, green, blue and alpha, of depth and of stencil, surface bits, caveat
abbrev pub configs : List Config
configs =
    row 1 5 6 5 0 0 0 13 NoCaveat
    ∷ row 2 5 6 5 0 16 0 13 NoCaveat
    ∷ row 3 8 8 8 0 0 0 13 NoCaveat
    ∷ row 4 8 8 8 8 0 0 13 NoCaveat
    ∷ row 5 8 8 8 8 24 8 13 NoCaveat
    ∷ row 6 4 4 4 4 0 0 13 NoCaveat
    ∷ row 7 5 5 5 1 0 0 13 NoCaveat
    ∷ row 8 8 8 8 8 0 0 9 Slow
    ∷ []

-- the value of EGL_CONFIG_CAVEAT
abbrev pub caveat_code : Caveat → ℕ
caveat_code NoCaveat = EGL_NONE
caveat_code Slow = EGL_SLOW_CONFIG
caveat_code NonConformant = EGL_NON_CONFORMANT_CONFIG

-- the attributes in which configs differ, and their values (EGL 1.5, section 3.4)
abbrev pub own_attributes : Config → List (ℕ × ℕ)
own_attributes c =
    (EGL_BUFFER_SIZE, c.red + c.green + c.blue + c.alpha)
    ∷ (EGL_RED_SIZE, c.red)
    ∷ (EGL_GREEN_SIZE, c.green)
    ∷ (EGL_BLUE_SIZE, c.blue)
    ∷ (EGL_ALPHA_SIZE, c.alpha)
    ∷ (EGL_DEPTH_SIZE, c.depth)
    ∷ (EGL_STENCIL_SIZE, c.stencil)
    ∷ (EGL_CONFIG_CAVEAT, caveat_code c.caveat)
    ∷ (EGL_CONFIG_ID, c.id)
    ∷ (EGL_SURFACE_TYPE, c.surface.0)
    ∷ []

-- the attributes that are the same for all configs
abbrev pub common_attributes : List (ℕ × ℕ)
common_attributes =
    (EGL_LUMINANCE_SIZE, 0)
    ∷ (EGL_ALPHA_MASK_SIZE, 0)
    ∷ (EGL_SAMPLE_BUFFERS, 0)
    ∷ (EGL_SAMPLES, 0)
    ∷ (EGL_BIND_TO_TEXTURE_RGB, 0)
    ∷ (EGL_BIND_TO_TEXTURE_RGBA, 0)
    ∷ (EGL_MAX_SWAP_INTERVAL, 1)
    ∷ (EGL_MIN_SWAP_INTERVAL, 1)
    ∷ (EGL_NATIVE_RENDERABLE, 0)
    ∷ (EGL_NATIVE_VISUAL_ID, 0)
    ∷ (EGL_NATIVE_VISUAL_TYPE, EGL_NONE)
    ∷ (EGL_TRANSPARENT_TYPE, EGL_NONE)
    ∷ (EGL_TRANSPARENT_RED_VALUE, 0)
    ∷ (EGL_TRANSPARENT_GREEN_VALUE, 0)
    ∷ (EGL_TRANSPARENT_BLUE_VALUE, 0)
    ∷ (EGL_COLOR_BUFFER_TYPE, EGL_RGB_BUFFER)
    ∷ (EGL_LEVEL, 0)
    ∷ (EGL_RENDERABLE_TYPE, 1)
    ∷ (EGL_CONFORMANT, 1)
    ∷ (EGL_MAX_PBUFFER_WIDTH, 2048)
    ∷ (EGL_MAX_PBUFFER_HEIGHT, 2048)
    ∷ (EGL_MAX_PBUFFER_PIXELS, 4194304)
    ∷ []

-- the number beside a name in a list
abbrev pub beside : List (ℕ × ℕ) → ℕ → Option ℕ
beside [] name = None
beside (e ∷ es) name = if name == e.0 then Some e.1 else beside es name

-- the value of such an attribute
abbrev pub common_attribute : ℕ → Option ℕ
common_attribute name = beside common_attributes name

-- the value of an attribute; none where the name is no attribute of a config
unfoldable pub attribute_of : Config → ℕ → Option ℕ
attribute_of c name = option_or (beside (own_attributes c) name) (common_attribute name)

-- the config with an id
abbrev pub config_in : List Config → ℕ → Option Config
config_in rows id = find (λ c. id == c.id) rows

-- the value of an attribute of the config with an id; none where there is no such config, or the name is no attribute of a config
abbrev pub attribute_in : List Config → ℕ → ℕ → Option ℕ
attribute_in rows id name = option_and_then (λ c. attribute_of c name) (config_in rows id)

-- the same, for the eight configs and a call's numbers (EGL 1.5, section 3.4.3)
unfoldable pub attribute : ℤ → ℤ → Option ℤ
attribute id name = option_map pos (attribute_in configs (unsigned id) (unsigned name))

-- whether a number is a config's id
unfoldable pub is_config : ℤ → Bool
is_config id = is_some (config_in configs (unsigned id))

-- the ids of the configs, in the table's order (EGL 1.5, section 3.4.1)
unfoldable pub all_ids : List ℤ
all_ids = map (λ c. pos c.id) configs
