-- The text of the configs.
use Rattle.std.specs.Prelude.{ℕ, ℤ, pos, List, [], ◌∷◌, ◌++◌, codes, map, unwrap_or}
use Rattle.std.specs.List.{flat_map, join_with_byte}
use Rattle.egl_names.specs.declared.codes.TheConstants.{EGL_CONFIG_ID, EGL_RED_SIZE, EGL_GREEN_SIZE, EGL_BLUE_SIZE, EGL_ALPHA_SIZE, EGL_DEPTH_SIZE, EGL_STENCIL_SIZE, EGL_SURFACE_TYPE, EGL_CONFIG_CAVEAT}
use Rattle.config_match.specs.declared.table.Config.{Config}
use Rattle.config_match.specs.Table.{configs, attribute}
use Rattle.config_match.specs.Configs.{value}
use Rattle.trace_model.specs.Recording.{number_text}

-- the attributes that a line shows, in their order (EGL 1.5, section 3.4)
abbrev pub shown : List ℕ
shown = EGL_CONFIG_ID ∷ EGL_RED_SIZE ∷ EGL_GREEN_SIZE ∷ EGL_BLUE_SIZE ∷ EGL_ALPHA_SIZE ∷ EGL_DEPTH_SIZE ∷ EGL_STENCIL_SIZE ∷ EGL_SURFACE_TYPE ∷ EGL_CONFIG_CAVEAT ∷ []

-- their values as recordings write numbers, parted by spaces
abbrev pub config_line : Config → List ℕ
config_line c = join_with_byte 32 (map (λ name. number_text (pos (value c name))) shown) ++ codes "\n"

-- a line for each config
unfoldable pub configs_text : List ℕ
configs_text = flat_map config_line configs

-- the value that an attribute of the config with an id has (EGL 1.5, section 3.4.3), as recordings write it
abbrev pub attribute_text : ℤ → ℤ → List ℕ
attribute_text id name = number_text (unwrap_or (attribute id name) (pos 0))

-- the line of the config with an id
unfoldable pub line_with_id : ℤ → List ℕ
line_with_id id = join_with_byte 32 (map (attribute_text id) (map pos shown)) ++ codes "\n"

-- the text, written out
abbrev pub printed_configs : List ℕ
printed_configs =
    codes "1 5 6 5 0 0 0 13 EGL_NONE\n"
    ++ codes "2 5 6 5 0 16 0 13 EGL_NONE\n"
    ++ codes "3 8 8 8 0 0 0 13 EGL_NONE\n"
    ++ codes "4 8 8 8 8 0 0 13 EGL_NONE\n"
    ++ codes "5 8 8 8 8 24 8 13 EGL_NONE\n"
    ++ codes "6 4 4 4 4 0 0 13 EGL_NONE\n"
    ++ codes "7 5 5 5 1 0 0 13 EGL_NONE\n"
    ++ codes "8 8 8 8 8 0 0 9 EGL_SLOW_CONFIG\n"
