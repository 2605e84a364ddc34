-- Which configs are compatible (EGL 1.5, section 2.2).
use Rattle.std.specs.Prelude.{ℕ, ℤ, pos, Bool, false, List, [], ◌∷◌, Option, None, Some}
use Rattle.std.specs.List.{list_all}
use Rattle.std.specs.Option.{option_map}
use Rattle.std.specs.Ordering.{int_eq}
use Rattle.egl_names.specs.declared.codes.TheConstants.{EGL_RED_SIZE, EGL_GREEN_SIZE, EGL_BLUE_SIZE, EGL_ALPHA_SIZE, EGL_DEPTH_SIZE, EGL_STENCIL_SIZE}
use Rattle.config_match.specs.declared.table.Config.{Config}
use Rattle.config_match.specs.Table.{attribute, attribute_in, attribute_of}

-- the sizes in which compatible configs are equal
abbrev pub compared : List ℕ
compared = EGL_RED_SIZE ∷ EGL_GREEN_SIZE ∷ EGL_BLUE_SIZE ∷ EGL_ALPHA_SIZE ∷ EGL_DEPTH_SIZE ∷ EGL_STENCIL_SIZE ∷ []

-- whether there are two numbers, and they are equal
abbrev pub is_same : Option ℤ → Option ℤ → Bool
is_same (Some x) (Some y) = int_eq x y
is_same (Some x) None = false
is_same None y = false

-- whether two configs have equal sizes of colours, depth and stencil
abbrev pub have_equal_sizes : Config → Config → Bool
have_equal_sizes c d = list_all (λ name. is_same (option_map pos (attribute_of c name)) (option_map pos (attribute_of d name))) compared

-- whether two numbers are ids of configs with equal sizes of colours, depth and stencil: those of which a context
-- and a surface go together
unfoldable pub are_compatible : ℤ → ℤ → Bool
are_compatible first second = list_all (λ name. is_same (attribute first (pos name)) (attribute second (pos name))) compared

-- the same, among some rows
abbrev pub are_compatible_in : List Config → ℕ → ℕ → Bool
are_compatible_in rows first second = list_all (λ name. is_same (option_map pos (attribute_in rows first name)) (option_map pos (attribute_in rows second name))) compared
