-- What is true of the configs and of every choice.
use Rattle.std.specs.Prelude.{◌≡◌, ℕ, ℤ, pos, true, ◌&&◌, List, Some, map, filter, slice_get, ◌≤◌, int_le, bit_and, unwrap_or}
use Rattle.egl_calls.specs.Ranges.{unsigned}
use Rattle.egl_names.specs.declared.codes.TheConstants.{EGL_PBUFFER_BIT, EGL_SURFACE_TYPE}
use Rattle.std.specs.List.Sorted.{IsPermutation, IsSorted}
use Rattle.std.specs.Ordering.{nat_cmp}
use Rattle.std.specs.Cmp.Lexicographic.{slice_cmp}
use Rattle.config_match.specs.declared.table.Config.{Config}
use Rattle.config_match.specs.Table.{attribute, configs, is_config}
use Rattle.config_match.specs.Compatible.{are_compatible}
use Rattle.config_match.specs.Configs.{matches, key, id_of_key, requested_bits}

-- no two configs have one key, whatever the list: so there is one rising order
pub record KeysDiffer : Type 0 where
  pub each : (list : List ℤ) (i j : ℕ) (c d : Config) → slice_get configs i ≡ Some c → slice_get configs j ≡ Some d → key list c ≡ key list d → i ≡ j

-- no list asks for more than 32 bits of a config's colours: so more bits always make a smaller part of the key
pub record BitsFit : Type 0 where
  pub each : (list : List ℤ) (i : ℕ) (c : Config) → slice_get configs i ≡ Some c → requested_bits list c ≤ 32

-- a choice has the id of each config that the list matches, once, and no other, and their keys rise
pub record IsChoice (list ids : List ℤ) : Type 0 where
  pub keys : List (List ℕ)
  pub ids_are : ids ≡ map id_of_key keys
  pub those : IsPermutation (map (key list) (filter (matches list) configs)) keys
  pub rise : IsSorted (slice_cmp nat_cmp) keys

-- the ids are 1 to 8
abbrev pub IdsAreOneToEight : Type 0
IdsAreOneToEight = (id : ℤ) → is_config id ≡ (int_le (pos 1) id && int_le id (pos 8))

-- each config has the bit of pbuffers among its kinds of surfaces (EGL 1.5, section 3.4)
abbrev pub AllHavePbuffers : Type 0
AllHavePbuffers = (id : ℤ) → is_config id ≡ true → bit_and (unsigned (unwrap_or (attribute id (pos EGL_SURFACE_TYPE)) (pos 0))) EGL_PBUFFER_BIT ≡ EGL_PBUFFER_BIT

-- a config is compatible with itself, and with those that are compatible with it
pub record IsCompatibility : Type 0 where
  pub itself : (id : ℤ) → are_compatible id id ≡ is_config id
  pub either_way : (first second : ℤ) → are_compatible first second ≡ are_compatible second first
