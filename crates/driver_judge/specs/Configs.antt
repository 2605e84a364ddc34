-- Which config of ours a config of another driver is.
use Rattle.std.specs.Prelude.{ℕ, ℤ, pos, negsuc, Bool, not, ◌&&◌, ◌==◌, List, [], ◌∷◌, ◌++◌, All, find, length, map, if◌then◌else◌, unwrap_or, Option, None, Some}
use Rattle.std.specs.List.{filter_map, list_any}
use Rattle.std.specs.Option.{option_map}
use Rattle.std.specs.Ordering.{int_eq}
use Rattle.egl_calls.specs.Ranges.{unsigned, IsNumber}
use Rattle.egl_names.specs.declared.codes.TheConstants.{EGL_ALPHA_SIZE, EGL_BLUE_SIZE, EGL_CONFIG_ID, EGL_DEPTH_SIZE, EGL_GREEN_SIZE, EGL_RED_SIZE, EGL_STENCIL_SIZE}
use Rattle.config_match.specs.Table.{all_ids, attribute}
use Rattle.log_reader.specs.declared.configs.LogConfig.{LogConfig}
use Rattle.driver_judge.specs.declared.configs.ConfigPair.{ConfigPair}

-- a size of a config of ours, by the name of the attribute
abbrev pub size : ℤ → ℕ → ℕ
size id name = unsigned (unwrap_or (attribute id (pos name)) (pos 0))

-- equal sizes of red, green, blue, alpha, depth and stencil
unfoldable pub is_like : LogConfig → ℤ → Bool
is_like l id = (l.red == size id EGL_RED_SIZE) && (l.green == size id EGL_GREEN_SIZE) && (l.blue == size id EGL_BLUE_SIZE) && (l.alpha == size id EGL_ALPHA_SIZE) && (l.depth == size id EGL_DEPTH_SIZE) && (l.stencil == size id EGL_STENCIL_SIZE)

abbrev pub are_alike : LogConfig → LogConfig → Bool
are_alike l m = (l.red == m.red) && (l.green == m.green) && (l.blue == m.blue) && (l.alpha == m.alpha) && (l.depth == m.depth) && (l.stencil == m.stencil)

-- ours with the sizes of theirs: the first
abbrev pub ours_like : LogConfig → Option ℤ
ours_like l = find (is_like l) all_ids

abbrev pub paired : ℤ → ℤ → ConfigPair
paired theirs ours = record { ours = ours; theirs = theirs }

-- theirs is ours where none in front of it has its sizes
abbrev pub pair_of : List LogConfig → LogConfig → Option ConfigPair
pair_of before l = if list_any (are_alike l) before then None else option_map (paired l.id) (ours_like l)

abbrev pub with_pair : Option ConfigPair → List ConfigPair → List ConfigPair
with_pair None pairs = pairs
with_pair (Some p) pairs = pairs ++ p ∷ []

abbrev pub pairs_behind : List LogConfig → List ConfigPair → List LogConfig → List ConfigPair
pairs_behind before pairs [] = pairs
pairs_behind before pairs (l ∷ ls) = pairs_behind (before ++ l ∷ []) (with_pair (pair_of before l) pairs) ls

-- each of ours for itself
abbrev pub same_pairs : List ConfigPair
same_pairs = map (λ z. paired z z) all_ids

-- which configs are which; where a log names none, theirs are ours
unfoldable pub config_pairs : List LogConfig → List ConfigPair
config_pairs ls = if length ls == 0 then same_pairs else pairs_behind [] [] ls

abbrev pub has_theirs : ℤ → ConfigPair → Bool
has_theirs theirs p = int_eq p.theirs theirs

abbrev pub has_ours : ℤ → ConfigPair → Bool
has_ours ours p = int_eq p.ours ours

-- our config that one of theirs is
unfoldable pub our_config : List ConfigPair → ℤ → Option ℤ
our_config pairs theirs = option_map (λ p. p.ours) (find (has_theirs theirs) pairs)

-- their config that is one of ours
unfoldable pub their_config : List ConfigPair → ℤ → Option ℤ
their_config pairs ours = option_map (λ p. p.theirs) (find (has_ours ours) pairs)

-- ours among theirs, without what is none of ours, and theirs among ours
abbrev pub our_configs : List ConfigPair → List ℤ → List ℤ
our_configs pairs theirs = filter_map (our_config pairs) theirs

abbrev pub their_configs : List ConfigPair → List ℤ → List ℤ
their_configs pairs ours = filter_map (their_config pairs) ours

-- which configs are which, and whether the log names any
pub record ConfigsValue : Type 0 where
  pub named : Bool
  pub pairs : List ConfigPair

abbrev pub configs_of : List LogConfig → ConfigsValue
configs_of ls = record { named = not (length ls == 0); pairs = config_pairs ls }

-- ours are numbers that a call may have
abbrev pub AreOurs : List ConfigPair → Type 0
AreOurs pairs = All (λ p. IsNumber p.ours) pairs

-- ---- EGL_CONFIG_ID in the list of eglChooseConfig asks for a config by its number; EGL_DONT_CARE asks for none.
abbrev pub asks_for_config : ℤ → ℤ → Bool
asks_for_config attribute value = int_eq attribute (pos EGL_CONFIG_ID) && not (int_eq value (negsuc 0))

abbrev pub our_value : List ConfigPair → ℤ → ℤ → Option ℤ
our_value pairs attribute value = if asks_for_config attribute value then our_config pairs value else Some value

-- a value that is none of ours leaves no list
abbrev pub with_value : ℤ → Option ℤ → Option (List ℤ) → Option (List ℤ)
with_value attribute None rest = None
with_value attribute (Some value) None = None
with_value attribute (Some value) (Some rest) = Some (attribute ∷ value ∷ rest)

-- an attribute list in our numbers
unfoldable pub our_list : List ConfigPair → List ℤ → Option (List ℤ)
our_list pairs [] = Some []
our_list pairs (attribute ∷ []) = Some (attribute ∷ [])
our_list pairs (attribute ∷ value ∷ rest) = with_value attribute (our_value pairs attribute value) (our_list pairs rest)
