-- The configs of a driver: config ID R G B A DEPTH STENCIL.
use Rattle.std.specs.Prelude.{ℕ, Bool, not, ◌&&◌, ◌==◌, nat_lt, ℤ, pos, List, length, Option, Result, Ok, Err, None, Some}
use Rattle.std.specs.List.{list_any}
use Rattle.std.specs.Ordering.{int_eq}
use Rattle.trace_reader.specs.declared.traces.Reason.{Reason}
use Rattle.trace_reader.specs.declared.traces.Reason.TheVariants.{Window, Limit}
use Rattle.trace_reader.specs.Reasons.{◌>>=◌, or_reason, provided}
use Rattle.trace_reader.specs.Words.{word_at}
use Rattle.trace_reader.specs.Numerals.{is_numeral, numeral}
use Rattle.log_reader.specs.declared.configs.LogConfig.{LogConfig}
use Rattle.log_reader.specs.Numbers.{most_long}

-- how many configs a log may name
abbrev pub most_configs : ℕ
most_configs = 512

abbrev pub has_id : ℤ → LogConfig → Bool
has_id id c = int_eq c.id id

-- an id of up to 20 digits that none of the configs before has
abbrev pub fresh : List LogConfig → Option ℕ → Result ℤ Reason
fresh configs None = Err Window
fresh configs (Some n) = provided (not (list_any (has_id (pos n)) configs)) Window (Ok (pos n))

unfoldable pub id_of : List LogConfig → List ℕ → Result ℤ Reason
id_of configs w = fresh configs (numeral most_long w)

unfoldable pub size_of : List ℕ → Result ℕ Reason
size_of w = or_reason (numeral 4294967295 w) Limit

-- seven numbers behind the first word
abbrev pub has_config_form : List (List ℕ) → Bool
has_config_form ws =
    (length ws == 8) && is_numeral (word_at ws 1) && is_numeral (word_at ws 2) && is_numeral (word_at ws 3) && is_numeral (word_at ws 4)
    && is_numeral (word_at ws 5) && is_numeral (word_at ws 6) && is_numeral (word_at ws 7)

abbrev pub sized : List (List ℕ) → ℤ → Result LogConfig Reason
sized ws id = do
  red ← size_of (word_at ws 2)
  green ← size_of (word_at ws 3)
  blue ← size_of (word_at ws 4)
  alpha ← size_of (word_at ws 5)
  depth ← size_of (word_at ws 6)
  stencil ← size_of (word_at ws 7)
  Ok (record { id = id; red = red; green = green; blue = blue; alpha = alpha; depth = depth; stencil = stencil })

-- the config that a line of these words names behind others
unfoldable pub config_of : List LogConfig → List (List ℕ) → Result LogConfig Reason
config_of configs ws = provided (has_config_form ws) Window (id_of configs (word_at ws 1) >>= sized ws)

-- it isn't one too many
abbrev pub placed : List LogConfig → LogConfig → Result LogConfig Reason
placed configs c = provided (nat_lt (length configs) most_configs) Limit (Ok c)

unfoldable pub config_line : List LogConfig → List (List ℕ) → Result LogConfig Reason
config_line configs ws = config_of configs ws >>= placed configs
