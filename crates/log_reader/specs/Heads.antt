-- What stands in front of a log's calls: its first line, and lines as a trace has them, and then the driver's configs.
use Rattle.std.specs.Prelude.{ℕ, Bool, ◌&&◌, ◌==◌, List, [], ◌∷◌, ◌++◌, length, codes, if◌then◌else◌, Option, Result, Ok, Err, None, Some}
use Rattle.std.specs.Option.{option_map}
use Rattle.std.specs.Str.{bytes_eq}
use Rattle.trace_reader.specs.declared.traces.Reason.{Reason}
use Rattle.trace_reader.specs.declared.traces.Reason.TheVariants.{Header}
use Rattle.trace_reader.specs.Words.{words, word_at, is_skipped}
use Rattle.trace_reader.specs.Header.{thread_count}
use Rattle.trace_reader.specs.Heads.{HeadValue, bare}
use Rattle.trace_reader.specs.Heads as trace
use Rattle.log_reader.specs.declared.configs.LogConfig.{LogConfig}
use Rattle.log_reader.specs.Configs.{config_line}

-- egl-log 1 THREADS
abbrev pub is_header : List (List ℕ) → Bool
is_header ws = (length ws == 3) && bytes_eq (word_at ws 0) (codes "egl-log") && bytes_eq (word_at ws 1) (codes "1")

-- the number of threads that the header of these words gives
unfoldable pub header_of : List (List ℕ) → Result ℕ Reason
header_of ws = if is_header ws then thread_count (word_at ws 2) else Err Header

-- what was read in front of the calls: that of a trace, and the configs in the order of their lines
pub record LogHead : Type 0 where
  pub head : HeadValue
  pub configs : List LogConfig

abbrev pub begun : ℕ → LogHead
begun threads = record { head = bare threads; configs = [] }

abbrev pub with_head : LogHead → Result HeadValue Reason → Result LogHead Reason
with_head h (Ok head) = Ok (record h { head = head })
with_head h (Err r) = Err r

abbrev pub with_config : LogHead → Result LogConfig Reason → Result LogHead Reason
with_config h (Ok c) = Ok (record h { configs = h.configs ++ c ∷ [] })
with_config h (Err r) = Err r

-- what the words of a line add, or its first defect; nothing where the line is none of these. Configs come behind all others
unfoldable pub head_said : LogHead → List (List ℕ) → Option (Result LogHead Reason)
head_said h ws =
    if bytes_eq (word_at ws 0) (codes "config") then Some (with_config h (config_line h.configs ws))
    else if length h.configs == 0 then option_map (with_head h) (trace.head_said h.head ws)
    else None

-- the same of a line
unfoldable pub head_line : LogHead → List ℕ → Option (Result LogHead Reason)
head_line h line = if is_skipped line then Some (Ok h) else head_said h (words line)
