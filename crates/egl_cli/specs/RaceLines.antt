-- The text of the races of a run.
use Rattle.std.specs.Prelude.{ℕ, List, [], ◌++◌, length, slice_get, codes, decimal, Option, None, Some}
use Rattle.std.specs.List.{flat_map}
use Rattle.egl_calls.specs.declared.entries.Entry.{Entry}
use Rattle.race_report.specs.declared.reports.Pair.{Pair}
use Rattle.egl_cli.specs.Places.{place_words}

-- where an entry stands; each pair of races has two
abbrev pub entry_place : Option Entry → List ℕ
entry_place None = []
entry_place (Some e) = place_words e.thread e.mark

-- race THREAD LINE THREAD LINE
unfoldable pub race_line : List Entry → Pair → List ℕ
race_line journal p = codes "race " ++ entry_place (slice_get journal p.first) ++ codes " " ++ entry_place (slice_get journal p.second) ++ codes "\n"

-- races N, and a line for each
unfoldable pub races_text : List Entry → List Pair → List ℕ
races_text journal pairs = codes "races " ++ decimal (length pairs) ++ codes "\n" ++ flat_map (race_line journal) pairs ++ codes "end\n"
