-- The order that the items of each log have.
use Rattle.std.specs.Prelude.{◌≡◌, ℕ, ◌+◌, ◌<◌, ◌≤◌, true, List, [], ◌∷◌, length, is_some, Option, None, Some}
use Rattle.surface_store.specs.Windows.{windows_ok}
use Rattle.surface_store.specs.declared.windows.WindowSpec.{WindowSpec}
use Rattle.trace_reader.specs.Header.{most_threads}
use Rattle.trace_reader.specs.Heads.{area_of, most_area, most_video, window_with}
use Rattle.trace_reader.specs.Order.{IsLineAt, more_variables}
use Rattle.log_reader.specs.declared.items.Item.{Item}
use Rattle.log_reader.specs.declared.items.Item.TheVariants.{Call, Front}
use Rattle.log_reader.specs.declared.items.Cut.{Cut}
use Rattle.log_reader.specs.declared.steps.Next.{Next}
use Rattle.log_reader.specs.declared.steps.Next.TheVariants.{More, Pending}
use Rattle.log_reader.specs.Configs.{most_configs}
use Rattle.log_reader.specs.Items.{most_items}
use Rattle.log_reader.specs.Logs.{LogValue}

-- numbers rise, threads are those of the log, windows are declared, variables are numbered in the order of the lines that assign them, and each reference is to one that a line before assigns
abbrev pub AreInOrder : ℕ → List WindowSpec → ℕ → ℕ → List Item → Type 0
AreInOrder threads windows n v [] = Unit {0}
AreInOrder threads windows n v (Call c ∷ more) = (n ≤ c.line.number) × (c.line.thread < threads) × IsLineAt v c.line.number v c.line × AreInOrder threads windows (c.line.number + 1) (more_variables v c.line.assigns) more
AreInOrder threads windows n v (Front s ∷ more) = (n ≤ s.number) × (s.thread < threads) × (is_some (window_with windows s.window) ≡ true) × AreInOrder threads windows (s.number + 1) v more

-- the least number that may follow items, and how many variables there are behind them
abbrev pub number_after_items : ℕ → List Item → ℕ
number_after_items n [] = n
number_after_items n (Call c ∷ more) = number_after_items (c.line.number + 1) more
number_after_items n (Front s ∷ more) = number_after_items (s.number + 1) more

abbrev pub variables_after_items : ℕ → List Item → ℕ
variables_after_items v [] = v
variables_after_items v (Call c ∷ more) = variables_after_items (more_variables v c.line.assigns) more
variables_after_items v (Front s ∷ more) = variables_after_items v more

-- these items stand before a line with number n, and assign v variables
pub record AreBefore (threads : ℕ) (windows : List WindowSpec) (n v : ℕ) (items : List Item) : Type 0 where
  pub order : AreInOrder threads windows 2 0 items
  pub number : number_after_items 2 items ≤ n
  pub variables : variables_after_items 0 items ≡ v

-- the call that was under way is of a thread of the log
abbrev pub IsCutOf : ℕ → Option Cut → Type 0
IsCutOf threads None = Unit {0}
IsCutOf threads (Some c) = c.line.thread < threads

-- the same of the call that a line leads to
abbrev pub IsPendingOf : ℕ → Next → Type 0
IsPendingOf threads More = Unit {0}
IsPendingOf threads (Pending l) = l.thread < threads

-- what each log is
pub record IsLog (l : LogValue) : Type 0 where
  pub some : 0 < l.threads
  pub threads : l.threads ≤ most_threads
  pub video : l.video ≤ most_video
  pub windows : windows_ok l.windows ≡ true
  pub area : area_of l.windows ≤ most_area
  pub configs : length l.configs ≤ most_configs
  pub few : length l.items ≤ most_items
  pub items : AreInOrder l.threads l.windows 2 0 l.items
  pub cut : IsCutOf l.threads l.cut
