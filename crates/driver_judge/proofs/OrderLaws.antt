-- The lines of a log are of its threads.
use Rattle.std.proofs.Common.{ℕ, ◌+◌, ◌<◌, List, [], ◌∷◌}
use Rattle.std.specs.Prelude.{All}
use Rattle.std.proofs.lemmas.List.Elements.{All-cons, All-nil}
use Rattle.surface_store.specs.declared.windows.WindowSpec.{WindowSpec}
use Rattle.log_reader.specs.Logs.{LogValue}
use Rattle.log_reader.specs.Order.{AreInOrder, IsLog}
use Rattle.log_reader.specs.declared.items.Item.{Item}
use Rattle.log_reader.specs.declared.items.Item.TheVariants.{Call, Front}
use Rattle.driver_judge.specs.Judging.{thread_of}
use Rattle.trace_reader.specs.Order.{more_variables}

in_order : (threads : ℕ) (windows : List WindowSpec) (n v : ℕ) (items : List Item) → AreInOrder threads windows n v items → All (λ i. thread_of i < threads) items
in_order threads windows n v [] h = All-nil (λ i. thread_of i < threads)
in_order threads windows n v (Call c ∷ more) h = All-cons (λ i. thread_of i < threads) (Call c) more h.1 (in_order threads windows (c.line.number + 1) (more_variables v c.line.assigns) more h.3)
in_order threads windows n v (Front s ∷ more) h = All-cons (λ i. thread_of i < threads) (Front s) more h.1 (in_order threads windows (s.number + 1) v more h.3)

pub threads_of : (l : LogValue) → IsLog l → All (λ i. thread_of i < l.threads) l.items
threads_of l h = in_order l.threads l.windows 2 0 l.items h.items
