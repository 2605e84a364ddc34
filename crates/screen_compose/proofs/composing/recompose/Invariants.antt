use Rattle.std.proofs.Common.{◌≡◌, ℕ, ◌+◌, ◌≤◌, length}
use Rattle.std.specs.List.{count_by, range_with_len}
use Rattle.screen_compose.specs.Changes.{is_changed}
use Rattle.screen_compose.specs.Composing.{composed}
use Rattle.screen_compose.proofs.Changing.{Recomposed}
use Rattle.screen_compose.proofs.composing.recompose.Given as goal

abbrev pub invariant-each : goal.invariant-each
invariant-each g l = record {
  long : length l.rows.items ≡ length l.fn.rows.items;
  rows : (w h : ℕ) → l.fn.rows.items ≡ composed l.shown.layers w h → Recomposed l.fronts.layers w l.fn.rows.items l.rows.items l.y;
  count : l.count ≡ count_by (is_changed l.shown.layers l.fronts.layers) (range_with_len 0 l.y);
  steps : l.steps ≡ l.fn.steps + l.count;
  few : l.count ≤ l.y;
}
