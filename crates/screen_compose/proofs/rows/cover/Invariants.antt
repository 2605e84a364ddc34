use Rattle.std.proofs.Common.{◌≡◌, ℕ, ◌<◌, ◌≤◌, length, get_or}
use Rattle.pixel_rows.specs.Images.{no_pixel}
use Rattle.screen_compose.specs.Composing.{pixel_in, under}
use Rattle.screen_compose.proofs.rows.cover.Given as goal

abbrev pub invariant-each : goal.invariant-each
invariant-each l = record {
  long : length l.pixels.items ≡ length l.fn.pixels.items;
  done : (j : ℕ) → j < l.x → get_or l.pixels.items j no_pixel ≡ under (pixel_in l.start l.from j) (get_or l.fn.pixels.items j no_pixel);
  left : (j : ℕ) → l.x ≤ j → get_or l.pixels.items j no_pixel ≡ get_or l.fn.pixels.items j no_pixel;
}
