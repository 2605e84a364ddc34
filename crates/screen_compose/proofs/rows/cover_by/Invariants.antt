use Rattle.std.proofs.Common.{◌≡◌, ℕ, ◌<◌, drop, length, get_or}
use Rattle.pixel_rows.specs.Images.{no_pixel}
use Rattle.screen_compose.specs.Composing.{covered_by}
use Rattle.screen_compose.proofs.rows.cover_by.Given as goal

abbrev pub invariant-each : goal.invariant-each
invariant-each l = record {
  long : length l.row ≡ length l.fn.row;
  pixels : (x : ℕ) → x < length l.fn.row → covered_by (drop l.layer-index l.layers) x l.y (get_or l.row x no_pixel) ≡ covered_by l.layers x l.y (get_or l.fn.row x no_pixel);
}
