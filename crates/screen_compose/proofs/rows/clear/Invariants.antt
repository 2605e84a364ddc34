use Rattle.std.proofs.Common.{◌≡◌, ℕ, ◌<◌, length, get_or}
use Rattle.pixel_rows.specs.Images.{no_pixel}
use Rattle.screen_compose.specs.Composing.{black}
use Rattle.screen_compose.proofs.rows.clear.Given as goal

abbrev pub invariant-each : goal.invariant-each
invariant-each l = (length l.pixels.items ≡ length l.fn.pixels.items) × ((j : ℕ) → j < l.x → get_or l.pixels.items j no_pixel ≡ black)
