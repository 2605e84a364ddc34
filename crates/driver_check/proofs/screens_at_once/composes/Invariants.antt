use Rattle.std.proofs.Common.{◌≡◌}
use Rattle.shared_driver.specs.Tokens.{IsOf}
use Rattle.screen_compose.specs.Ends.{IsPutEnd}
use Rattle.driver_check.proofs.screens_at_once.composes.Given as goal

abbrev pub invariant-composing : goal.invariant-composing
invariant-composing g l = IsOf l.shared l.composer × IsPutEnd l.queue l.put_end × (l.screen.placed ≡ l.list)
