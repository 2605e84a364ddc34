use Rattle.std.proofs.Common.{◌+◌, ◌-◌, ◌≤◌}
use Rattle.std.specs.Prelude.{vec_len, vec_capacity}
use Rattle.screen_compose.specs.Ends.{IsTakeEnd}
use Rattle.driver_check.proofs.screens_at_once.records.Given as goal

abbrev pub invariant-recording : goal.invariant-recording
invariant-recording g l = IsTakeEnd l.queue l.take_end × (vec_len l.taken + (40 - l._frame) ≤ vec_capacity l.taken)
