use Rattle.std.proofs.Common.{◌≡◌, take}
use Rattle.refusal_rows.specs.Rows.{held}
use Rattle.refusal_rows.proofs.rows.HoldingVerdict.tell.Given as goal

-- what was read tells of the rows so far
abbrev pub invariant-rows : goal.invariant-rows
invariant-rows g l = l.errors ≡ held 16 (take l.place l.rows)
