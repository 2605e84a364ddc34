use Rattle.std.proofs.Common.{◌≡◌, drop}
use Rattle.refusal_rows.specs.Rows.{first_error}
use Rattle.refusal_rows.proofs.rows.OptionVerdict.tell.Given as goal

-- the rows that are left answer what all answer
abbrev pub invariant-rows : goal.invariant-rows
invariant-rows g l = first_error (drop l.holds-index l.rows) ≡ first_error l.rows
