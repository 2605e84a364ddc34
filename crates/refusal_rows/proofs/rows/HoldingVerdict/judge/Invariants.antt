use Rattle.std.proofs.Common.{◌≡◌, take, map}
use Rattle.refusal_rows.specs.Rows.{held, row_of}
use Rattle.refusal_rows.proofs.rows.HoldingVerdict.judge.Given as goal

-- what was tried tells of the rules so far
abbrev pub invariant-rules : goal.invariant-rules
invariant-rules g l = l.errors ≡ held 16 (take l.place (map (row_of (g.J.Judge.meets l.judge)) l.rules))
