use Rattle.std.proofs.Common.{◌≡◌, drop, map}
use Rattle.refusal_rows.specs.Rows.{first_error, row_of}
use Rattle.refusal_rows.proofs.rows.OptionVerdict.judge.Given as goal

-- the rules that are left answer what all answer
abbrev pub invariant-rules : goal.invariant-rules
invariant-rules g l = first_error (map (row_of (g.J.Judge.meets l.judge)) (drop l.condition-index l.rules)) ≡ first_error (map (row_of (g.J.Judge.meets l.judge)) l.rules)
