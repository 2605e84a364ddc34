use Rattle.std.proofs.Common.{◌≡◌, ◌+◌, ◌≤◌, length}
use Rattle.std.specs.Prelude.{slice_get}
use Rattle.std.specs.Str.Lines.{lines}
use Rattle.egl_cli.specs.BodyLines.{body_numbers, line_past}
use Rattle.egl_cli.proofs.body_lines.line_past.Given as goal

abbrev pub invariant-each : goal.invariant-each
invariant-each l = record {
  past : slice_get (body_numbers l.number (lines l.rest)) l.left ≡ line_past l.most l.bytes;
  within : l.number + length l.rest ≤ length l.bytes + 2;
}

abbrev pub decreases-each : goal.decreases-each
decreases-each l = length l.rest
