use Rattle.json_lines.proofs.LineLaws.{ended}
use Rattle.json_lines.proofs.lines.line_of.Goals as goal

pub returns-in-Ok-push : goal.returns-in-Ok-push
returns-in-Ok-push c =
    let value = c.into_value-value.ensures in
    ended c.in-Ok.bytes.items _ _ _ value.value value.bare c.in-Ok.ensures.text c.in-Ok-push.ensures.items
