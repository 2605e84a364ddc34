use Rattle.race_report.proofs.WriteLaws.{written_by}
use Rattle.race_report.proofs.laws.what_a_call_changes_is_written.Goals as goal

pub returns : goal.returns
returns c = written_by
