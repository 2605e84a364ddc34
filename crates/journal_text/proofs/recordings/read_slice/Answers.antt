use Rattle.std.proofs.Common.{◌≡◌, true, sym, subst, List, rules}
use Rattle.std.specs.Prelude.{Result, codes}
use Rattle.std.specs.Str.{bytes_eq}
use Rattle.trace_reader.specs.Reading.{FailsWith}
use Rattle.trace_reader.specs.declared.traces.Defect.{Defect}
use Rattle.journal_text.specs.Readings.{recorded}
use Rattle.journal_text.specs.declared.recordings.RecordedLine.{RecordedLine}
use Rattle.journal_text.proofs.ReadLaws.{behind_first}
use Rattle.journal_text.proofs.recordings.read_slice.Goals as goal

pub returns-in-Err : goal.returns-in-Err
unfolding recorded
returns-in-Err c =
    let P : Result (List RecordedLine) Defect → Type 0 = λ r. FailsWith c.in-Err.error r in
    let same : bytes_eq c.in-Some.first.now (codes "recording") ≡ true = search rules in
    subst P (sym (behind_first c.args.first_line c.in-Some.first.now c.in-Some.rest.now c.args.bytes.now c.in-Some.ensures.parts same)) c.in-Err.ensures
