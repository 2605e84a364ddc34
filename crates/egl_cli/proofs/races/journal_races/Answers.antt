use Rattle.std.proofs.Common.{◌≡◌, ◌∙◌, List, ap}
use Rattle.std.proofs.lemmas.Result.{IfOk-weaker}
use Rattle.egl_calls.specs.declared.entries.Entry.{Entry}
use Rattle.egl_cli.specs.declared.answers.Answer.{Answer}
use Rattle.egl_cli.specs.Answers.{with_stalled, IsJournalRaces}
use Rattle.egl_cli.specs.RaceLines.{races_text}
use Rattle.egl_cli.proofs.RaceLaws.{told_races}
use Rattle.egl_cli.proofs.races.journal_races.Goals as goal

pub returns : goal.returns
returns c =
    let t = c.args.trace.now in
    let journal = c.args.run.now.journal.entries in
    let pairs = c.in_ok-pairs.pairs in
    let told = c.in_ok-text.text in
    let stalled = c.args.stalled in
    let text = c.in_ok-text.ensures ∙ ap (λ (es : List Entry). races_text es c.as_slice-2.result.now) c.as_slice.ensures ∙ ap (races_text journal) c.as_slice-2.ensures in
    let P : Answer → Type 0 = λ a. a ≡ with_stalled told t journal stalled in
    let Q : Answer → Type 0 = IsJournalRaces t journal stalled in
    IfOk-weaker c.with_stalled.result P Q (λ a p. told_races t journal pairs told stalled a c.in_ok-pairs.ensures text p) c.with_stalled.ensures
