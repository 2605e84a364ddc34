use Rattle.std.proofs.Common.{true, false}
use Rattle.std.proofs.lemmas.Result.{IfOk-weaker}
use Rattle.egl_cli.specs.declared.answers.Answer.{Answer}
use Rattle.egl_cli.specs.Answers.{IsJournalRaces, IsRacesAnswer}
use Rattle.egl_cli.proofs.ComposeLaws.{threads_below}
use Rattle.egl_cli.proofs.RaceLaws.{races_ended, races_stalled}
use Rattle.egl_cli.proofs.races.run_races.Goals as goal

pub journal_races-requires : goal.journal_races-requires
journal_races-requires c =
    threads_below c.args.trace.now c.in-Ok.run'.journal.entries c.in_order.ensures c.in-Ok.ensures.complete.0.journal

pub journal_races-requires-in-Err-Stalled : goal.journal_races-requires-in-Err-Stalled
journal_races-requires-in-Err-Stalled c =
    let stalled = rw c.in-Err-Stalled.field-0-is at c.in-Err-Stalled.ensures.stalled in
    threads_below c.args.trace.now c.in-Err-Stalled.run'.journal.entries c.in_order.ensures stalled.0.journal

pub returns-in-Ok : goal.returns-in-Ok
returns-in-Ok c =
    let t = c.args.trace.now in
    let run = c.in-Ok.run' in
    let complete = c.in-Ok.ensures.complete in
    let P : Answer → Type 0 = IsJournalRaces t run.journal.entries false in
    let Q : Answer → Type 0 = IsRacesAnswer t in
    IfOk-weaker c.journal_races.result P Q (λ a p. races_ended t run.journal.entries run.driver.state complete.0 a complete.1 p) c.journal_races.ensures

pub returns-in-Err-Stalled : goal.returns-in-Err-Stalled
returns-in-Err-Stalled c =
    let t = c.args.trace.now in
    let run = c.in-Err-Stalled.run' in
    let stalled = rw c.in-Err-Stalled.field-0-is at c.in-Err-Stalled.ensures.stalled in
    let P : Answer → Type 0 = IsJournalRaces t run.journal.entries true in
    let Q : Answer → Type 0 = IsRacesAnswer t in
    IfOk-weaker c.journal_races-in-Err-Stalled.result P Q (λ a p. races_stalled t run.journal.entries run.driver.state stalled.0 a stalled.1 p) c.journal_races-in-Err-Stalled.ensures
