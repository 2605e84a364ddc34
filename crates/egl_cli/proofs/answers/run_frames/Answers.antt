use Rattle.std.proofs.Common.{◌≡◌, ◌∙◌, ap, true, false}
use Rattle.std.proofs.lemmas.Result.{IfOk-weaker}
use Rattle.egl_calls.specs.Journals.{JournalValue}
use Rattle.egl_cli.specs.declared.answers.Answer.{Answer}
use Rattle.egl_cli.specs.Answers.{journal_frames, run_frames}
use Rattle.egl_cli.proofs.ComposeLaws.{frames_ended, frames_stalled, threads_below}
use Rattle.egl_cli.proofs.answers.run_frames.Goals as goal

pub journal_frames-requires-clause-threads : goal.journal_frames-requires-clause-threads
journal_frames-requires-clause-threads c =
    threads_below c.args.trace.now c.journal_of.result.entries c.in_order.ensures (ap (λ (j : JournalValue). j.entries) c.journal_of.ensures ∙ c.in-Ok.ensures.complete.0.journal)

pub journal_frames-requires-in-Err-Stalled-clause-threads : goal.journal_frames-requires-in-Err-Stalled-clause-threads
journal_frames-requires-in-Err-Stalled-clause-threads c =
    let stalled = rw c.in-Err-Stalled.field-0-is at c.in-Err-Stalled.ensures.stalled in
    threads_below c.args.trace.now c.journal_of-in-Err-Stalled.result.entries c.in_order.ensures (ap (λ (j : JournalValue). j.entries) c.journal_of-in-Err-Stalled.ensures ∙ stalled.0.journal)

pub returns-in-Ok : goal.returns-in-Ok
returns-in-Ok c =
    let t = c.args.trace.now in
    let w = c.args.width in
    let h = c.args.height in
    let run = c.in-Ok.run' in
    let complete = c.in-Ok.ensures.complete in
    let P : Answer → Type 0 = λ a. a ≡ journal_frames w h t c.journal_of.result.entries false in
    let Q : Answer → Type 0 = λ a. a ≡ run_frames w h t in
    IfOk-weaker c.journal_frames.result P Q (λ a p. p ∙ ap (λ (j : JournalValue). journal_frames w h t j.entries false) c.journal_of.ensures ∙ frames_ended w h t run.journal.entries run.driver.state complete.0 complete.1) c.journal_frames.ensures

pub returns-in-Err-Stalled : goal.returns-in-Err-Stalled
returns-in-Err-Stalled c =
    let t = c.args.trace.now in
    let w = c.args.width in
    let h = c.args.height in
    let run = c.in-Err-Stalled.run' in
    let stalled = rw c.in-Err-Stalled.field-0-is at c.in-Err-Stalled.ensures.stalled in
    let P : Answer → Type 0 = λ a. a ≡ journal_frames w h t c.journal_of-in-Err-Stalled.result.entries true in
    let Q : Answer → Type 0 = λ a. a ≡ run_frames w h t in
    IfOk-weaker c.journal_frames-in-Err-Stalled.result P Q (λ a p. p ∙ ap (λ (j : JournalValue). journal_frames w h t j.entries true) c.journal_of-in-Err-Stalled.ensures ∙ frames_stalled w h t run.journal.entries run.driver.state stalled.0 stalled.1) c.journal_frames-in-Err-Stalled.ensures
