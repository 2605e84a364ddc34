use Rattle.std.proofs.Common.{◌++◌, ◌∙◌, List, ℕ, ap}
use Rattle.trace_reader.specs.Traces.{TraceValue}
use Rattle.trace_model.specs.Serial.{state_behind, serial}
use Rattle.trace_model.specs.Stalled.{is_stalled}
use Rattle.trace_model.specs.Recording.{recording}
use Rattle.egl_cli.specs.StalledLines.{stalled_lines}
use Rattle.egl_cli.proofs.StalledLaws.{run_ended, run_stalled}
use Rattle.egl_cli.proofs.answers.played_answer.Goals as goal

pub returns-then-stalled : goal.returns-then-stalled
returns-then-stalled c =
    let t = c.args.trace.now in
    let es = serial t in
    let same = c.in_ok-put_run.ensures.trace in
    let b = c.in_ok-put_run.ensures.behind in
    let text = c.in_ok-put_run.ensures.out ∙ ap (λ (x : List ℕ). x ++ recording t es) c.new-text.ensures in
    run_stalled t _ c.stalled.result _ (b.state ∙ ap (λ (x : TraceValue). state_behind x es) same) (c.stalled.ensures es b.knows ∙ ap (λ (x : TraceValue). is_stalled x es c.put_run.new.driver.state) same) c.if-stalled.true
    (c.in_ok-put_waiting.ensures es b.knows ∙ ap (λ (x : TraceValue). c.put_run.new.out ++ stalled_lines x es) same ∙ ap (λ (x : List ℕ). x ++ stalled_lines t es) text)

pub returns : goal.returns
returns c =
    let t = c.args.trace.now in
    let es = serial t in
    let same = c.in_ok-put_run.ensures.trace in
    let b = c.in_ok-put_run.ensures.behind in
    let text = c.in_ok-put_run.ensures.out ∙ ap (λ (x : List ℕ). x ++ recording t es) c.new-text.ensures in
    run_ended t _ c.stalled.result _ (b.state ∙ ap (λ (x : TraceValue). state_behind x es) same) (c.stalled.ensures es b.knows ∙ ap (λ (x : TraceValue). is_stalled x es c.put_run.new.driver.state) same) c.if-stalled.false text
