use Rattle.std.proofs.Common.{◌≡◌, ◌<◌, ◌+◌, ◌-◌, ◌∙◌, List, append_assoc, arith, ap, sym, subst, suc, length}
use Rattle.std.specs.Prelude.{codes}
use Rattle.egl_calls.specs.declared.entries.Entry.{Entry}
use Rattle.trace_reader.specs.declared.traces.Line.{Line}
use Rattle.trace_reader.specs.Traces.{TraceValue}
use Rattle.trace_model.specs.Recording.{entry_line}
use Rattle.trace_model.specs.Serial.{most_turns, next_entry}
use Rattle.trace_session.specs.Runs.{StandBehind}
use Rattle.egl_cli.proofs.TurnLaws.{writes_none, writes_more, none_more, none_left, whole_text}
use Rattle.egl_cli.proofs.turns.put_turns.Goals as goal

pub each-init : goal.each-init
each-init c = record {
  trace = c.requires.trace;
  made = c.requires.made;
  writes = writes_none c.args.trace.now c.args.session.now c.args.driver.now.state _ c.args.out.now c.requires.behind (omega arith);
}

pub each-preserved : goal.each-preserved
each-preserved c =
    let t = c.args.trace.now in
    let w = c.each.invariant.writes in
    let lines = ap (λ (ls : List Line). length ls) c.lines.ensures.lines in
    let below : c.each._turn < most_turns t = omega (arith, c.each-test.true, lines) in
    let one : most_turns t - c.each._turn ≡ suc (most_turns t - (c.each._turn + 1)) = omega (arith, below) in
    let next = sym c.in-Some.is ∙ c.in_ok-entry.ensures.entry w.journal w.behind ∙ ap (λ (x : TraceValue). next_entry x w.journal) c.each.invariant.trace in
    record {
      trace = c.next_turn.ensures.trace ∙ c.each.invariant.trace;
      made = rw (c.next_turn.ensures.trace, c.next_turn.ensures.made) c.each.invariant.made;
      writes = writes_more t _ _ _ _ _ w _ _ _ _ c.in-Some.entry one next (rw c.in-Some.is at (c.in_ok-entry.ensures.behind w.journal w.behind)) (c.in_ok-put_entry_line.ensures ∙ append_assoc c.each.out (entry_line c.in-Some.entry) (codes "\n"));
    }

pub returns-in_default-clause-out : goal.returns-in_default-clause-out
returns-in_default-clause-out c =
    let t = c.args.trace.now in
    let w = c.each.invariant.writes in
    let all = none_more t _ _ _ _ _ w _ c.in_default.is (c.in_ok-entry.ensures.entry w.journal w.behind ∙ ap (λ (x : TraceValue). next_entry x w.journal) c.each.invariant.trace) in
    whole_text t _ _ _ _ _ w all

pub returns-in_default-clause-behind : goal.returns-in_default-clause-behind
returns-in_default-clause-behind c =
    let t = c.args.trace.now in
    let w = c.each.invariant.writes in
    let all = none_more t _ _ _ _ _ w _ c.in_default.is (c.in_ok-entry.ensures.entry w.journal w.behind ∙ ap (λ (x : TraceValue). next_entry x w.journal) c.each.invariant.trace) in
    let P : List Entry → Type 0 = λ es. StandBehind es c.next_turn.new.driver.state c.next_turn.new.session in
    subst P all (rw c.in_default.is at (c.in_ok-entry.ensures.behind w.journal w.behind))

pub returns-clause-out : goal.returns-clause-out
returns-clause-out c =
    let t = c.args.trace.now in
    let w = c.each.invariant.writes in
    let lines = ap (λ (ls : List Line). length ls) c.lines.ensures.lines in
    let over : most_turns t - c.each._turn ≡ 0 = omega (arith, c.each-test.false, lines) in
    whole_text t _ _ _ _ _ w (none_left t _ _ _ _ _ w over)

pub returns-clause-behind : goal.returns-clause-behind
returns-clause-behind c =
    let t = c.args.trace.now in
    let w = c.each.invariant.writes in
    let lines = ap (λ (ls : List Line). length ls) c.lines.ensures.lines in
    let over : most_turns t - c.each._turn ≡ 0 = omega (arith, c.each-test.false, lines) in
    let P : List Entry → Type 0 = λ es. StandBehind es c.each.driver.state c.each.session in
    subst P (none_left t _ _ _ _ _ w over) w.behind
