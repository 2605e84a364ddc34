use Rattle.std.proofs.Common.{◌≡◌, List, arith, refl, sym, ap, ◌∙◌, subst}
use Rattle.egl_calls.specs.Journals.{are_halted}
use Rattle.egl_calls.specs.declared.entries.Entry.{Entry}
use Rattle.trace_reader.specs.Traces.{TraceValue}
use Rattle.shared_driver.specs.Cores.{has_halted}
use Rattle.shared_driver.specs.Tokens.{Token, token_of}
use Rattle.play_threads.specs.Picks.{HasLearnt}
use Rattle.play_threads.proofs.RunLaws.{may_look_behind, ran_out, run_calm, run_learnt, run_line, run_over, run_plays, run_thread, run_told, stands_by}
use Rattle.play_threads.proofs.WorkLaws.{keeps_lone, none_lone, none_of, plays_without}
use Rattle.play_threads.proofs.thread_work.play_lines.Goals as goal

pub returns-in_err-picker-clause-plays : goal.returns-in_err-picker-clause-plays
returns-in_err-picker-clause-plays g c = let u : Token = token_of c.args.thread.now in plays_without c.args.trace.now u.number u.seen (none_of u.number u.seen u.tail c.requires.mine)

pub returns-in_err-picker-clause-calm : goal.returns-in_err-picker-clause-calm
unfolding has_halted
returns-in_err-picker-clause-calm g c = ap are_halted c.requires.mine

pub returns-in_err-picker-clause-lone : goal.returns-in_err-picker-clause-lone
returns-in_err-picker-clause-lone g c = keeps_lone c.args.trace.now (token_of c.args.thread.now) c.a_token_keeps_its_own_calls.ensures c.requires.mine

pub turns-init : goal.turns-init
turns-init g c =
    let u : Token = token_of c.args.thread.now in
    record {
      owns = c.requires.owns;
      same = (refl, refl);
      plays = plays_without c.args.trace.now u.number u.seen (none_of u.number u.seen u.tail c.requires.mine);
      lone = keeps_lone c.args.trace.now u c.a_token_keeps_its_own_calls.ensures c.requires.mine;
      calm = ap are_halted c.requires.mine;
      thread = c.in_ok-picker.ensures.thread ∙ c.number-number.ensures;
      trace = c.in_ok-picker.ensures.trace;
      told = c.in_ok-picker.ensures.told;
      learnt = let P : List Entry → Type 0 = λ own. HasLearnt c.in_ok-picker.picker own u.seen in subst P (sym c.requires.mine) (c.in_ok-picker.ensures.learnt u.seen);
    }

pub returns-in_err-play_lone-clause-calm : goal.returns-in_err-play_lone-clause-calm
unfolding has_halted
returns-in_err-play_lone-clause-calm g c = c.play_lone.ensures.calm c.turns.invariant.calm

pub call_run-outcome-requires-clause-owns : goal.call_run-outcome-requires-clause-owns
call_run-outcome-requires-clause-owns g c = c.play_lone.ensures.owns c.args.shared.now c.turns.invariant.owns

pub call_run-outcome-requires-clause-may : goal.call_run-outcome-requires-clause-may
call_run-outcome-requires-clause-may g c k b a es d rounds seen =
    let h = c.turns.invariant in
    let t = c.args.trace.now in
    let w : Token = token_of c.turns.thread in
    let u : Token = token_of c.play_lone.new.thread in
    let p = c.play_lone.new.picker in
    let n = (token_of c.args.thread.now).number in
    let l = c.play_lone.ensures in
    let s = stands_by t n w u c.turns.picker p h.same.0 h.plays h.lone h.calm h.thread h.trace h.told l.same l.picker l.told l.lone l.calm c.in_ok-play_lone.ensures.learnt in
    may_look_behind t c.in_order.ensures _ c.requires.opening n c.requires.number k u b p a s rounds es d seen

pub returns-in_err-picked-clause-plays : goal.returns-in_err-picked-clause-plays
returns-in_err-picked-clause-plays g c =
    let h = c.turns.invariant in
    let t = c.args.trace.now in
    let w : Token = token_of c.turns.thread in
    let u : Token = token_of c.play_lone.new.thread in
    let v : Token = token_of c.call_run-outcome.new.thread in
    let p = c.play_lone.new.picker in
    let n = (token_of c.args.thread.now).number in
    let l = c.play_lone.ensures in
    let s = stands_by t n w u c.turns.picker p h.same.0 h.plays h.lone h.calm h.thread h.trace h.told l.same l.picker l.told l.lone l.calm c.in_ok-play_lone.ensures.learnt in
    let e = c.in_err-picked.ensures.err in
    (ran_out t c.in_order.ensures _ c.requires.opening n c.requires.number e.0 u e.2 v p e.3 s e.4 e.5 e.6 c.what_a_token_has_seen_is_legal.ensures).0

pub returns-in_err-picked-clause-lone : goal.returns-in_err-picked-clause-lone
returns-in_err-picked-clause-lone g c =
    let v : Token = token_of c.call_run-outcome.new.thread in
    none_lone c.args.trace.now (token_of c.args.thread.now).number v c.in_err-picked.ensures.err.5.3

pub returns-in_err-picked-clause-calm : goal.returns-in_err-picked-clause-calm
unfolding has_halted
returns-in_err-picked-clause-calm g c =
    let h = c.turns.invariant in
    let t = c.args.trace.now in
    let w : Token = token_of c.turns.thread in
    let u : Token = token_of c.play_lone.new.thread in
    let v : Token = token_of c.call_run-outcome.new.thread in
    let p = c.play_lone.new.picker in
    let n = (token_of c.args.thread.now).number in
    let l = c.play_lone.ensures in
    let s = stands_by t n w u c.turns.picker p h.same.0 h.plays h.lone h.calm h.thread h.trace h.told l.same l.picker l.told l.lone l.calm c.in_ok-play_lone.ensures.learnt in
    let e = c.in_err-picked.ensures.err in
    (ran_out t c.in_order.ensures _ c.requires.opening n c.requires.number e.0 u e.2 v p e.3 s e.4 e.5 e.6 c.what_a_token_has_seen_is_legal.ensures).1

pub learn_own-requires-clause-below : goal.learn_own-requires-clause-below
learn_own-requires-clause-below g c =
    let h = c.turns.invariant in
    let t = c.args.trace.now in
    let w : Token = token_of c.turns.thread in
    let u : Token = token_of c.play_lone.new.thread in
    let v : Token = token_of c.call_run-outcome.new.thread in
    let p = c.play_lone.new.picker in
    let q = c.call_run-outcome.new.picker in
    let n = (token_of c.args.thread.now).number in
    let l = c.play_lone.ensures in
    let s = stands_by t n w u c.turns.picker p h.same.0 h.plays h.lone h.calm h.thread h.trace h.told l.same l.picker l.told l.lone l.calm c.in_ok-play_lone.ensures.learnt in
    let e = c.in_ok-picked.ensures.ok in
    let now = run_thread t c.in_order.ensures _ c.requires.opening n c.requires.number e.0 u e.2 v p e.3 q s e.7 c.in_ok-picked.picked (e.4, e.5, e.6, e.8, e.9, e.10) in
    let many : q.session.trace.threads ≡ t.threads = ap (λ (x : TraceValue). x.threads) now.1 in
    omega (arith, now.0, many, c.requires.number)

pub learn_own-requires-clause-line : goal.learn_own-requires-clause-line
learn_own-requires-clause-line g c =
    let h = c.turns.invariant in
    let t = c.args.trace.now in
    let w : Token = token_of c.turns.thread in
    let u : Token = token_of c.play_lone.new.thread in
    let v : Token = token_of c.call_run-outcome.new.thread in
    let p = c.play_lone.new.picker in
    let q = c.call_run-outcome.new.picker in
    let n = (token_of c.args.thread.now).number in
    let l = c.play_lone.ensures in
    let s = stands_by t n w u c.turns.picker p h.same.0 h.plays h.lone h.calm h.thread h.trace h.told l.same l.picker l.told l.lone l.calm c.in_ok-play_lone.ensures.learnt in
    let e = c.in_ok-picked.ensures.ok in
    run_line t c.in_order.ensures _ c.requires.opening n c.requires.number e.0 u e.2 v p e.3 q s e.7 c.in_ok-picked.picked (e.4, e.5, e.6, e.8, e.9, e.10) c.in-Replied.reply c.in-Replied.is

pub turns-preserved-in-Continue-branch-4 : goal.turns-preserved-in-Continue-branch-4
turns-preserved-in-Continue-branch-4 g c =
    let h = c.turns.invariant in
    let t = c.args.trace.now in
    let w : Token = token_of c.turns.thread in
    let u : Token = token_of c.play_lone.new.thread in
    let v : Token = token_of c.call_run-outcome.new.thread in
    let p = c.play_lone.new.picker in
    let q = c.call_run-outcome.new.picker in
    let n = (token_of c.args.thread.now).number in
    let l = c.play_lone.ensures in
    let s = stands_by t n w u c.turns.picker p h.same.0 h.plays h.lone h.calm h.thread h.trace h.told l.same l.picker l.told l.lone l.calm c.in_ok-play_lone.ensures.learnt in
    let e = c.in_ok-picked.ensures.ok in
    let now = run_thread t c.in_order.ensures _ c.requires.opening n c.requires.number e.0 u e.2 v p e.3 q s e.7 c.in_ok-picked.picked (e.4, e.5, e.6, e.8, e.9, e.10) in
    record {
      owns = c.call_run-outcome.ensures.owns;
      same = (c.call_run-outcome.ensures.same.0 ∙ l.same.0.0 ∙ h.same.0, c.call_run-outcome.ensures.same.1 ∙ l.same.0.1 ∙ h.same.1);
      plays = run_plays t c.in_order.ensures _ c.requires.opening n c.requires.number e.0 u e.2 v p e.3 q s e.7 c.in_ok-picked.picked (e.4, e.5, e.6, e.8, e.9, e.10) c.in_ok-picked.ensures.tail c.what_a_token_has_seen_is_legal.ensures;
      lone = none_lone t n v c.in_ok-picked.ensures.tail;
      calm = run_calm t c.in_order.ensures _ c.requires.opening n c.requires.number e.0 u e.2 v p e.3 q s e.7 c.in_ok-picked.picked (e.4, e.5, e.6, e.8, e.9, e.10);
      thread = c.learn_own.ensures.same.0 ∙ now.0;
      trace = c.learn_own.ensures.same.1 ∙ now.1;
      told = c.learn_own.ensures.told ∙ e.9.told;
      learnt = run_told t c.in_order.ensures _ c.requires.opening n c.requires.number e.0 u e.2 v p e.3 q s e.7 c.in_ok-picked.picked (e.4, e.5, e.6, e.8, e.9, e.10) c.in-Replied.reply c.in-Replied.is c.learn_own.new.self c.learn_own.ensures.same.0 c.learn_own.ensures.same.2 c.learn_own.ensures.same.3 c.in_ok-learn_own-in-Replied.ensures.knows;
    }

pub returns-in_err-learn_own-in-Replied-clause-plays : goal.returns-in_err-learn_own-in-Replied-clause-plays
returns-in_err-learn_own-in-Replied-clause-plays g c =
    let h = c.turns.invariant in
    let t = c.args.trace.now in
    let w : Token = token_of c.turns.thread in
    let u : Token = token_of c.play_lone.new.thread in
    let v : Token = token_of c.call_run-outcome.new.thread in
    let p = c.play_lone.new.picker in
    let q = c.call_run-outcome.new.picker in
    let n = (token_of c.args.thread.now).number in
    let l = c.play_lone.ensures in
    let s = stands_by t n w u c.turns.picker p h.same.0 h.plays h.lone h.calm h.thread h.trace h.told l.same l.picker l.told l.lone l.calm c.in_ok-play_lone.ensures.learnt in
    let e = c.in_ok-picked.ensures.ok in
    run_plays t c.in_order.ensures _ c.requires.opening n c.requires.number e.0 u e.2 v p e.3 q s e.7 c.in_ok-picked.picked (e.4, e.5, e.6, e.8, e.9, e.10) c.in_ok-picked.ensures.tail c.what_a_token_has_seen_is_legal.ensures

pub returns-in_err-learn_own-in-Replied-clause-calm : goal.returns-in_err-learn_own-in-Replied-clause-calm
unfolding has_halted
returns-in_err-learn_own-in-Replied-clause-calm g c =
    let h = c.turns.invariant in
    let t = c.args.trace.now in
    let w : Token = token_of c.turns.thread in
    let u : Token = token_of c.play_lone.new.thread in
    let v : Token = token_of c.call_run-outcome.new.thread in
    let p = c.play_lone.new.picker in
    let q = c.call_run-outcome.new.picker in
    let n = (token_of c.args.thread.now).number in
    let l = c.play_lone.ensures in
    let s = stands_by t n w u c.turns.picker p h.same.0 h.plays h.lone h.calm h.thread h.trace h.told l.same l.picker l.told l.lone l.calm c.in_ok-play_lone.ensures.learnt in
    let e = c.in_ok-picked.ensures.ok in
    run_calm t c.in_order.ensures _ c.requires.opening n c.requires.number e.0 u e.2 v p e.3 q s e.7 c.in_ok-picked.picked (e.4, e.5, e.6, e.8, e.9, e.10)

pub turns-preserved : goal.turns-preserved
turns-preserved g c =
    let h = c.turns.invariant in
    let t = c.args.trace.now in
    let w : Token = token_of c.turns.thread in
    let u : Token = token_of c.play_lone.new.thread in
    let v : Token = token_of c.call_run-outcome.new.thread in
    let p = c.play_lone.new.picker in
    let q = c.call_run-outcome.new.picker in
    let n = (token_of c.args.thread.now).number in
    let l = c.play_lone.ensures in
    let s = stands_by t n w u c.turns.picker p h.same.0 h.plays h.lone h.calm h.thread h.trace h.told l.same l.picker l.told l.lone l.calm c.in_ok-play_lone.ensures.learnt in
    let e = c.in_ok-picked.ensures.ok in
    let now = run_thread t c.in_order.ensures _ c.requires.opening n c.requires.number e.0 u e.2 v p e.3 q s e.7 c.in_ok-picked.picked (e.4, e.5, e.6, e.8, e.9, e.10) in
    record {
      owns = c.call_run-outcome.ensures.owns;
      same = (c.call_run-outcome.ensures.same.0 ∙ l.same.0.0 ∙ h.same.0, c.call_run-outcome.ensures.same.1 ∙ l.same.0.1 ∙ h.same.1);
      plays = run_plays t c.in_order.ensures _ c.requires.opening n c.requires.number e.0 u e.2 v p e.3 q s e.7 c.in_ok-picked.picked (e.4, e.5, e.6, e.8, e.9, e.10) c.in_ok-picked.ensures.tail c.what_a_token_has_seen_is_legal.ensures;
      lone = none_lone t n v c.in_ok-picked.ensures.tail;
      calm = run_calm t c.in_order.ensures _ c.requires.opening n c.requires.number e.0 u e.2 v p e.3 q s e.7 c.in_ok-picked.picked (e.4, e.5, e.6, e.8, e.9, e.10);
      thread = now.0;
      trace = now.1;
      told = e.9.told;
      learnt = run_learnt t c.in_order.ensures _ c.requires.opening n c.requires.number e.0 u e.2 v p e.3 q s e.7 c.in_ok-picked.picked (e.4, e.5, e.6, e.8, e.9, e.10) c.in-Waited.is;
    }

pub returns-in-Stopped-clause-plays : goal.returns-in-Stopped-clause-plays
returns-in-Stopped-clause-plays g c =
    let h = c.turns.invariant in
    let t = c.args.trace.now in
    let w : Token = token_of c.turns.thread in
    let u : Token = token_of c.play_lone.new.thread in
    let v : Token = token_of c.call_run-outcome.new.thread in
    let p = c.play_lone.new.picker in
    let q = c.call_run-outcome.new.picker in
    let n = (token_of c.args.thread.now).number in
    let l = c.play_lone.ensures in
    let s = stands_by t n w u c.turns.picker p h.same.0 h.plays h.lone h.calm h.thread h.trace h.told l.same l.picker l.told l.lone l.calm c.in_ok-play_lone.ensures.learnt in
    let e = c.in_ok-picked.ensures.ok in
    run_plays t c.in_order.ensures _ c.requires.opening n c.requires.number e.0 u e.2 v p e.3 q s e.7 c.in_ok-picked.picked (e.4, e.5, e.6, e.8, e.9, e.10) c.in_ok-picked.ensures.tail c.what_a_token_has_seen_is_legal.ensures

pub returns-in-Stopped-clause-calm : goal.returns-in-Stopped-clause-calm
unfolding has_halted
returns-in-Stopped-clause-calm g c =
    let h = c.turns.invariant in
    let t = c.args.trace.now in
    let w : Token = token_of c.turns.thread in
    let u : Token = token_of c.play_lone.new.thread in
    let v : Token = token_of c.call_run-outcome.new.thread in
    let p = c.play_lone.new.picker in
    let q = c.call_run-outcome.new.picker in
    let n = (token_of c.args.thread.now).number in
    let l = c.play_lone.ensures in
    let s = stands_by t n w u c.turns.picker p h.same.0 h.plays h.lone h.calm h.thread h.trace h.told l.same l.picker l.told l.lone l.calm c.in_ok-play_lone.ensures.learnt in
    let e = c.in_ok-picked.ensures.ok in
    run_calm t c.in_order.ensures _ c.requires.opening n c.requires.number e.0 u e.2 v p e.3 q s e.7 c.in_ok-picked.picked (e.4, e.5, e.6, e.8, e.9, e.10)

pub returns-in-Stopped-clause-over : goal.returns-in-Stopped-clause-over
returns-in-Stopped-clause-over g c =
    let h = c.turns.invariant in
    let t = c.args.trace.now in
    let w : Token = token_of c.turns.thread in
    let u : Token = token_of c.play_lone.new.thread in
    let v : Token = token_of c.call_run-outcome.new.thread in
    let p = c.play_lone.new.picker in
    let q = c.call_run-outcome.new.picker in
    let n = (token_of c.args.thread.now).number in
    let l = c.play_lone.ensures in
    let s = stands_by t n w u c.turns.picker p h.same.0 h.plays h.lone h.calm h.thread h.trace h.told l.same l.picker l.told l.lone l.calm c.in_ok-play_lone.ensures.learnt in
    let e = c.in_ok-picked.ensures.ok in
    run_over t c.in_order.ensures _ c.requires.opening n c.requires.number e.0 u e.2 v p e.3 q s e.7 c.in_ok-picked.picked (e.4, e.5, e.6, e.8, e.9, e.10) c.in-Stopped.is
