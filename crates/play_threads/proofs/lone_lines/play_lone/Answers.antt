use Rattle.std.proofs.Common.{◌∙◌}
use Rattle.shared_driver.specs.Tokens.{Token, token_of}
use Rattle.play_threads.proofs.WorkLaws.{lone_as}
use Rattle.play_threads.proofs.lone_lines.play_lone.Goals as goal

pub lines-preserved : goal.lines-preserved
lines-preserved g c =
    let h = c.lines.invariant in
    let u : Token = token_of c.lines.thread in
    let v : Token = token_of c.play_line.new.thread in
    let p = c.lines.picker in
    let o = c.args.picker.now in
    let played = c.play_line.ensures in
    record {
      owns = λ s own. played.owns s (h.owns s own);
      same = (played.same.0.0 ∙ h.same.0, played.same.0.1 ∙ h.same.1);
      seen = played.same.1 ∙ h.seen;
      thread = played.picker.0 ∙ h.thread;
      trace = played.picker.1 ∙ h.trace;
      told = played.told ∙ h.told;
      lone = λ before. lone_as p.session.trace o.session.trace p.thread o.thread u.seen u.tail v.seen v.tail h.trace h.thread played.lone (h.lone before);
      calm = λ before. played.calm (h.calm before);
      learnt = c.in_ok-play_line.ensures.learnt;
    }

pub returns-in_err-play_line-clause-owns : goal.returns-in_err-play_line-clause-owns
returns-in_err-play_line-clause-owns g c s own = c.play_line.ensures.owns s (c.lines.invariant.owns s own)
