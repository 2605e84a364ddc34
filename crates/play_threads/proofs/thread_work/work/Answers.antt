use Rattle.shared_driver.specs.Tokens.{Token, token_of}
use Rattle.play_threads.proofs.WorkLaws.{gave_up}
use Rattle.play_threads.proofs.thread_work.work.Goals as goal

pub returns-in-Err-clause-gave_up : goal.returns-in-Err-clause-gave_up
returns-in-Err-clause-gave_up g c =
    let u : Token = token_of c.play_lines.new.thread in
    let n = (token_of c.args.thread.now).number in
    gave_up c.args.trace.now c.in_order.ensures _ c.requires.opening u (token_of c.halt.new.thread) n c.requires.number c.play_lines.ensures.same.0 c.play_lines.ensures.plays c.play_lines.ensures.lone c.what_a_token_has_seen_is_legal.ensures (c.halt.ensures.first c.play_lines.ensures.calm)
