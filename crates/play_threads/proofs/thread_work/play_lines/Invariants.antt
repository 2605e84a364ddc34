use Rattle.std.proofs.Common.{◌≡◌, false}
use Rattle.egl_calls.specs.Journals.{are_halted}
use Rattle.trace_model.specs.Follows.{PlaysAs}
use Rattle.shared_driver.specs.Tokens.{IsOf, IsSame, mine, token_of}
use Rattle.play_threads.specs.Picks.{HasLearnt}
use Rattle.play_threads.specs.Work.{PlayLone}
use Rattle.play_threads.proofs.thread_work.play_lines.Given as goal

abbrev pub invariant-turns : goal.invariant-turns
invariant-turns g l = record {
  owns : IsOf l.shared l.thread;
  same : IsSame (token_of l.fn.thread) (token_of l.thread);
  plays : PlaysAs l.trace (token_of l.fn.thread).number (token_of l.thread).seen;
  lone : PlayLone l.trace (token_of l.fn.thread).number (token_of l.thread).seen (token_of l.thread).tail;
  calm : are_halted (mine (token_of l.thread)) ≡ false;
  thread : l.picker.thread ≡ (token_of l.fn.thread).number;
  trace : l.picker.session.trace ≡ l.trace;
  told : l.picker.answered ≡ false;
  learnt : HasLearnt l.picker (mine (token_of l.thread)) (token_of l.thread).seen;
}
