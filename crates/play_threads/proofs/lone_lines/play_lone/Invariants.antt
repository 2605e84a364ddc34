use Rattle.std.proofs.Common.{◌≡◌, false}
use Rattle.egl_calls.specs.Journals.{are_halted}
use Rattle.shared_driver.specs.declared.tokens.Shared.{Shared}
use Rattle.shared_driver.specs.Tokens.{IsOf, IsSame, mine, token_of}
use Rattle.play_threads.specs.Picks.{HasLearnt}
use Rattle.play_threads.specs.Work.{PlayLone}
use Rattle.play_threads.proofs.lone_lines.play_lone.Given as goal

abbrev pub invariant-lines : goal.invariant-lines
invariant-lines g l = record {
  owns : (s : Shared) → IsOf s l.fn.thread → IsOf s l.thread;
  same : IsSame (token_of l.fn.thread) (token_of l.thread);
  seen : (token_of l.thread).seen ≡ (token_of l.fn.thread).seen;
  thread : l.picker.thread ≡ l.fn.picker.thread;
  trace : l.picker.session.trace ≡ l.fn.picker.session.trace;
  told : l.picker.answered ≡ l.fn.picker.answered;
  lone : PlayLone l.fn.picker.session.trace l.fn.picker.thread (token_of l.fn.thread).seen (token_of l.fn.thread).tail → PlayLone l.fn.picker.session.trace l.fn.picker.thread (token_of l.thread).seen (token_of l.thread).tail;
  calm : are_halted (mine (token_of l.fn.thread)) ≡ false → are_halted (mine (token_of l.thread)) ≡ false;
  learnt : HasLearnt l.picker (mine (token_of l.thread)) (token_of l.thread).seen;
}

abbrev pub decreases-lines : goal.decreases-lines
decreases-lines g l = (token_of l.thread).places
