use Rattle.std.proofs.Common.{◌≡◌, ◌+◌, ◌-◌, ◌<◌, ◌≤◌, []}
use Rattle.std.specs.Prelude.{All, vec_len, vec_capacity}
use Rattle.shared_driver.specs.Tokens.{IsOf, mine, token_of}
use Rattle.play_threads.specs.Plays.{IsReady}
use Rattle.play_threads.proofs.workers.hire.Given as goal

abbrev pub invariant-attaching : goal.invariant-attaching
invariant-attaching g l = record {
  owns : IsOf l.shared l.first;
  number : (token_of l.first).number ≡ (token_of l.fn.first).number;
  mine : mine (token_of l.first) ≡ [];
  ended : (token_of l.first).ended ≡ [];
  tail : (token_of l.first).tail ≡ [];
  workers : All (IsReady l.trace l.shared) l.workers.items;
  room : vec_len l.workers + (l.trace.threads - l._thread) < vec_capacity l.workers;
  long : vec_len l.workers + 1 ≡ vec_len l.fn.workers + l._thread;
  from : 1 ≤ l._thread;
  to : l._thread ≤ 1 + (l.trace.threads - 1);
}
