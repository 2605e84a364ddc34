use Rattle.std.proofs.Common.{◌≡◌, false}
use Rattle.std.specs.Prelude.{All, vec_len}
use Rattle.shared_driver.specs.Tokens.{IsOf, token_of}
use Rattle.play_threads.specs.Plays.{IsThrough, OwnersPlay}
use Rattle.play_threads.proofs.workers.gather.Given as goal

abbrev pub invariant-joining : goal.invariant-joining
invariant-joining g l = record {
  owns : IsOf l.shared l.thread;
  play : l.ran_out ≡ false → OwnersPlay l.trace (token_of l.thread);
  through : All (IsThrough l.trace l.shared) l.workers.items;
}

abbrev pub decreases-joining : goal.decreases-joining
decreases-joining g l = vec_len l.workers
