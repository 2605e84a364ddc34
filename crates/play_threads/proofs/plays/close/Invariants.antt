use Rattle.trace_reader.specs.Traces.{TraceValue}
use Rattle.shared_driver.specs.Tokens.{IsOf, token_of}
use Rattle.play_threads.specs.Plays.{OwnersPlay}
use Rattle.play_threads.proofs.plays.close.Given as goal

abbrev pub invariant-waiting : goal.invariant-waiting
invariant-waiting g l = IsOf l.shared l.thread × ((t : TraceValue) → OwnersPlay t (token_of l.fn.thread) → OwnersPlay t (token_of l.thread))
