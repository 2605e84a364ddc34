use Rattle.turn_lock.specs.Passes.{view_of}
use Rattle.turn_lock.proofs.turns.Turns.split.Given as goal

-- the room that was passed, and the history that the pass has seen
abbrev pub ghosts-cut : goal.ghosts-cut
ghosts-cut g a = record { room = a.room; seen = (view_of a.pass.now).seen }
