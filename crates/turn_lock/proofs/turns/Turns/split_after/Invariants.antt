use Rattle.turn_lock.specs.Passes.{value_of}
use Rattle.turn_lock.proofs.turns.Turns.split_after.Given as goal

-- the room that was passed, and the history of the value in hand
abbrev pub ghosts-cut_after : goal.ghosts-cut_after
ghosts-cut_after g a = record { room = a.room; seen = g.S.Replays.meaning.history (value_of a.held.now) }
