use Rattle.std.proofs.Common.{rules}
use Rattle.turn_lock.proofs.Splitting.{splits}
use Rattle.turn_lock.proofs.turns.Turns.cut.Goals as goal

pub split_seat-requires : goal.split_seat-requires
split_seat-requires g c = (c.requires.lock.0, search rules, splits _ _ _ g.K.Room.room g.K.Room.seen _ c.requires.turn.0 c.requires.turn.1 c.requires.few c.requires.seen)
