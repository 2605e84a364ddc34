use Rattle.std.proofs.Common.{◌∙◌}
use Rattle.std.proofs.lemmas.Grind.{get_or_default_zero}
use Rattle.shared_driver.proofs.Rooms.{promised_less, promised_moves, promised_set}
use Rattle.shared_driver.proofs.cores.Core.set_room.Goals as goal

pub overflow_sub-self : goal.overflow_sub-self
overflow_sub-self c =
    rw (c.saturating_sub.ensures, c.index-former.ensures ∙ get_or_default_zero c.args.self.now.rooms.items c.args.number c.index-former.result.now c.requires.number) (promised_less c.args.self.now.rooms.items c.args.number c.args.self.now.promised c.requires.number c.requires.owed)

pub returns-clause-owed : goal.returns-clause-owed
returns-clause-owed c =
    rw (c.saturating_sub.ensures, c.saturating_sub-2.ensures, c.index-former.ensures ∙ get_or_default_zero c.args.self.now.rooms.items c.args.number c.index-former.result.now c.requires.number) (promised_set c.args.self.now.rooms.items c.args.number c.args.room c.args.self.now.promised c.requires.number c.requires.owed)

pub returns-clause-promised : goal.returns-clause-promised
returns-clause-promised c =
    rw (c.saturating_sub.ensures, c.saturating_sub-2.ensures, c.index-former.ensures ∙ get_or_default_zero c.args.self.now.rooms.items c.args.number c.index-former.result.now c.requires.number) (promised_moves c.args.self.now.rooms.items c.args.number c.args.room c.args.self.now.promised c.requires.number c.requires.owed)
