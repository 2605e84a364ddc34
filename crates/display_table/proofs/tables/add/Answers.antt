use Rattle.std.proofs.Common.{◌∙◌, Some, nat_eq, refl, arith}
use Rattle.indexmap.proofs.CallerLemmas.{insert_entry-new}
use Rattle.display_table.proofs.PlaceLaws.{missing, rises-push, written}
use Rattle.display_table.proofs.tables.add.Goals as goal

pub returns-in-Ok-clause-added : goal.returns-in-Ok-clause-added
returns-in-Ok-clause-added c n = written _ _ c.args.handle.number (Some c.args.handle) c.in-Ok.ensures.updates.0 n ∙ rw (c.make_room.ensures.same n) refl

pub returns-in-Ok-clause-rise : goal.returns-in-Ok-clause-rise
returns-in-Ok-clause-rise c =
    let number = c.args.handle.number in
    let rise = c.make_room.ensures.rise _ c.requires in
    let free = missing 3 _ number number rise (omega arith) in
    rises-push _ _ number (Some c.args.handle) (c.in-Ok.ensures.entries ∙ insert_entry-new nat_eq c.make_room.new.table number (Some c.args.handle) free) rise
