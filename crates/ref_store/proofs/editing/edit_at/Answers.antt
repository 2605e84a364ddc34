use Rattle.std.proofs.Common.{sym, ap, ◌∙◌, set}
use Rattle.numbered.proofs.Writes.{wrote}
use Rattle.ref_store.proofs.editing.edit_at.Goals as goal

pub returns-in-Some-clause-edits : goal.returns-in-Some-clause-edits
returns-in-Some-clause-edits g c = let w = wrote c.args.cells.now (c.get_mut.follows.lender c.edit_cell.new.cell) c.args.id c.get_mut.result c.in-Some.cell c.edit_cell.new.cell c.in-Some.is c.get_mut.ensures.value (c.get_mut.follows.holds c.edit_cell.new.cell) in rw (w.was, w.now) c.edit_cell.ensures

pub returns-in-Some-clause-others : goal.returns-in-Some-clause-others
returns-in-Some-clause-others g c = let w = wrote c.args.cells.now (c.get_mut.follows.lender c.edit_cell.new.cell) c.args.id c.get_mut.result c.in-Some.cell c.edit_cell.new.cell c.in-Some.is c.get_mut.ensures.value (c.get_mut.follows.holds c.edit_cell.new.cell) in w.items ∙ ap (λ o. set c.args.cells.now.items c.args.id o) (sym w.now)

pub returns-in-Some-clause-room : goal.returns-in-Some-clause-room
returns-in-Some-clause-room g c = (wrote c.args.cells.now (c.get_mut.follows.lender c.edit_cell.new.cell) c.args.id c.get_mut.result c.in-Some.cell c.edit_cell.new.cell c.in-Some.is c.get_mut.ensures.value (c.get_mut.follows.holds c.edit_cell.new.cell)).room
