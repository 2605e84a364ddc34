use Rattle.std.proofs.Common.{refl}
use Rattle.ref_store.specs.Kept.{at}
use Rattle.ref_store.proofs.EditLaws.{left_by, node_values}
use Rattle.ref_store.proofs.ValueLaws.{in_values}
use Rattle.ref_store.proofs.editing.edit_in.Goals as goal

pub edit_at-requires : goal.edit_at-requires
edit_at-requires g c = record { inside = in_values c.args.cells.now.items c.requires.all_in c.args.id; may = rw (← node_values c.args.cells.now.items c.args.id) c.requires.may }

pub returns : goal.returns
returns g c =
    let cells = c.args.cells.now.items in
    let L = g.met.E.Edit.keeps c.args.edit in
    let l = left_by g.K.Node.edges g.K.Node.rank (g.E.Edit.does c.args.edit) (λ x y r d. (L x y r d).same_edges) (λ x y r d. (L x y r d).same_rank) cells c.args.id c.requires.store c.requires.all_in (at cells c.args.id) c.edit_at.result (at c.edit_at.new.self.items c.args.id) refl (in_values cells c.requires.all_in c.args.id) c.edit_at.ensures.edits in
    rw c.edit_at.ensures.others (record { store = l.store; room = c.edit_at.ensures.room; edits = l.edits; counts = l.counts; all_in = l.all_in })
