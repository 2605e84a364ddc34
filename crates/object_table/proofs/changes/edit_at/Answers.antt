use Rattle.std.proofs.Common.{sym, subst}
use Rattle.ref_store.specs.Kept.{at}
use Rattle.object_table.specs.Nodes.{object_in}
use Rattle.object_table.proofs.ChangeLaws.{edited_here, edited_none, edited_of, shown_may}
use Rattle.object_table.proofs.changes.edit_at.Goals as goal

pub edit-requires-clause-may : goal.edit-requires-clause-may
edit-requires-clause-may g c = shown_may (g.C.Change.may c.args.change) (at c.args.store.now.nodes c.args.n) c.requires.may

pub returns-in-Some-clause-object : goal.returns-in-Some-clause-object
returns-in-Some-clause-object g c = edited_here c.args.store.now c.edit.new.self c.args.n (g.C.Change.after c.args.change c.in-Some.answer) _ (λ x y h. h.1) c.in-Some.ensures.edits c.edit.ensures.room c.edit.ensures.counts c.edit.ensures.all_in

pub returns-in-Some-clause-answer : goal.returns-in-Some-clause-answer
returns-in-Some-clause-answer g c = edited_of c.args.store.now c.edit.new.self.nodes c.args.n (λ o. g.C.Change.answers c.args.change o c.in-Some.answer) _ (λ x y h. h.2) c.in-Some.ensures.edits

pub returns-in-None-clause-object : goal.returns-in-None-clause-object
returns-in-None-clause-object g c = edited_none c.args.store.now c.edit.new.self c.args.n (g.C.Change.after c.args.change c.args.absent) c.requires.none c.in-None.ensures.edits.0 c.in-None.ensures.edits.1 c.edit.ensures.room c.edit.ensures.counts c.edit.ensures.all_in

pub returns-in-None-clause-answer : goal.returns-in-None-clause-answer
returns-in-None-clause-answer g c = subst (λ o. g.C.Change.answers c.args.change (object_in o) c.args.absent) (sym c.in-None.ensures.edits.0) c.requires.absent
