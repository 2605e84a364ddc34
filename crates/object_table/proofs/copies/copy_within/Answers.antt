use Rattle.object_table.proofs.copies.copy_within.Goals as goal

pub returns-clause-ok : goal.returns-clause-ok
returns-clause-ok c = rw (← c.in_ok-image.ensures, ← c.as_ref.ensures.value) c.copy_to.ensures.ok
