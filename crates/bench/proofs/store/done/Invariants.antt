use Rattle.bench.proofs.store.done.Given as goal

abbrev pub ghosts-done_by : goal.ghosts-done_by
ghosts-done_by g a = record { name = a.blank.name; parts = a.blank.parts }
