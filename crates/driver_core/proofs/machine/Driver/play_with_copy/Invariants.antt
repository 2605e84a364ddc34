use Rattle.driver_core.proofs.machine.Driver.play_with_copy.Given as goal

abbrev pub ghosts-uncounted : goal.ghosts-uncounted
ghosts-uncounted a = record { name = a.blank.name; parts = a.blank.parts }
