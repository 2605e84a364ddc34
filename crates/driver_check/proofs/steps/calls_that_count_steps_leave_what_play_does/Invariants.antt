use Rattle.driver_check.proofs.steps.calls_that_count_steps_leave_what_play_does.Given as goal

abbrev pub ghosts-expect_same : goal.ghosts-expect_same
ghosts-expect_same g a = record { name = a.blank.name; parts = a.blank.parts }
