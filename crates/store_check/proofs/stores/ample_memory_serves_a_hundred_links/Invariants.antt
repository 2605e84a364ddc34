use Rattle.store_check.proofs.stores.ample_memory_serves_a_hundred_links.Given as goal

abbrev pub ghosts-link_often : goal.ghosts-link_often
ghosts-link_often g a = record { name = a.blank.name; parts = a.blank.parts }
