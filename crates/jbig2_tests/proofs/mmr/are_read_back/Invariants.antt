use Rattle.jbig2_tests.proofs.mmr.are_read_back.Given as goal

abbrev pub ghosts-are_read_as : goal.ghosts-are_read_as
ghosts-are_read_as a = record { name = a.blank.name; parts = a.blank.parts }
