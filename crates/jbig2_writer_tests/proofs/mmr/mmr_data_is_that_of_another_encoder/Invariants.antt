use Rattle.jbig2_writer_tests.proofs.mmr.mmr_data_is_that_of_another_encoder.Given as goal

abbrev pub ghosts-first_that_differs : goal.ghosts-first_that_differs
ghosts-first_that_differs g a = record { name = a.blank.name; parts = a.blank.parts }
