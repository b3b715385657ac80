use Rattle.jbig2_tests.proofs.halftone.halftones_of_the_example.Given as goal

abbrev pub ghosts-first_that_differs : goal.ghosts-first_that_differs
ghosts-first_that_differs g a = record { name = a.blank.name; parts = a.blank.parts }
