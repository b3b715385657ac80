use Rattle.jbig2_tests.proofs.region.refinement.refinements.Given as goal

abbrev pub ghosts-first_that_differs : goal.ghosts-first_that_differs
ghosts-first_that_differs g a = record { name = a.blank.name; parts = a.blank.parts }
