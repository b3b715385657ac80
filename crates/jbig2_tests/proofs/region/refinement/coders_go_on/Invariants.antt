use Rattle.jbig2_tests.proofs.region.refinement.coders_go_on.Given as goal

abbrev pub ghosts-coders_hold : goal.ghosts-coders_hold
ghosts-coders_hold g a = record { name = a.blank.name; parts = a.blank.parts }
