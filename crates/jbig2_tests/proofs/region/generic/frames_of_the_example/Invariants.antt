use Rattle.jbig2_tests.proofs.region.generic.frames_of_the_example.Given as goal

abbrev pub ghosts-frames_hold : goal.ghosts-frames_hold
ghosts-frames_hold g a = record { name = a.blank.name; parts = a.blank.parts }
