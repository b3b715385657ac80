use Rattle.jbig2_tests.proofs.halftone.planes.planes_hold.Given as goal

abbrev pub ghosts-image_holds : goal.ghosts-image_holds
ghosts-image_holds a = record { name = a.blank.name; parts = a.blank.parts }
