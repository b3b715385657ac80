use Rattle.jbig2_tests.proofs.base.bitmaps.combinations_agree_with_a_copy_by_pixels.Given as goal

abbrev pub ghosts-each_width_agrees : goal.ghosts-each_width_agrees
ghosts-each_width_agrees g a = record { name = a.blank.name; parts = a.blank.parts }
