use Rattle.hayro_jbig2_tests.proofs.limits.left_of_10_000.Given as goal

abbrev pub ghosts-left_by_page : goal.ghosts-left_by_page
ghosts-left_by_page a = record { name = a.blank.name; parts = a.blank.parts }
