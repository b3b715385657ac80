use Rattle.jbig2_tests.proofs.coder.integers.annex_a_holds.Given as goal

abbrev pub ghosts-integers_hold : goal.ghosts-integers_hold
ghosts-integers_hold a = record { name = a.blank.name; parts = a.blank.parts }

abbrev pub ghosts-ids_hold : goal.ghosts-ids_hold
ghosts-ids_hold a = record { name = a.blank.name; parts = a.blank.parts }
