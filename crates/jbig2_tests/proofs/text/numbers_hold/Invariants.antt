use Rattle.jbig2_tests.proofs.text.numbers_hold.Given as goal

abbrev pub ghosts-coded_numbers : goal.ghosts-coded_numbers
ghosts-coded_numbers a = record { name = a.blank.name; parts = a.blank.parts }
