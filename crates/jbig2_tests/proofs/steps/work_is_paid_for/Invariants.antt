use Rattle.jbig2_tests.proofs.steps.work_is_paid_for.Given as goal

abbrev pub ghosts-units_left : goal.ghosts-units_left
ghosts-units_left g a = record { name = a.blank.name; parts = a.blank.parts }
