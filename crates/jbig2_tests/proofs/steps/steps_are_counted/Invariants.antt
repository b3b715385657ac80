use Rattle.jbig2_tests.proofs.steps.steps_are_counted.Given as goal

abbrev pub ghosts-each_step : goal.ghosts-each_step
ghosts-each_step g a = record { name = a.blank.name; parts = a.blank.parts }

abbrev pub ghosts-is_unlimited : goal.ghosts-is_unlimited
ghosts-is_unlimited g a = record { name = a.blank.name; parts = a.blank.parts }
