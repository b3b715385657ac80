use Rattle.jbig2_rows.proofs.case.case_holds.Given as goal

abbrev pub ghosts-wide_patterns_hold : goal.ghosts-wide_patterns_hold
ghosts-wide_patterns_hold g a = record { name = a.blank.name; parts = a.blank.parts }
