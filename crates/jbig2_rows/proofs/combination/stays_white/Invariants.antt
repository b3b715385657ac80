use Rattle.jbig2_rows.proofs.combination.stays_white.Given as goal

abbrev pub ghosts-is_white_after : goal.ghosts-is_white_after
ghosts-is_white_after g a = record { name = a.blank.name; parts = a.blank.parts }
