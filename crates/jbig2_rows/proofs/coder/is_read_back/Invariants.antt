use Rattle.jbig2_rows.proofs.coder.is_read_back.Given as goal

abbrev pub ghosts-list_is_read : goal.ghosts-list_is_read
ghosts-list_is_read g a = record { name = a.blank.name; parts = a.blank.parts }
