use Rattle.jbig2_rows.proofs.coder.coder_holds.Given as goal

abbrev pub ghosts-readings_hold : goal.ghosts-readings_hold
ghosts-readings_hold g a = record { name = a.blank.name; parts = a.blank.parts }

abbrev pub ghosts-list_is_read : goal.ghosts-list_is_read
ghosts-list_is_read g a = record { name = a.blank.name; parts = a.blank.parts }
