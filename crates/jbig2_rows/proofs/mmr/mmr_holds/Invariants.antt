use Rattle.jbig2_rows.proofs.mmr.mmr_holds.Given as goal

abbrev pub ghosts-data_holds : goal.ghosts-data_holds
ghosts-data_holds g a = record { name = a.blank.name; parts = a.blank.parts }
