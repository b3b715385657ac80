use Rattle.hayro_jbig2.proofs.page.Page.read_packed_within.Given as goal

abbrev pub ghosts-read_counted : goal.ghosts-read_counted
ghosts-read_counted g a = record { name = a.blank.name; parts = a.blank.parts }
