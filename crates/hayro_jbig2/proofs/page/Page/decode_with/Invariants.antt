use Rattle.hayro_jbig2.proofs.page.Page.decode_with.Given as goal

abbrev pub ghosts-decode_counted : goal.ghosts-decode_counted
ghosts-decode_counted g a = record { name = a.blank.name; parts = a.blank.parts }
