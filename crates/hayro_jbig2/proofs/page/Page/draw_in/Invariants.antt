use Rattle.hayro_jbig2.proofs.page.Page.draw_in.Given as goal

abbrev pub ghosts-draw_counted : goal.ghosts-draw_counted
ghosts-draw_counted g a = record { name = a.blank.name; parts = a.blank.parts }
