use Rattle.jbig2_tests.proofs.symbol.contexts_that_are_kept.Given as goal

abbrev pub ghosts-contexts_go_on : goal.ghosts-contexts_go_on
ghosts-contexts_go_on g a = record { name = a.blank.name; parts = a.blank.parts }
