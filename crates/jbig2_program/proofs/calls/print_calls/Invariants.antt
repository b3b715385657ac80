use Rattle.std.proofs.Common.{is_some}
use Rattle.jbig2_program.specs.inner.Printing.{data_of}
use Rattle.jbig2_program.proofs.calls.print_calls.Given as goal

abbrev pub ghosts-decode_to : goal.ghosts-decode_to
ghosts-decode_to g a = record { is_known = is_some (data_of g.O.Write.contents a.output) }
