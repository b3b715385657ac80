use Rattle.std.proofs.Common.{◌≡◌, ◌-◌, []}
use Rattle.jbig2_text.specs.SymbolCodes.{runs_at}
use Rattle.jbig2_text.proofs.symbol_codes.read_lengths.Given as goal

abbrev pub invariant-loop : goal.invariant-loop
invariant-loop g l = runs_at (l.count - l.counter) l.count l.runcodes l.lengths.items l.reader ≡ runs_at l.count l.count l.runcodes [] l.fn.reader
