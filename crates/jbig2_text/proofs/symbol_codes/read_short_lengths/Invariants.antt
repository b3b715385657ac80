use Rattle.std.proofs.Common.{◌≡◌, ◌-◌, [], length}
use Rattle.jbig2_text.specs.SymbolCodes.{short_lengths}
use Rattle.jbig2_text.proofs.symbol_codes.read_short_lengths.Given as goal

abbrev pub invariant-loop : goal.invariant-loop
invariant-loop g l = record {
  goes : short_lengths (35 - l.counter) l.lengths.items l.reader ≡ short_lengths 35 [] l.fn.reader;
  count : length l.lengths.items ≡ l.counter;
}
