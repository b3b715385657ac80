use Rattle.std.proofs.Common.{length}
use Rattle.jbig2_base.specs.Bits.{bits_left}
use Rattle.jbig2_coder.proofs.CustomReading.{Reads}
use Rattle.jbig2_coder.proofs.huffman_table.custom.read_range_lines.Given as goal

abbrev pub invariant-loop-low : goal.invariant-loop-low
invariant-loop-low g l = Reads l.header l.fn.reader l.low l.lines.items l.reader

abbrev pub decreases-loop-low : goal.decreases-loop-low
decreases-loop-low g l = length (bits_left l.reader)
