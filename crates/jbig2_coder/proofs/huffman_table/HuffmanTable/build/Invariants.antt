use Rattle.jbig2_coder.proofs.PrefixBuilding.{Built}
use Rattle.jbig2_coder.proofs.huffman_table.HuffmanTable.build.Given as goal

abbrev pub invariant-loop-depth : goal.invariant-loop-depth
invariant-loop-depth g l = Built l.lines l.by_length.items l.levels.items l.nodes l.depth
