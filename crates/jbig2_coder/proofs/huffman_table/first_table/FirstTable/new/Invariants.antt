use Rattle.jbig2_coder.proofs.FirstLemmas.{AtDepth}
use Rattle.jbig2_coder.proofs.huffman_table.first_table.FirstTable.new.Given as goal

abbrev pub invariant-loop-depth : goal.invariant-loop-depth
invariant-loop-depth l = AtDepth l.lines l.levels l.depth l.code l.codes
