use Rattle.jbig2_coder.proofs.PrefixReading.{AtLevel}
use Rattle.jbig2_coder.proofs.huffman_table.levels.read_line.Given as goal

abbrev pub invariant-loop-level : goal.invariant-loop-level
invariant-loop-level l = AtLevel l.lines l.levels l.fn.node l.level-index l.node l.fn.reader l.reader
