use Rattle.std.proofs.Common.{◌≡◌}
use Rattle.jbig2_coder.specs.PrefixCode.{AreShort}
use Rattle.jbig2_coder.specs.Tables.{uniform}
use Rattle.jbig2_coder.proofs.huffman_table.HuffmanTable.build_uniform.Given as goal

abbrev pub invariant-loop-number : goal.invariant-loop-number
invariant-loop-number g l = record {
  lines : l.lines.items ≡ uniform l.number l.fn.code_length;
  short : AreShort l.lines.items;
}
