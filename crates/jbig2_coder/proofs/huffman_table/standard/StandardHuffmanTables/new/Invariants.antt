use Rattle.std.proofs.Common.{◌≡◌, map, take}
use Rattle.jbig2_coder.specs.PrefixCode.{prefix_code}
use Rattle.jbig2_coder.specs.Tables.{standard_tables}
use Rattle.jbig2_coder.proofs.huffman_table.standard.StandardHuffmanTables.new.Given as goal

abbrev pub invariant-loop-index : goal.invariant-loop-index
invariant-loop-index g l = l.tables.items ≡ map prefix_code (take l.index standard_tables)
