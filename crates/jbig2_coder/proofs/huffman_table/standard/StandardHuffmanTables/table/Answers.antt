use Rattle.std.proofs.Common.{List, [], length, ap, ◌∙◌, arith}
use Rattle.jbig2_coder.specs.PrefixCode.{Member}
use Rattle.jbig2_coder.proofs.PrefixStandard.{count-codes, code-at}
use Rattle.jbig2_coder.proofs.huffman_table.standard.StandardHuffmanTables.table.Goals as goal

pub index-requires : goal.index-requires
index-requires g c = omega (arith, c.self.inside.tables.ok.0, ap (λ (ms : List (List Member)). length ms) c.self.invariant, count-codes)

pub returns : goal.returns
returns g c = c.index.ensures ∙ code-at c.self.inside.tables.items c.args.index c.index.result.now [] c.self.invariant c.requires
