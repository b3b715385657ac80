use Rattle.std.proofs.Common.{◌≡◌, drop, max}
use Rattle.jbig2_coder.specs.PrefixCode.{longest}
use Rattle.jbig2_coder.proofs.huffman_table.levels.longest.Given as goal

abbrev pub invariant-loop-line : goal.invariant-loop-line
invariant-loop-line l = max l.longest (longest (drop l.line-index l.lines)) ≡ longest l.lines
