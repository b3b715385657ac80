use Rattle.std.proofs.Common.{◌≡◌, ◌++◌, take}
use Rattle.jbig2_coder.specs.PrefixCode.{level}
use Rattle.jbig2_coder.proofs.huffman_table.levels.push_level.Given as goal

abbrev pub invariant-loop-line : goal.invariant-loop-line
invariant-loop-line g l = l.by_length.items ≡ l.initial.by_length.items ++ level l.length (take l.line-index l.lines)
