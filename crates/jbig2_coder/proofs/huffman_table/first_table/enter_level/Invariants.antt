use Rattle.std.proofs.Common.{◌≡◌, length}
use Rattle.jbig2_coder.specs.inner.FirstCodes.{Enters}
use Rattle.jbig2_coder.proofs.huffman_table.first_table.enter_level.Given as goal

abbrev pub invariant-loop-byte : goal.invariant-loop-byte
invariant-loop-byte l = record {
  size : length l.codes ≡ 256;
  entered : Enters l.initial.codes l.codes l.level l.length l.code;
}
