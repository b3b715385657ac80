use Rattle.std.proofs.Common.{◌≡◌, take}
use Rattle.std.specs.List.{flat_map}
use Rattle.jbig2_base.specs.Bits.{byte_bits, number_after}
use Rattle.jbig2_base.proofs.reader.Reader.word.Given as goal

abbrev pub invariant-loop-byte : goal.invariant-loop-byte
invariant-loop-byte l = l.word ≡ number_after 0 (flat_map byte_bits (take l.byte-index l.bytes))
