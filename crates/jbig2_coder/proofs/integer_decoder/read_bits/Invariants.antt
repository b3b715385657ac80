use Rattle.std.proofs.Common.{◌≡◌, ◌^◌, ◌<◌, length, drop}
use Rattle.jbig2_base.specs.Counts.{Counts}
use Rattle.jbig2_coder.specs.Integers.{Reading, read_more, prev_of}
use Rattle.jbig2_base.specs.Bits.{value_of_bits}
use Rattle.jbig2_coder.specs.inner.IntegerStates.{HasRead}
use Rattle.jbig2_coder.proofs.integer_decoder.read_bits.Given as goal

abbrev pub invariant-loop : goal.invariant-loop
invariant-loop g l = record {
  below : l.prev < 512;
  bound : l.value < 2 ^ l.counter;
  bytes : l.decoder.bytes ≡ l.fn.decoder.bytes;
  value : (start : Counts) (r : Reading) → HasRead prev_of start r l.fn.prev l.fn.decoder l.fn.contexts l.fn.steps
      → l.value ≡ value_of_bits (drop (length r.bits) (read_more prev_of l.counter l.fn.decoder.bytes r).bits);
  reads : (start : Counts) (r : Reading) → HasRead prev_of start r l.fn.prev l.fn.decoder l.fn.contexts l.fn.steps
      → HasRead prev_of start (read_more prev_of l.counter l.fn.decoder.bytes r) l.prev l.decoder l.contexts l.steps;
}
