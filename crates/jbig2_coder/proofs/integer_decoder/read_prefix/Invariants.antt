use Rattle.std.proofs.Common.{◌≡◌, ◌-◌, ◌<◌}
use Rattle.jbig2_base.specs.Counts.{Counts}
use Rattle.jbig2_coder.specs.Integers.{Reading, prev_of}
use Rattle.jbig2_coder.specs.inner.IntegerPrefixes.{prefix}
use Rattle.jbig2_coder.specs.inner.IntegerStates.{HasRead}
use Rattle.jbig2_coder.proofs.integer_decoder.read_prefix.Given as goal

abbrev pub invariant-loop-ones : goal.invariant-loop-ones
invariant-loop-ones g l = record {
  below : l.prev < 512;
  bytes : l.decoder.bytes ≡ l.fn.decoder.bytes;
  reads : (start : Counts) (r : Reading) → HasRead prev_of start r l.fn.prev l.fn.decoder l.fn.contexts l.fn.steps
      → (s : Reading) × HasRead prev_of start s l.prev l.decoder l.contexts l.steps × (prefix 5 0 l.fn.decoder.bytes r ≡ prefix (5 - l.ones) l.ones l.fn.decoder.bytes s);
}
