use Rattle.std.proofs.Common.{◌≡◌, ◌+◌, ◌^◌, ◌<◌}
use Rattle.jbig2_coder.specs.Integers.{read_more}
use Rattle.jbig2_coder.specs.inner.IntegerPrefixes.{place_of}
use Rattle.jbig2_coder.specs.inner.IntegerStates.{HasRead}
use Rattle.jbig2_coder.proofs.Readings.{start_of}
use Rattle.jbig2_coder.proofs.symbol_id_decoder.read_id.Given as goal

abbrev pub invariant-loop : goal.invariant-loop
invariant-loop g l = record {
  below : l.prev < 2 ^ (l.counter + 1);
  bytes : l.decoder.bytes ≡ l.fn.decoder.bytes;
  reads : HasRead place_of l.fn.steps (read_more place_of l.counter l.fn.decoder.bytes (start_of l.fn.decoder.registers l.fn.contexts)) l.prev l.decoder l.contexts l.steps;
}
