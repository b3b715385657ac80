use Rattle.std.proofs.Common.{◌≡◌, ℕ, ◌+◌, ◌*◌, ◌%◌, ◌^◌}
use Rattle.jbig2_base.specs.Grid.{Grid}
use Rattle.jbig2_base.specs.Writes.{with_pixels}
use Rattle.jbig2_region.specs.inner.PushedPixels.{PushesPixels, IsAtPixels}
use Rattle.jbig2_region.specs.inner.Neighbours.{cut_of, register_of}
use Rattle.jbig2_region.proofs.generic_kernel.bytes.push_pixels.Given as goal
use Rattle.jbig2_region.specs.inner.RegionStates.{decoder_state}
use Rattle.jbig2_region.specs.inner.Windows.{IsLeft}

abbrev pub invariant-loop : goal.invariant-loop
invariant-loop g l = record {
  bytes : l.decoder.bytes ≡ l.initial.decoder.bytes;
  moved : l.register ≡ register_of l.fn.neighbours l.fn.windows * 2 ^ l.counter;
  made : l.beside ≡ l.fn.left * 2 ^ l.counter + l.beside % 2 ^ l.counter;
  context : l.context ≡ cut_of l.fn.neighbours l.register l.beside;
  left : (grid : Grid) (x y : ℕ) → IsAtPixels grid x y l.fn.count l.fn.left l.fn.windows → IsLeft (with_pixels grid x y l.counter (l.beside % 2 ^ l.counter)) (x + l.counter) y l.beside;
  has_decoded : PushesPixels l.fn.neighbours l.fn.count l.fn.left l.fn.windows l.counter (l.beside % 2 ^ l.counter) (decoder_state l.initial.decoder l.initial.contexts) (decoder_state l.decoder l.contexts);
  steps : l.steps ≡ record l.initial.steps { decisions = l.initial.steps.decisions + l.counter };
}
