use Rattle.std.proofs.Common.{◌≡◌, ◌+◌, ◌*◌, ◌<◌, min, false}
use Rattle.jbig2_base.specs.Counts.{KeepsLanes}
use Rattle.jbig2_region.specs.inner.Neighbours.{DecodesPixels, adaptive_count, mixed_pixels}
use Rattle.jbig2_region.proofs.generic_kernel.pixels.decode_row_by_pixels.Given as goal
use Rattle.jbig2_region.specs.inner.RegionStates.{region_state}
use Rattle.jbig2_region.specs.inner.Windows.{IsLeft}

abbrev pub invariant-loop-index : goal.invariant-loop-index
invariant-loop-index g l = record {
  width : l.bitmap.width ≡ l.initial.bitmap.width;
  height : l.bitmap.height ≡ l.initial.bitmap.height;
  bytes : l.decoder.bytes ≡ l.initial.decoder.bytes;
  few : l.left < 16;
  left : IsLeft l.bitmap (min (l.index * 32) l.initial.bitmap.width) l.fn.y l.left;
  has_decoded : DecodesPixels (mixed_pixels l.fn.neighbours l.fn.adaptive) false 0 l.fn.y (min (l.index * 32) l.initial.bitmap.width) (region_state l.initial.bitmap l.initial.decoder l.initial.contexts) (region_state l.bitmap l.decoder l.contexts);
  decisions : l.steps.decisions ≡ l.initial.steps.decisions + min (l.index * 32) l.initial.bitmap.width;
  words : l.steps.words ≡ l.initial.steps.words + min (l.index * 32) l.initial.bitmap.width;
  run_tests : l.steps.run_tests ≡ l.initial.steps.run_tests;
  lanes : KeepsLanes l.initial.steps l.steps;
  loads : l.steps.loads ≡ l.initial.steps.loads + (2 * l.index + min (l.index * 32) l.initial.bitmap.width * adaptive_count l.fn.adaptive);
}
