use Rattle.std.proofs.Common.{◌≡◌, ◌+◌, ◌*◌, ◌<◌, false}
use Rattle.jbig2_base.specs.Counts.{KeepsLanes}
use Rattle.jbig2_region.specs.inner.Neighbours.{DecodesPixels, adaptive_count, mixed_pixels, SameAbove}
use Rattle.jbig2_region.proofs.generic_kernel.pixels.decode_pixels.Given as goal
use Rattle.jbig2_region.specs.inner.RegionStates.{region_state}
use Rattle.jbig2_region.specs.inner.Windows.{IsLeft}

abbrev pub invariant-loop-offset : goal.invariant-loop-offset
invariant-loop-offset g l = record {
  width : l.bitmap.width ≡ l.initial.bitmap.width;
  height : l.bitmap.height ≡ l.initial.bitmap.height;
  bytes : l.decoder.bytes ≡ l.initial.decoder.bytes;
  few : l.left < 16;
  above : SameAbove l.initial.bitmap l.bitmap l.fn.place.y;
  left : IsLeft l.bitmap (l.fn.place.x + l.offset) l.fn.place.y l.left;
  has_decoded : DecodesPixels (mixed_pixels l.fn.neighbours l.fn.adaptive) false l.fn.place.x l.fn.place.y l.offset (region_state l.initial.bitmap l.initial.decoder l.initial.contexts) (region_state l.bitmap l.decoder l.contexts);
  decisions : l.steps.decisions ≡ l.initial.steps.decisions + l.offset;
  words : l.steps.words ≡ l.initial.steps.words + l.offset;
  run_tests : l.steps.run_tests ≡ l.initial.steps.run_tests;
  lanes : KeepsLanes l.initial.steps l.steps;
  loads : l.steps.loads ≡ l.initial.steps.loads + l.offset * adaptive_count l.fn.adaptive;
}
