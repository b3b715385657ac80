use Rattle.std.proofs.Common.{◌≡◌, ◌+◌, ◌*◌, ◌<◌, min}
use Rattle.jbig2_region.specs.inner.RefinementWindows.{windowed_coding}
use Rattle.jbig2_region.proofs.refinement_kernel.decode_row.Given as goal
use Rattle.jbig2_region.specs.inner.RegionStates.{counted_region}
use Rattle.jbig2_region.specs.inner.DecodedPixels.{DecodesPixels}
use Rattle.jbig2_region.specs.inner.Windows.{IsLeft}

abbrev pub invariant-loop-index : goal.invariant-loop-index
invariant-loop-index g l = record {
  decoded : DecodesPixels (windowed_coding l.fn.coding) l.fn.row.predicted 0 l.fn.row.y (min (l.index * 32) l.initial.bitmap.width) (counted_region l.initial.bitmap l.initial.decoder l.initial.contexts l.initial.steps) (counted_region l.bitmap l.decoder l.contexts l.steps);
  few : l.left < 16;
  left : IsLeft l.bitmap (min (l.index * 32) l.initial.bitmap.width) l.fn.row.y l.left;
  loads : l.steps.loads ≡ l.initial.steps.loads + l.index * 4;
  words : l.steps.words ≡ l.initial.steps.words + l.index;
}
