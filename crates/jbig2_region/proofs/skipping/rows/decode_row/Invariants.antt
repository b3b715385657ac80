use Rattle.std.proofs.Common.{◌≡◌, ◌≤◌, ◌+◌, ◌*◌, ◌<◌, min, false}
use Rattle.jbig2_base.specs.Counts.{KeepsLanes}
use Rattle.jbig2_region.specs.{inner.RegionViews.{skip_of}, Generic.{skipping_coding}}
use Rattle.jbig2_region.specs.inner.Neighbours.{nominal_pixels}
use Rattle.jbig2_region.proofs.skipping.rows.decode_row.Given as goal
use Rattle.jbig2_region.specs.inner.RegionStates.{counted_region}
use Rattle.jbig2_region.specs.inner.DecodedPixels.{DecodesPixels}
use Rattle.jbig2_region.specs.inner.Windows.{IsLeft}

abbrev pub invariant-loop-index : goal.invariant-loop-index
invariant-loop-index g l = record {
  decoded : DecodesPixels (skipping_coding (nominal_pixels l.fn.neighbours) (skip_of l.fn.skip)) false 0 l.fn.y (min (l.index * 32) l.initial.bitmap.width) (counted_region l.initial.bitmap l.initial.decoder l.initial.contexts l.initial.steps) (counted_region l.bitmap l.decoder l.contexts l.steps);
  few : l.left < 16;
  left : IsLeft l.bitmap (min (l.index * 32) l.initial.bitmap.width) l.fn.y l.left;
  loads : l.steps.loads ≤ l.initial.steps.loads + l.index * 3;
  words : l.steps.words ≡ l.initial.steps.words + l.index;
  lanes : KeepsLanes l.initial.steps l.steps;
}
