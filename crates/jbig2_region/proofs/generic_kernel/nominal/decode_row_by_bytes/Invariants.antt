use Rattle.std.proofs.Common.{◌≡◌, ◌<◌, ◌≤◌, ◌+◌, ◌-◌, ◌*◌, min, false}
use Rattle.jbig2_base.specs.Counts.{KeepsLanes}
use Rattle.jbig2_region.specs.inner.Neighbours.{DecodesPixels, nominal_pixels}
use Rattle.jbig2_region.specs.inner.RowCounts.{CountsRuns}
use Rattle.jbig2_region.proofs.generic_kernel.nominal.decode_row_by_bytes.Given as goal
use Rattle.jbig2_region.specs.inner.RegionStates.{region_state}
use Rattle.jbig2_region.specs.inner.Windows.{IsLeft, Shows, ShowsBefore}

abbrev pub invariant-loop-group : goal.invariant-loop-group
invariant-loop-group g l = record {
  width : l.bitmap.width ≡ l.initial.bitmap.width;
  height : l.bitmap.height ≡ l.initial.bitmap.height;
  bytes : l.decoder.bytes ≡ l.initial.decoder.bytes;
  few : l.left < 16;
  left : IsLeft l.bitmap (8 * min (8 * l.group) l.whole) l.fn.y l.left;
  has_decoded : DecodesPixels (nominal_pixels l.fn.neighbours) false 0 l.fn.y (8 * min (8 * l.group) l.whole) (region_state l.initial.bitmap l.initial.decoder l.initial.contexts) (region_state l.bitmap l.decoder l.contexts);
  decisions : CountsRuns (nominal_pixels l.fn.neighbours) 0 l.fn.y (8 * min (8 * l.group) l.whole) (region_state l.initial.bitmap l.initial.decoder l.initial.contexts) l.initial.steps.decisions l.steps.decisions;
  run_tests : l.steps.run_tests ≤ l.initial.steps.run_tests + min (8 * l.group) l.whole;
  before : ShowsBefore l.bitmap (64 * l.group) l.fn.y l.before;
  last : 1 ≤ l.group → Shows l.bitmap (64 * (l.group - 1) + 8) l.fn.y 64 l.before;
  here : Shows l.bitmap (64 * l.group + 8) l.fn.y 64 l.here;
  loads : l.steps.loads ≤ l.initial.steps.loads + 2 * l.group;
  few_loads : l.whole < 8 → l.steps.loads ≡ l.initial.steps.loads;
  words : l.steps.words ≤ l.initial.steps.words + min (8 * l.group) l.whole;
  lanes : KeepsLanes l.initial.steps l.steps;
}
