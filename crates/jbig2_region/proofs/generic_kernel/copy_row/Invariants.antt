use Rattle.std.proofs.Common.{◌≡◌, ◌+◌, ◌*◌, min, true, List}
use Rattle.jbig2_base.specs.Counts.{KeepsLanes}
use Rattle.jbig2_coder.specs.Coder.{Coder, Context}
use Rattle.jbig2_region.specs.inner.Neighbours.{DecodesPixels}
use Rattle.jbig2_region.specs.declared.template.AdaptiveTemplatePixel.{AdaptiveTemplatePixel}
use Rattle.jbig2_region.proofs.generic_kernel.copy_row.Given as goal
use Rattle.jbig2_region.specs.inner.RegionStates.{region_state}

abbrev pub invariant-loop-index : goal.invariant-loop-index
invariant-loop-index g l = record {
  width : l.bitmap.width ≡ l.initial.bitmap.width;
  height : l.bitmap.height ≡ l.initial.bitmap.height;
  has_decoded : (template : List AdaptiveTemplatePixel) (coder : Coder) (states : List Context) → DecodesPixels template true 0 l.fn.y (min (l.index * 64) l.initial.bitmap.width) (region_state l.initial.bitmap coder states) (region_state l.bitmap coder states);
  loads : l.steps.loads ≡ l.initial.steps.loads + l.index;
  words : l.steps.words ≡ l.initial.steps.words + l.index;
  decisions : l.steps.decisions ≡ l.initial.steps.decisions;
  run_tests : l.steps.run_tests ≡ l.initial.steps.run_tests;
  lanes : KeepsLanes l.initial.steps l.steps;
}
