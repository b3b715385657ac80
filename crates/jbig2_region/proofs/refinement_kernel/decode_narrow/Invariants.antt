use Rattle.std.proofs.Common.{◌≤◌, ◌+◌, ◌*◌}
use Rattle.jbig2_region.specs.inner.ReferenceViews.{reference_view}
use Rattle.jbig2_region.specs.inner.RefinementWindows.{SeesRows, windowed_coding}
use Rattle.jbig2_region.proofs.StretchLemmas.{RowsDecoded}
use Rattle.jbig2_region.proofs.refinement_kernel.decode_narrow.Given as goal

abbrev pub invariant-loop-y : goal.invariant-loop-y
invariant-loop-y g l = record {
  rows : RowsDecoded (windowed_coding l.fn.coding) l.initial.bitmap l.initial.decoder l.initial.contexts l.initial.steps l.y l.predicted l.bitmap l.decoder l.contexts l.steps;
  words : l.steps.words ≤ l.initial.steps.words + l.y * l.initial.bitmap.width;
  loads : l.steps.loads ≤ l.initial.steps.loads + l.y;
  sees : SeesRows l.bitmap (reference_view l.fn.coding.reference.now) 0 l.y l.windows;
}
