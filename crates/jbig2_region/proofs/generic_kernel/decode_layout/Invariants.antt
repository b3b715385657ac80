use Rattle.std.proofs.Common.{◌≡◌, ◌≤◌, ◌+◌, ◌*◌}
use Rattle.jbig2_base.specs.Counts.{KeepsLanes}
use Rattle.jbig2_region.specs.inner.RegionStates.{HasDecoded, region_state}
use Rattle.jbig2_region.specs.Raster.{no_pixels}
use Rattle.jbig2_region.specs.inner.Rows.{after_rows}
use Rattle.jbig2_region.specs.Steps.{row_loads, row_tests, row_words}
use Rattle.jbig2_region.specs.inner.RowCounts.{coded_rows}
use Rattle.jbig2_region.proofs.RegionLemmas.{Counted}
use Rattle.jbig2_region.specs.inner.Layouts.{is_nominal_layout, layout_coding, layout_loads, layout_pixels}
use Rattle.jbig2_region.proofs.generic_kernel.decode_layout.Given as goal

abbrev pub invariant-loop-y : goal.invariant-loop-y
invariant-loop-y g l = record {
  width : l.bitmap.width ≡ l.initial.bitmap.width;
  height : l.bitmap.height ≡ l.initial.bitmap.height;
  bytes : l.decoder.bytes ≡ l.initial.decoder.bytes;
  has_decoded : HasDecoded l.initial.bitmap.width l.initial.bitmap.height l.initial.decoder.bytes (after_rows (layout_coding l.fn.layout l.fn.row_context) l.initial.bitmap.width l.initial.bitmap.height l.initial.decoder.bytes l.y (no_pixels l.initial.decoder.registers l.initial.contexts)) (region_state l.bitmap l.decoder l.contexts);
  predicted : (after_rows (layout_coding l.fn.layout l.fn.row_context) l.initial.bitmap.width l.initial.bitmap.height l.initial.decoder.bytes l.y (no_pixels l.initial.decoder.registers l.initial.contexts)).predicted ≡ l.predicted;
  none : l.y ≡ 0 → l.steps ≡ l.initial.steps;
  decisions : Counted (layout_pixels l.fn.layout) (is_nominal_layout l.fn.layout.adaptive) (layout_coding l.fn.layout l.fn.row_context) l.initial.bitmap.width l.initial.bitmap.height l.initial.decoder.bytes l.y (no_pixels l.initial.decoder.registers l.initial.contexts) l.initial.steps.decisions l.steps.decisions;
  run_tests : l.steps.run_tests ≤ l.initial.steps.run_tests + l.y * row_tests (is_nominal_layout l.fn.layout.adaptive) l.initial.bitmap.width;
  words : l.steps.words ≤ l.initial.steps.words + l.y * row_words (is_nominal_layout l.fn.layout.adaptive) l.initial.bitmap.width;
  loads : l.steps.loads ≤ l.initial.steps.loads + (l.y * row_loads (is_nominal_layout l.fn.layout.adaptive) l.initial.bitmap.width + l.initial.bitmap.width * coded_rows (layout_coding l.fn.layout l.fn.row_context) l.initial.bitmap.width l.initial.bitmap.height l.initial.decoder.bytes l.y (no_pixels l.initial.decoder.registers l.initial.contexts) * layout_loads l.fn.layout.adaptive);
  lanes : KeepsLanes l.initial.steps l.steps;
}
