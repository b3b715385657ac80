use Rattle.std.proofs.Common.{◌≡◌, ◌≤◌, ◌+◌, ◌*◌, true, false}
use Rattle.jbig2_base.specs.Counts.{KeepsLanes}
use Rattle.jbig2_region.specs.inner.RegionStates.{HasDecoded, region_state}
use Rattle.jbig2_region.specs.inner.Neighbours.{nominal_pixels, row_coding}
use Rattle.jbig2_region.specs.Raster.{no_pixels}
use Rattle.jbig2_region.specs.inner.Rows.{after_rows}
use Rattle.jbig2_region.specs.Steps.{row_tests, row_words}
use Rattle.jbig2_region.proofs.RegionLemmas.{Counted}
use Rattle.jbig2_region.specs.inner.Windows.{Shows}
use Rattle.jbig2_region.proofs.generic_kernel.narrow.decode_rows.Given as goal

abbrev pub invariant-loop-y : goal.invariant-loop-y
invariant-loop-y g l = record {
  width : l.bitmap.width ≡ l.initial.bitmap.width;
  height : l.bitmap.height ≡ l.initial.bitmap.height;
  bytes : l.decoder.bytes ≡ l.initial.decoder.bytes;
  has_decoded : HasDecoded l.initial.bitmap.width l.initial.bitmap.height l.initial.decoder.bytes (after_rows (row_coding (nominal_pixels l.fn.neighbours)) l.initial.bitmap.width l.initial.bitmap.height l.initial.decoder.bytes l.y (no_pixels l.initial.decoder.registers l.initial.contexts)) (region_state l.bitmap l.decoder l.contexts);
  predicted : (after_rows (row_coding (nominal_pixels l.fn.neighbours)) l.initial.bitmap.width l.initial.bitmap.height l.initial.decoder.bytes l.y (no_pixels l.initial.decoder.registers l.initial.contexts)).predicted ≡ false;
  none : l.y ≡ 0 → l.steps ≡ l.initial.steps;
  decisions : Counted (nominal_pixels l.fn.neighbours) true (row_coding (nominal_pixels l.fn.neighbours)) l.initial.bitmap.width l.initial.bitmap.height l.initial.decoder.bytes l.y (no_pixels l.initial.decoder.registers l.initial.contexts) l.initial.steps.decisions l.steps.decisions;
  run_tests : l.steps.run_tests ≤ l.initial.steps.run_tests + l.y * row_tests true l.initial.bitmap.width;
  words : l.steps.words ≤ l.initial.steps.words + l.y * row_words true l.initial.bitmap.width;
  loads : l.steps.loads ≡ l.initial.steps.loads;
  lanes : KeepsLanes l.initial.steps l.steps;
  shows : Shows l.bitmap 0 l.y 64 l.windows;
}
