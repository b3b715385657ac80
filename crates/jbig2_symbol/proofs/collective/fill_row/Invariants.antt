use Rattle.std.proofs.Common.{◌≡◌, ◌*◌, min}
use Rattle.jbig2_base.specs.Counts.{WritesWithin}
use Rattle.jbig2_base.specs.inner.GridsBefore.{grid_before}
use Rattle.jbig2_symbol.specs.SymbolBitmaps.{raw_pixel, raw_stride}
use Rattle.jbig2_symbol.proofs.collective.fill_row.Given as goal

abbrev pub invariant-loop-index : goal.invariant-loop-index
invariant-loop-index g l = record {
  filled : l.bitmap ≡ grid_before l.fn.bitmap.width l.fn.bitmap.height (raw_pixel l.bytes (raw_stride l.fn.bitmap.width)) l.y (min l.fn.bitmap.width (8 * l.index));
  steps : WritesWithin l.index l.fn.steps l.steps;
}
