use Rattle.std.proofs.Common.{◌≡◌, ◌+◌, ◌*◌, drop}
use Rattle.jbig2_base.specs.Counts.{WritesWithin}
use Rattle.jbig2_halftone.specs.Halftone.{cells_drawn}
use Rattle.jbig2_halftone.specs.inner.HalftoneHeaderViews.{header_view}
use Rattle.jbig2_halftone.specs.inner.DictionaryViews.{dictionary_view}
use Rattle.jbig2_halftone.specs.Steps.{words_of_cells}
use Rattle.jbig2_halftone.specs.inner.CellPlaces.{x_of, y_of}
use Rattle.jbig2_halftone.specs.Patterns.{HasSize}
use Rattle.jbig2_halftone.proofs.halftone.draw_row.Given as goal

abbrev pub invariant-loop-value : goal.invariant-loop-value
invariant-loop-value g l = record {
  x : l.place.x ≡ x_of (header_view l.header) l.m l.value-index;
  y : l.place.y ≡ y_of (header_view l.header) l.m l.value-index;
  drawn : cells_drawn (header_view l.header) (dictionary_view l.dictionary) (l.m * l.header.grid_position_and_size.width + l.value-index) (drop l.value-index l.values) l.bitmap ≡ cells_drawn (header_view l.header) (dictionary_view l.dictionary) (l.m * l.header.grid_position_and_size.width) l.values l.fn.bitmap;
  size : HasSize l.fn.bitmap.width l.fn.bitmap.height l.bitmap;
  counts : WritesWithin (words_of_cells (header_view l.header) (dictionary_view l.dictionary) (l.m * l.header.grid_position_and_size.width) l.value-index) l.fn.steps l.steps;
}
