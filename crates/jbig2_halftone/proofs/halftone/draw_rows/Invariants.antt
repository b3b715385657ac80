use Rattle.std.proofs.Common.{◌≡◌, ◌*◌, Ok, take}
use Rattle.jbig2_base.specs.Counts.{WritesWithin}
use Rattle.jbig2_halftone.specs.Halftone.{cells_drawn}
use Rattle.jbig2_halftone.specs.inner.HalftoneHeaderViews.{header_view}
use Rattle.jbig2_halftone.specs.inner.DictionaryViews.{dictionary_view}
use Rattle.jbig2_halftone.specs.Steps.{words_of_cells}
use Rattle.jbig2_halftone.specs.inner.CellPlaces.{x_of, y_of}
use Rattle.jbig2_halftone.specs.Patterns.{HasSize}
use Rattle.jbig2_halftone.proofs.halftone.draw_rows.Given as goal

abbrev pub invariant-loop-m : goal.invariant-loop-m
invariant-loop-m g l = record {
  x : l.first.x ≡ x_of (header_view l.header) l.m 0;
  y : l.first.y ≡ y_of (header_view l.header) l.m 0;
  drawn : cells_drawn (header_view l.header) (dictionary_view l.dictionary) 0 (take (l.m * l.header.grid_position_and_size.width) l.values) l.fn.bitmap ≡ Ok l.bitmap;
  size : HasSize l.header.region_info.width l.header.region_info.height l.bitmap;
  counts : WritesWithin (words_of_cells (header_view l.header) (dictionary_view l.dictionary) 0 (l.m * l.header.grid_position_and_size.width)) l.fn.steps l.steps;
}
