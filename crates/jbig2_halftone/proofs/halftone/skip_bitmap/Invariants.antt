use Rattle.std.proofs.Common.{◌≡◌, ◌+◌, ◌*◌}
use Rattle.jbig2_base.specs.Counts.{bitmap_made}
use Rattle.jbig2_region.specs.Raster.{so_far}
use Rattle.jbig2_halftone.specs.inner.HalftoneHeaderViews.{header_view}
use Rattle.jbig2_halftone.specs.inner.DictionaryViews.{dictionary_view}
use Rattle.jbig2_halftone.proofs.CellLemmas.{skips}
use Rattle.jbig2_halftone.specs.inner.CellPlaces.{x_of, y_of}
use Rattle.jbig2_halftone.proofs.halftone.skip_bitmap.Given as goal

abbrev pub invariant-loop-m : goal.invariant-loop-m
invariant-loop-m g l = record {
  x : l.first.x ≡ x_of (header_view l.header) l.m 0;
  y : l.first.y ≡ y_of (header_view l.header) l.m 0;
  skips : l.skip ≡ so_far l.header.grid_position_and_size.width l.header.grid_position_and_size.height (skips (header_view l.header) (dictionary_view l.dictionary) l.header.grid_position_and_size.width (l.m * l.header.grid_position_and_size.width));
  counts : l.steps ≡ record (bitmap_made l.header.grid_position_and_size.width l.header.grid_position_and_size.height l.fn.steps) { words = l.fn.steps.words + l.m * l.header.grid_position_and_size.width };
}

abbrev pub invariant-loop-n : goal.invariant-loop-n
invariant-loop-n g l = record {
  x : l.place.x ≡ x_of (header_view l.header) l.m l.n;
  y : l.place.y ≡ y_of (header_view l.header) l.m l.n;
  skips : l.skip ≡ so_far l.header.grid_position_and_size.width l.header.grid_position_and_size.height (skips (header_view l.header) (dictionary_view l.dictionary) l.header.grid_position_and_size.width (l.m * l.header.grid_position_and_size.width + l.n));
  counts : l.steps ≡ record (bitmap_made l.header.grid_position_and_size.width l.header.grid_position_and_size.height l.fn.steps) { words = l.fn.steps.words + (l.m * l.header.grid_position_and_size.width + l.n) };
}
