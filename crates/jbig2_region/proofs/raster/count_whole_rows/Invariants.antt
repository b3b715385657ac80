use Rattle.std.proofs.Common.{◌≡◌, ◌+◌}
use Rattle.jbig2_region.specs.WholeRows.{whole_rows}
use Rattle.jbig2_region.specs.inner.RegionStates.{region_state, source_of}
use Rattle.jbig2_region.proofs.WholeRowLemmas.{HasRows}
use Rattle.jbig2_region.proofs.raster.count_whole_rows.Given as goal

abbrev pub invariant-loop-y : goal.invariant-loop-y
invariant-loop-y g l = record {
  rows : HasRows (g.C.PixelCoding.coding l.fn.coding) (g.C.PixelCoding.bits l.fn.coding + g.C.PixelCoding.known_loads l.fn.coding) l.initial.bitmap l.initial.decoder l.initial.contexts l.initial.steps l.y l.predicted l.bitmap l.decoder l.contexts l.steps;
  whole : whole_rows (g.C.PixelCoding.coding l.fn.coding) (source_of (region_state l.initial.bitmap l.initial.decoder l.initial.contexts)) l.y ≡ l.y;
}
