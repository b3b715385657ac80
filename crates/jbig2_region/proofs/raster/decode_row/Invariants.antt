use Rattle.std.proofs.Common.{◌≡◌, ◌≤◌, ◌+◌, ◌*◌}
use Rattle.jbig2_region.proofs.raster.decode_row.Given as goal
use Rattle.jbig2_region.specs.inner.RegionStates.{counted_region}
use Rattle.jbig2_region.specs.inner.DecodedPixels.{DecodesPixels}

abbrev pub invariant-loop-x : goal.invariant-loop-x
invariant-loop-x g l = record {
  decoded : DecodesPixels (g.C.PixelCoding.coding l.fn.coding) l.fn.row.predicted 0 l.fn.row.y l.x (counted_region l.initial.bitmap l.initial.decoder l.initial.contexts l.initial.steps) (counted_region l.bitmap l.decoder l.contexts l.steps);
  words : l.steps.words ≡ l.initial.steps.words + l.x;
  loads : l.steps.loads ≤ l.initial.steps.loads + l.x * (g.C.PixelCoding.bits l.fn.coding + g.C.PixelCoding.known_loads l.fn.coding);
}
