use Rattle.std.proofs.Common.{false}
use Rattle.jbig2_region.specs.{inner.RegionViews.{skip_of}, Generic.{skipping_coding}}
use Rattle.jbig2_region.specs.inner.Neighbours.{nominal_pixels}
use Rattle.jbig2_region.specs.inner.RefinementBlocks.{Block}
use Rattle.jbig2_region.proofs.skipping.rows.decode_block.Given as goal
use Rattle.jbig2_region.specs.inner.RegionStates.{counted_decoder, counted_region}

abbrev pub invariant-loop-offset : goal.invariant-loop-offset
invariant-loop-offset g l = Block (skipping_coding (nominal_pixels l.fn.neighbours) (skip_of l.fn.skip)) false l.fn.place.x l.fn.place.y l.offset (counted_region l.bitmap l.fn.decoder l.fn.contexts l.initial.steps) l.pixels (counted_decoder l.decoder l.contexts l.steps)
