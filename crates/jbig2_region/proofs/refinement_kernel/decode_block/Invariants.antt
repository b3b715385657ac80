use Rattle.std.proofs.Common.{◌-◌, ◌≤◌}
use Rattle.jbig2_region.specs.inner.RefinementBlocks.{Block}
use Rattle.jbig2_region.specs.inner.RefinementWindows.{windowed_coding}
use Rattle.jbig2_region.proofs.refinement_kernel.decode_block.Given as goal
use Rattle.jbig2_region.specs.inner.RegionStates.{counted_decoder, counted_region}

abbrev pub invariant-loop-done : goal.invariant-loop-done
invariant-loop-done g l = record {
  within : l.done ≤ l.fn.stretch.count;
  block : Block (windowed_coding l.fn.coding) l.fn.row.predicted l.fn.stretch.x l.fn.row.y l.done (counted_region l.bitmap l.fn.decoder l.fn.contexts l.fn.steps) l.pixels (counted_decoder l.decoder l.contexts l.steps);
}

abbrev pub decreases-loop-done : goal.decreases-loop-done
decreases-loop-done g l = l.fn.stretch.count - l.done

abbrev pub invariant-loop-done-2 : goal.invariant-loop-done-2
invariant-loop-done-2 g l = record {
  within : l.done ≤ l.fn.stretch.count;
  block : Block (windowed_coding l.fn.coding) l.fn.row.predicted l.fn.stretch.x l.fn.row.y l.done (counted_region l.bitmap l.fn.decoder l.fn.contexts l.fn.steps) l.pixels (counted_decoder l.decoder l.contexts l.steps);
}

abbrev pub decreases-loop-done-2 : goal.decreases-loop-done-2
decreases-loop-done-2 g l = l.fn.stretch.count - l.done

abbrev pub invariant-loop-done-3 : goal.invariant-loop-done-3
invariant-loop-done-3 g l = record {
  within : l.done ≤ l.fn.stretch.count;
  block : Block (windowed_coding l.fn.coding) l.fn.row.predicted l.fn.stretch.x l.fn.row.y l.done (counted_region l.bitmap l.fn.decoder l.fn.contexts l.fn.steps) l.pixels (counted_decoder l.decoder l.contexts l.steps);
}

abbrev pub decreases-loop-done-3 : goal.decreases-loop-done-3
decreases-loop-done-3 g l = l.fn.stretch.count - l.done
