use Rattle.std.proofs.Common.{◌≡◌, ◌+◌, ◌-◌, ◌*◌, ◌^◌, ◌<◌}
use Rattle.jbig2_region.specs.inner.RefinementBlocks.{MovesBlock}
use Rattle.jbig2_region.specs.inner.RefinementLanes.{Lanes}
use Rattle.jbig2_region.specs.inner.RefinementWindows.{context_made, four_of, nine_of}
use Rattle.jbig2_region.specs.RefinementTemplates.{refinement_bits}
use Rattle.jbig2_region.proofs.refinement_kernel.push_pixels.Given as goal
use Rattle.jbig2_region.specs.inner.RegionStates.{counted_decoder}

abbrev pub invariant-loop : goal.invariant-loop
invariant-loop g l = record {
  block : MovesBlock l.fn.template l.fn.windows l.fn.offset l.counter l.fn.pixels (counted_decoder l.initial.decoder l.initial.contexts l.initial.steps) l.pixels (counted_decoder l.decoder l.contexts l.steps);
  room : l.pixels < 16 * 2 ^ (l.fn.offset + l.counter);
  bound : l.context < 2 ^ refinement_bits l.fn.template;
  lanes : l.counter < l.fn.count → Lanes l.fn.windows (l.fn.offset + l.counter) (12 - l.counter) l.lanes;
  context : l.counter < l.fn.count → l.context ≡ context_made l.fn.template (nine_of l.fn.windows (l.fn.offset + l.counter)) (four_of l.fn.windows l.pixels (l.fn.offset + l.counter));
}
