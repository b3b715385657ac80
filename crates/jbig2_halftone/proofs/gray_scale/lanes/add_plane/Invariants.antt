use Rattle.std.proofs.Common.{◌≡◌}
use Rattle.jbig2_halftone.specs.inner.FunctionResults.{after_lane_rows}
use Rattle.jbig2_halftone.proofs.RowLemmas.{TakenRows}
use Rattle.jbig2_halftone.proofs.gray_scale.lanes.add_plane.Given as goal

abbrev pub invariant-loop-y : goal.invariant-loop-y
invariant-loop-y g l = record {
  rows : TakenRows l.plane l.y l.fn.values l.values;
  counts : l.steps ≡ after_lane_rows l.y l.plane.width l.fn.steps;
}
