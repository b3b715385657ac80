use Rattle.std.proofs.Common.{◌*◌}
use Rattle.jbig2_steps.specs.Work.{CountsWithin, price_of_bitmap}
use Rattle.jbig2_halftone.specs.inner.GrayScaleViews.{gray_view}
use Rattle.jbig2_halftone.proofs.PlaneLemmas.{AfterPlanes}
use Rattle.jbig2_halftone.proofs.gray_scale.whole_rows.count_coded_rows.Given as goal

abbrev pub invariant-loop : goal.invariant-loop
invariant-loop g l = record {
  after : AfterPlanes (gray_view l.params) l.bytes l.counter l.decoder l.contexts;
  paid : CountsWithin (l.counter * price_of_bitmap l.params.width l.params.height) l.fn.steps l.steps;
}
