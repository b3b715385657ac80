use Rattle.std.proofs.Common.{◌≡◌, ◌+◌, ◌*◌}
use Rattle.jbig2_base.specs.Counts.{words_made}
use Rattle.jbig2_halftone.specs.GrayScale.{gray_values}
use Rattle.jbig2_halftone.specs.inner.GrayScaleViews.{gray_view}
use Rattle.jbig2_halftone.specs.inner.FunctionResults.{CountsCoded, coded_planes}
use Rattle.jbig2_halftone.proofs.GrayCounts.{NoneYet}
use Rattle.jbig2_halftone.proofs.PlaneLemmas.{AfterPlanes}
use Rattle.jbig2_halftone.proofs.gray_scale.planes.add_coded_planes.Given as goal

abbrev pub invariant-loop : goal.invariant-loop
invariant-loop g l = record {
  after : AfterPlanes (gray_view l.params) l.bytes l.counter l.decoder l.contexts;
  values : l.values ≡ gray_values l.params.width l.params.height (coded_planes (gray_view l.params) l.bytes l.counter);
  counts : CountsCoded (gray_view l.params) l.bytes l.counter l.fn.steps l.steps;
  none : NoneYet l.counter l.fn.steps l.steps;
  cleared : l.steps.cleared ≡ l.fn.steps.cleared + l.counter * words_made l.params.width l.params.height;
}
