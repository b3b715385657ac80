use Rattle.std.proofs.Common.{◌≡◌, length, ◌+◌, ◌*◌}
use Rattle.jbig2_base.specs.Counts.{words_made}
use Rattle.jbig2_halftone.specs.Steps.{TakesLanes, taking_loads, words_of_plane}
use Rattle.jbig2_halftone.specs.inner.FunctionResults.{MovesByMmr}
use Rattle.jbig2_halftone.specs.inner.GrayScaleViews.{gray_view}
use Rattle.jbig2_halftone.proofs.GrayCounts.{NoneYet}
use Rattle.jbig2_halftone.proofs.PlaneLemmas.{AddsMmr}
use Rattle.jbig2_halftone.proofs.gray_scale.planes.add_mmr_planes.Given as goal

abbrev pub invariant-loop : goal.invariant-loop
invariant-loop g l = record {
  adds : AddsMmr (gray_view l.params) l.bytes l.counter l.values l.rest;
  work : MovesByMmr (words_of_plane (gray_view l.params)) l.counter (length l.bytes) (length l.rest) (l.counter * taking_loads (gray_view l.params)) l.fn.steps l.steps;
  lanes : TakesLanes (gray_view l.params) l.counter l.fn.steps l.steps;
  none : NoneYet l.counter l.fn.steps l.steps;
  cleared : l.steps.cleared ≡ l.fn.steps.cleared + l.counter * words_made l.params.width l.params.height;
}
