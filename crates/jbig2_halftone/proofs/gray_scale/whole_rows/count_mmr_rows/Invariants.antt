use Rattle.std.proofs.Common.{◌≡◌, ◌+◌, ◌*◌, length}
use Rattle.jbig2_base.specs.Counts.{words_made}
use Rattle.jbig2_halftone.specs.Steps.{TakesLanes, words_of_plane}
use Rattle.jbig2_halftone.specs.GrayScale.{mmr_left}
use Rattle.jbig2_halftone.specs.inner.FunctionResults.{MovesByMmr}
use Rattle.jbig2_halftone.specs.inner.GrayScaleViews.{gray_view}
use Rattle.jbig2_halftone.proofs.gray_scale.whole_rows.count_mmr_rows.Given as goal

abbrev pub invariant-loop : goal.invariant-loop
invariant-loop g l = record {
  rest : l.rest ≡ mmr_left (gray_view l.params) l.bytes l.counter;
  work : MovesByMmr (words_of_plane (gray_view l.params)) l.counter (length l.bytes) (length l.rest) 0 l.fn.steps l.steps;
  lanes : TakesLanes (gray_view l.params) 0 l.fn.steps l.steps;
  cleared : l.steps.cleared ≡ l.fn.steps.cleared + l.counter * words_made l.params.width l.params.height;
}
