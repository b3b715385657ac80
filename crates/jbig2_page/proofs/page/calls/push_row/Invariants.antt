use Rattle.std.proofs.Common.{◌+◌, ◌-◌, ◌≤◌}
use Rattle.jbig2_steps.specs.Work.{sum_of_counts}
use Rattle.jbig2_page.specs.Calls.{line_calls}
use Rattle.jbig2_page.proofs.Runs.{left_calls}
use Rattle.jbig2_page.proofs.Sending.{Half}
use Rattle.jbig2_page.proofs.page.calls.push_row.Given as goal

abbrev pub invariant-loop-x : goal.invariant-loop-x
invariant-loop-x g l = record {
  within : l.x ≤ l.width;
  sent : Half g.D.Decoder.conduct (line_calls l.bitmap l.y) (left_calls l.bitmap l.y l.x) l.fn.decoder l.decoder;
  steps : sum_of_counts l.steps ≤ sum_of_counts l.fn.steps + l.x;
}

abbrev pub decreases-loop-x : goal.decreases-loop-x
decreases-loop-x g l = l.width - l.x
