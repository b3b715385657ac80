use Rattle.std.proofs.Common.{◌+◌, ◌-◌, ◌*◌, ◌≤◌}
use Rattle.jbig2_steps.specs.Work.{sum_of_counts}
use Rattle.std.specs.List.{range_with_len, flat_map}
use Rattle.jbig2_page.specs.Calls.{calls_of, line_calls}
use Rattle.jbig2_page.proofs.Sending.{Half}
use Rattle.jbig2_page.proofs.page.calls.push_bitmap.Given as goal

abbrev pub invariant-loop-y : goal.invariant-loop-y
invariant-loop-y g l = record {
  sent : Half g.D.Decoder.conduct (calls_of l.bitmap) (flat_map (line_calls l.bitmap) (range_with_len l.y (l.bitmap.height - l.y))) l.fn.decoder l.decoder;
  steps : sum_of_counts l.steps ≤ sum_of_counts l.fn.steps + l.y * (l.bitmap.width + 1);
}
