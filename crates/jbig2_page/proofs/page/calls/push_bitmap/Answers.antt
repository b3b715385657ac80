use Rattle.std.proofs.Common.{◌+◌, ◌-◌, arith}
use Rattle.std.specs.List.{range_with_len, flat_map}
use Rattle.jbig2_page.specs.Calls.{line_calls, calls_of}
use Rattle.jbig2_page.proofs.Runs.{lines-first, lines-start}
use Rattle.jbig2_page.proofs.Sending.{half_none, half_as, goes_on, stops_at}
use Rattle.jbig2_steps.specs.Work.{sum_of_counts}
use Rattle.jbig2_page.proofs.Paying.{rows-next, rows-paid}
use Rattle.jbig2_page.proofs.page.calls.push_bitmap.Goals as goal

pub loop-y-init : goal.loop-y-init
loop-y-init g c =
    let d = g.D.Decoder.conduct in
    let grid = c.args.bitmap.now in
    let all = calls_of grid in
    record { sent = half_as d all all (flat_map (line_calls grid) (range_with_len 0 (grid.height - 0))) c.args.decoder.now c.args.decoder.now (lines-start grid) (half_none d all c.args.decoder.now); steps = omega arith }

pub returns-in-Err-clause-calls : goal.returns-in-Err-clause-calls
returns-in-Err-clause-calls g c =
    let grid = c.args.bitmap.now in
    let y = c.loop-y.y in
    stops_at g.D.Decoder.conduct (flat_map (line_calls grid) (range_with_len (y + 1) (grid.height - (y + 1)))) (lines-first grid y (omega arith)) c.loop-y.invariant.sent c.in-Err.ensures.calls

pub loop-y-preserved : goal.loop-y-preserved
loop-y-preserved g c =
    let grid = c.args.bitmap.now in
    let y = c.loop-y.y in
    record {
      sent = goes_on g.D.Decoder.conduct (line_calls grid y) (lines-first grid y (omega arith)) c.loop-y.invariant.sent c.in-Ok.ensures.calls;
      steps = omega (arith, c.loop-y.invariant.steps, c.in-Ok.ensures.steps);
    }

pub returns-clause-paid : goal.returns-clause-paid
returns-clause-paid g c = rows-paid c.args.bitmap.now.width c.args.bitmap.now.height c.loop-y.y (sum_of_counts c.args.steps.now) (sum_of_counts c.loop-y.steps) (omega arith) c.loop-y.invariant.steps

pub returns-in-Err-clause-paid : goal.returns-in-Err-clause-paid
returns-in-Err-clause-paid g c =
    rows-paid c.args.bitmap.now.width c.args.bitmap.now.height (c.loop-y.y + 1) (sum_of_counts c.args.steps.now) (sum_of_counts c.push_row.new.steps) (omega arith)
    (rows-next (sum_of_counts c.args.steps.now) (sum_of_counts c.loop-y.steps) (sum_of_counts c.push_row.new.steps) c.loop-y.y c.args.bitmap.now.width c.loop-y.invariant.steps c.push_row.ensures.steps)
