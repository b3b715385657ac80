use Rattle.std.proofs.Common.{◌≡◌, ◌+◌, arith, ap}
use Rattle.jbig2_writer.specs.inner.Rows.{decisions_of_pixels}
use Rattle.jbig2_region.specs.inner.Neighbours.{nominal_pixels}
use Rattle.jbig2_writer.proofs.RowLemmas.{goes-nowhere, group-more}
use Rattle.jbig2_writer.proofs.decisions.push_each.Goals as goal

pub loop-offset-init : goal.loop-offset-init
loop-offset-init g c = λ grid x y shows.
    let here : x ≡ x + 0 = omega arith in
    goes-nowhere c.args.encoder.now (decisions_of_pixels (nominal_pixels c.args.neighbours) grid y x) (decisions_of_pixels (nominal_pixels c.args.neighbours) grid y (x + 0)) (ap (λ k. decisions_of_pixels (nominal_pixels c.args.neighbours) grid y k) here)

pub loop-offset-preserved : goal.loop-offset-preserved
loop-offset-preserved g c = λ grid x y shows.
    group-more c.args.encoder.now c.loop-offset.encoder c.push.new.self c.args.neighbours grid x y c.loop-offset.offset c.context-context.result c.is_black.result
    (c.loop-offset.invariant grid x y shows) c.in_ok-push.ensures.coded (c.context-context.ensures grid x y shows) (c.is_black.ensures grid x y shows)
