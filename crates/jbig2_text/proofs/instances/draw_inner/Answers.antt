use Rattle.std.proofs.Common.{arith, ◌∙◌}
use Rattle.jbig2_text.specs.Text.{after_instances}
use Rattle.jbig2_text.specs.inner.FunctionResults.{reaching}
use Rattle.jbig2_text.specs.inner.TextViews.{params_view}
use Rattle.jbig2_text.proofs.InstanceLemmas.{inner-next, inner-fault, inner-done}
use Rattle.jbig2_text.proofs.instances.draw_inner.Goals as goal

pub returns-in-Err-clause-value : goal.returns-in-Err-clause-value
returns-in-Err-clause-value g c =
    let r = g.R.ReadInstances in
    let p = params_view c.args.params.now in
    let whole = after_instances r.readings p c.args.count (reaching c.args.region.now c.args.cursor c.args.refining.now (r.state c.args.readings.now)) in
    let here = reaching c.loop.region c.loop.cursor c.loop.refining (r.state c.loop.readings) in
    inner-fault r.readings p c.args.count c.loop.counter here c.in-Err.error whole c.loop-test.true c.loop.invariant.goes c.in-Err.ensures.value

pub loop-preserved : goal.loop-preserved
loop-preserved g c =
    let r = g.R.ReadInstances in
    let p = params_view c.args.params.now in
    let whole = after_instances r.readings p c.args.count (reaching c.args.region.now c.args.cursor c.args.refining.now (r.state c.args.readings.now)) in
    let here = reaching c.loop.region c.loop.cursor c.loop.refining (r.state c.loop.readings) in
    let next = reaching c.draw_and_move.new.region c.in-Ok.next c.draw_and_move.new.refining (r.state c.draw_and_move.new.readings) in
    record {
      goes = inner-next r.readings p c.args.count c.loop.counter here next whole c.loop-test.true c.loop.invariant.goes c.in-Ok.ensures.value;
      size = (c.draw_and_move.ensures.size.0 ∙ c.loop.invariant.size.0, c.draw_and_move.ensures.size.1 ∙ c.loop.invariant.size.1);
      paid = omega (arith, c.draw_and_move.ensures.paid, c.loop.invariant.paid);
    }

pub returns-clause-value : goal.returns-clause-value
returns-clause-value g c =
    let r = g.R.ReadInstances in
    let p = params_view c.args.params.now in
    let whole = after_instances r.readings p c.args.count (reaching c.args.region.now c.args.cursor c.args.refining.now (r.state c.args.readings.now)) in
    let here = reaching c.loop.region c.loop.cursor c.loop.refining (r.state c.loop.readings) in
    inner-done r.readings p c.args.count c.loop.counter here whole c.loop-test.false c.loop.invariant.goes
