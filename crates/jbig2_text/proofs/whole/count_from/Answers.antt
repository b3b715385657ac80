use Rattle.std.proofs.Common.{◌+◌, ap, arith, inr, sym, ◌∙◌, Ok, ℕ}
use Rattle.jbig2_text.specs.WholeInstances.{whole_from}
use Rattle.jbig2_text.specs.inner.FunctionResults.{reaching}
use Rattle.jbig2_text.specs.inner.TextViews.{params_view}
use Rattle.jbig2_text.proofs.WholeInstanceLemmas.{count-ends, whole-beyond, whole-done, whole-fault, whole-last, whole-next}
use Rattle.jbig2_text.proofs.whole.count_from.Goals as goal

pub returns-in-Err-clause-value : goal.returns-in-Err-clause-value
returns-in-Err-clause-value g c =
    let r = g.R.ReadInstances in
    let p = params_view c.args.params.now in
    let whole = whole_from r.readings p c.args.most (reaching c.args.region.now c.args.cursor c.args.refining.now (r.state c.args.readings.now)) in
    let here = reaching c.loop-counted.region c.loop-counted.cursor c.loop-counted.refining (r.state c.loop-counted.readings) in
    count-ends c.count_at_error.result c.in-Err.error c.loop-counted.counted whole c.count_at_error.ensures
    (whole-fault r.readings p c.args.most c.loop-counted.counted whole here c.in-Err.error c.loop-counted-test.true c.loop-counted.invariant.so_far c.in-Err.ensures.value)

pub returns-then-not-is_within_data-clause-value : goal.returns-then-not-is_within_data-clause-value
returns-then-not-is_within_data-clause-value g c =
    let r = g.R.ReadInstances in
    let p = params_view c.args.params.now in
    let whole = whole_from r.readings p c.args.most (reaching c.args.region.now c.args.cursor c.args.refining.now (r.state c.args.readings.now)) in
    let here = reaching c.loop-counted.region c.loop-counted.cursor c.loop-counted.refining (r.state c.loop-counted.readings) in
    let after = reaching c.draw_instance.new.region c.in-Ok.after c.draw_instance.new.refining (r.state c.draw_instance.new.readings) in
    ap (λ (n : ℕ). Ok n) (whole-beyond r.readings p c.args.most c.loop-counted.counted whole here after c.loop-counted-test.true c.loop-counted.invariant.so_far c.in-Ok.ensures.value (sym c.is_within_data.ensures ∙ c.if-not-is_within_data.true))

pub returns-in-Err-move_on-clause-value : goal.returns-in-Err-move_on-clause-value
returns-in-Err-move_on-clause-value g c =
    let r = g.R.ReadInstances in
    let p = params_view c.args.params.now in
    let whole = whole_from r.readings p c.args.most (reaching c.args.region.now c.args.cursor c.args.refining.now (r.state c.args.readings.now)) in
    let here = reaching c.loop-counted.region c.loop-counted.cursor c.loop-counted.refining (r.state c.loop-counted.readings) in
    let after = reaching c.draw_instance.new.region c.in-Ok.after c.draw_instance.new.refining (r.state c.draw_instance.new.readings) in
    count-ends c.count_at_error-in-Err-move_on.result c.in-Err-move_on.error (c.loop-counted.counted + 1) whole c.count_at_error-in-Err-move_on.ensures
    (inr (whole-last r.readings p c.args.most c.loop-counted.counted whole here after c.in-Err-move_on.error c.loop-counted-test.true c.loop-counted.invariant.so_far c.in-Ok.ensures.value (sym c.is_within_data.ensures ∙ c.if-not-is_within_data.false) c.in-Err-move_on.ensures.value))

pub loop-counted-preserved : goal.loop-counted-preserved
loop-counted-preserved g c =
    let r = g.R.ReadInstances in
    let p = params_view c.args.params.now in
    let whole = whole_from r.readings p c.args.most (reaching c.args.region.now c.args.cursor c.args.refining.now (r.state c.args.readings.now)) in
    let here = reaching c.loop-counted.region c.loop-counted.cursor c.loop-counted.refining (r.state c.loop-counted.readings) in
    let after = reaching c.draw_instance.new.region c.in-Ok.after c.draw_instance.new.refining (r.state c.draw_instance.new.readings) in
    record {
      so_far = whole-next r.readings p c.args.most c.loop-counted.counted whole here after c.in-Ok-move_on.next (r.state c.move_on.new.readings) c.loop-counted-test.true c.loop-counted.invariant.so_far c.in-Ok.ensures.value (sym c.is_within_data.ensures ∙ c.if-not-is_within_data.false) c.in-Ok-move_on.ensures.value;
      paid = omega (arith, c.draw_instance.ensures.paid, c.move_on.ensures.paid, c.loop-counted.invariant.paid);
    }

pub returns-clause-value : goal.returns-clause-value
returns-clause-value g c =
    let r = g.R.ReadInstances in
    let p = params_view c.args.params.now in
    let whole = whole_from r.readings p c.args.most (reaching c.args.region.now c.args.cursor c.args.refining.now (r.state c.args.readings.now)) in
    let here = reaching c.loop-counted.region c.loop-counted.cursor c.loop-counted.refining (r.state c.loop-counted.readings) in
    ap (λ (n : ℕ). Ok n) (whole-done r.readings p c.args.most c.loop-counted.counted whole here c.loop-counted-test.false c.loop-counted.auto.counted-end c.loop-counted.invariant.so_far)
