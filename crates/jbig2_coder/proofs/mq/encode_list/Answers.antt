use Rattle.jbig2_coder.proofs.ListSteps.{coded-all, coded-next}
use Rattle.jbig2_coder.proofs.mq.encode_list.Goals as goal

pub loop-number-init : goal.loop-number-init
loop-number-init g c = c.in_ok-encoder.ensures.coded

pub loop-number-preserved : goal.loop-number-preserved
loop-number-preserved g c =
    coded-next c.loop-number.encoder c.push.new.self c.args.list.now c.loop-number.number-index c.loop-number-test.true c.loop-number.invariant c.in_ok-push.ensures.coded

pub returns : goal.returns
returns g c =
    c.finish.ensures.bytes c.args.list.now (coded-all c.loop-number.encoder c.args.list.now c.loop-number.number-index c.loop-number-test.false c.loop-number.invariant)
