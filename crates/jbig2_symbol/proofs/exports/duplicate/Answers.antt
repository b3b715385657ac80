use Rattle.jbig2_symbol.proofs.PayingLemmas.{duplicate-paid}
use Rattle.jbig2_symbol.proofs.exports.duplicate.Goals as goal

pub returns-clause-paid : goal.returns-clause-paid
returns-clause-paid g c = duplicate-paid c.args.work.now c.pay_bitmap.new.self c.duplicate.new.steps c.args.symbol.now c.width.result c.height.result c.width.ensures.value c.height.ensures.value c.in_ok-pay_bitmap.ensures.taken c.duplicate.ensures.steps
