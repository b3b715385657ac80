use Rattle.std.proofs.Common.{arith}
use Rattle.jbig2_base.proofs.MadeLemmas.{words-same}
use Rattle.jbig2_text.proofs.PayingLemmas.{filled-worth}
use Rattle.jbig2_text.proofs.instances.draw_instances_by.Goals as goal

pub returns-then-is_err-clause-paid : goal.returns-then-is_err-clause-paid
returns-then-is_err-clause-paid g c =
    let drawn = c.draw_instances-drawn.new.region in
    let size = c.draw_instances-drawn.ensures.size in
    omega (arith, filled-worth c.draw_instances-drawn.new.work drawn c.fill.new.steps c.fill.ensures.steps, words-same drawn.width c.args.region.now.width drawn.height c.args.region.now.height size.0 size.1, c.draw_instances-drawn.ensures.paid)
