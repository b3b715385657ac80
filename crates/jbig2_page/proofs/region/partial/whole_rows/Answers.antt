use Rattle.std.proofs.Common.{arith}
use Rattle.jbig2_steps.proofs.WorkLemmas.{counts-worth}
use Rattle.jbig2_page.proofs.region.partial.whole_rows.Goals as goal

pub returns-clause-paid : goal.returns-clause-paid
returns-clause-paid g c =
    let counted = counts-worth c.pay_bitmap.new.self c.whole_rows.new.steps _ c.whole_rows.ensures.paid in
    omega (arith, counted, c.in_ok-pay.ensures.taken, c.in_ok-pay_bitmap.ensures.taken)
