use Rattle.std.proofs.Common.{arith}
use Rattle.jbig2_page.proofs.Paying.{counts-paid}
use Rattle.jbig2_page.proofs.kept.segments.decode_patterns.Goals as goal

pub returns-clause-paid : goal.returns-clause-paid
returns-clause-paid g c = counts-paid c.args.work.now c.pay_patterns.new.work c.decode-dictionary.new.steps _ (omega (arith, c.in_ok-pay_patterns.ensures.taken)) c.decode-dictionary.ensures.paid
