use Rattle.std.proofs.Common.{arith}
use Rattle.jbig2_text.proofs.PayingLemmas.{twice-paid}
use Rattle.jbig2_text.proofs.prefixed.PrefixedReadingsReadInstances.refine.Goals as goal

pub returns-in_err-size-clause-paid : goal.returns-in_err-size-clause-paid
returns-in_err-size-clause-paid g c = omega (arith, twice-paid c.args.bitmap.now.width c.args.bitmap.now.height)

pub returns-in_err-bytes-clause-paid : goal.returns-in_err-bytes-clause-paid
returns-in_err-bytes-clause-paid g c = omega (arith, twice-paid c.args.bitmap.now.width c.args.bitmap.now.height)
