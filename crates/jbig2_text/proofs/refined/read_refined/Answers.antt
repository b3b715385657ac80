use Rattle.std.proofs.Common.{arith}
use Rattle.jbig2_text.proofs.refined.read_refined.Goals as goal

pub returns-in_err-refine-clause-paid : goal.returns-in_err-refine-clause-paid
returns-in_err-refine-clause-paid g c =
    omega (arith, c.in_ok-refined.ensures.taken, c.refine.ensures.paid, c.read_deltas.ensures.paid)

pub returns-clause-paid : goal.returns-clause-paid
returns-clause-paid g c =
    omega (arith, c.in_ok-refined.ensures.taken, c.refine.ensures.paid, c.read_deltas.ensures.paid)
