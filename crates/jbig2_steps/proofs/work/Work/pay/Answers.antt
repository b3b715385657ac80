use Rattle.std.proofs.Common.{arith}
use Rattle.jbig2_steps.specs.Work.{budget}
use Rattle.jbig2_steps.proofs.work.Work.pay.Goals as goal

pub returns-in-Some-clause-paid : goal.returns-in-Some-clause-paid
unfolding budget
returns-in-Some-clause-paid g c = omega (arith, c.in-Some.ensures)

pub returns-in-Some-clause-taken : goal.returns-in-Some-clause-taken
unfolding budget
returns-in-Some-clause-taken g c = omega (arith, c.in-Some.ensures)
