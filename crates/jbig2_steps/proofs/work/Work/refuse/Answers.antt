use Rattle.std.proofs.Common.{arith}
use Rattle.jbig2_steps.specs.Work.{budget}
use Rattle.jbig2_steps.proofs.work.Work.refuse.Goals as goal

pub returns-clause-paid : goal.returns-clause-paid
unfolding budget
returns-clause-paid g c = omega arith
