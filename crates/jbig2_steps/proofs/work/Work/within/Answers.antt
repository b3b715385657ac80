use Rattle.std.proofs.Common.{◌≡◌, ap, arith}
use Rattle.jbig2_steps.specs.Counts.{Counts}
use Rattle.jbig2_steps.specs.Work.{sum_of_counts, budget}
use Rattle.jbig2_steps.proofs.work.Work.within.Goals as goal

pub returns-clause-budget : goal.returns-clause-budget
unfolding budget
returns-clause-budget g c =
    let none : sum_of_counts c.new.result ≡ 0 = ap (λ (s : Counts). sum_of_counts s) c.new.ensures in
    omega arith
