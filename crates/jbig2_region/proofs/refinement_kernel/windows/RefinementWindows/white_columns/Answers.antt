use Rattle.std.proofs.Common.{arith}
use Rattle.jbig2_region.proofs.RefinementPushLemmas.{nine-white, three-white}
use Rattle.jbig2_region.proofs.refinement_kernel.windows.RefinementWindows.white_columns.Goals as goal

pub returns-then-max-eq0-clause-nine : goal.returns-then-max-eq0-clause-nine
returns-then-max-eq0-clause-nine c = λ some k few.
    nine-white c.args.self k (omega arith) (omega arith) (omega arith) few

pub returns-then-max-eq0-clause-region : goal.returns-then-max-eq0-clause-region
returns-then-max-eq0-clause-region c = λ some k few. three-white c.args.self.region k (omega arith) few
