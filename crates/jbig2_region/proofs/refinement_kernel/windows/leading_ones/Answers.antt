use Rattle.std.proofs.Common.{arith}
use Rattle.jbig2_region.proofs.RefinementKnownLemmas.{leading-ones, leading-ones_next}
use Rattle.jbig2_region.proofs.refinement_kernel.windows.leading_ones.Goals as goal

pub returns-clause-before : goal.returns-clause-before
returns-clause-before c = leading-ones c.args.word c.args.most c.min.result c.requires (omega arith) (omega arith)

pub returns-clause-next : goal.returns-clause-next
returns-clause-next c = leading-ones_next c.args.word c.args.most c.min.result c.requires (omega arith) (omega arith)
