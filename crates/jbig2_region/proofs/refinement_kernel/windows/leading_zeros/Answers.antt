use Rattle.std.proofs.Common.{arith}
use Rattle.jbig2_region.proofs.RefinementKnownLemmas.{leading-next, leading-zeros}
use Rattle.jbig2_region.proofs.refinement_kernel.windows.leading_zeros.Goals as goal

pub returns-clause-before : goal.returns-clause-before
returns-clause-before c = leading-zeros c.args.word c.args.most c.min.result c.requires (omega arith) (omega arith)

pub returns-clause-next : goal.returns-clause-next
returns-clause-next c = leading-next c.args.word c.args.most c.min.result c.requires (omega arith) (omega arith)
