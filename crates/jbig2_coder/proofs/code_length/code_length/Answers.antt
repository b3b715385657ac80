use Rattle.std.proofs.Common.{arith}
use Rattle.jbig2_coder.proofs.CodeLengths.{code-length-is}
use Rattle.jbig2_coder.proofs.code_length.code_length.Goals as goal

pub returns-clause-value : goal.returns-clause-value
returns-clause-value c = code-length-is c.args.count c.loop-bits.bits (omega arith) c.loop-bits.invariant.below
