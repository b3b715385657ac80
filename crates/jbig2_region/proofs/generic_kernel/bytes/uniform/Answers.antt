use Rattle.std.proofs.Common.{arith}
use Rattle.std.proofs.lemmas.Nat.{pow_pos}
use Rattle.jbig2_region.proofs.GroupLemmas.{ones}
use Rattle.jbig2_region.proofs.generic_kernel.bytes.uniform.Goals as goal

pub returns-then-count-gt0-clause-value : goal.returns-then-count-gt0-clause-value
returns-then-count-gt0-clause-value c = rw c.if-black.true (ones c.args.count c.requires)

pub returns-then-count-gt0-clause-bound : goal.returns-then-count-gt0-clause-bound
returns-then-count-gt0-clause-bound c = omega (arith, ones c.args.count c.requires, pow_pos c.args.count)
