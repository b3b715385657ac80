use Rattle.std.proofs.Common.{arith}
use Rattle.jbig2_coder.proofs.Renorm.{leading-half, leading-room}
use Rattle.jbig2_coder.proofs.arithmetic_decoder.registers.batch.Goals as goal

pub overflow_sub-a : goal.overflow_sub-a
overflow_sub-a c = omega (arith, leading-half c.args.a c.requires.some c.requires.half)

pub returns-clause-some : goal.returns-clause-some
returns-clause-some c = omega (arith, leading-half c.args.a c.requires.some c.requires.half)

pub returns-clause-few : goal.returns-clause-few
returns-clause-few c = omega (arith, leading-half c.args.a c.requires.some c.requires.half)

pub returns-clause-room : goal.returns-clause-room
returns-clause-room c = leading-room c.args.a _ c.requires.some c.requires.half (omega arith)
