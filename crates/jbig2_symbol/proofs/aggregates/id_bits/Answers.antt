use Rattle.std.proofs.Common.{arith}
use Rattle.jbig2_symbol.proofs.aggregates.id_bits.Goals as goal

pub returns-clause-small : goal.returns-clause-small
returns-clause-small c = omega (arith, c.code_length.ensures.small)
