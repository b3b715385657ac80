use Rattle.std.proofs.Common.{arith}
use Rattle.jbig2_base.proofs.BitLemmas.{bit-shl_high}
use Rattle.jbig2_page.proofs.PackedRows.{byte-bits}
use Rattle.jbig2_page.proofs.packed.take_byte.Goals as goal

pub returns-clause-value : goal.returns-clause-value
returns-clause-value c = byte-bits c.args.word.now (omega arith)

pub returns-clause-rest : goal.returns-clause-rest
returns-clause-rest c k past inside = bit-shl_high c.args.word.now 8 64 k past inside
