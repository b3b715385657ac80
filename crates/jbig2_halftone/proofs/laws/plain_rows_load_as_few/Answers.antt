use Rattle.std.proofs.Common.{arith}
use Rattle.jbig2_halftone.proofs.laws.plain_rows_load_as_few.Goals as goal

pub returns : goal.returns
returns c = λ w. omega arith
