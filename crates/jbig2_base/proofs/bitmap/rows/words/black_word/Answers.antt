use Rattle.std.proofs.Common.{arith}
use Rattle.jbig2_base.proofs.PackedLemmas.{black_word-last, black_word-inner}
use Rattle.jbig2_base.proofs.bitmap.rows.words.black_word.Goals as goal

pub returns-then-index-stride : goal.returns-then-index-stride
returns-then-index-stride c = black_word-last c.args.width c.div_ceil-stride.result c.args.index (omega (arith, c.div_ceil-stride.ensures)) c.if-index-stride.true

pub returns : goal.returns
returns c = black_word-inner c.args.width c.div_ceil-stride.result c.args.index (omega (arith, c.div_ceil-stride.ensures)) c.if-index-stride.false
