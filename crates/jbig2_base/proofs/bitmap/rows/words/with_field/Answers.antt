use Rattle.jbig2_base.proofs.BitLemmas.{bit-with_field}
use Rattle.jbig2_base.proofs.bitmap.rows.words.with_field.Goals as goal

pub returns : goal.returns
returns c = λ b inside. bit-with_field c.args.word c.args.shift c.args.count c.args.bits b c.requires.within inside
