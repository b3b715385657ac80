use Rattle.jbig2_base.proofs.BitLemmas.{bit-or, bit-and, bit-xor, bit-xnor}
use Rattle.jbig2_base.proofs.bitmap.combine.combined_bits.Goals as goal

pub returns-in-Or : goal.returns-in-Or
returns-in-Or c = λ k inside. rw c.in-Or.is (bit-or c.args.page c.args.source k)

pub returns-in-And : goal.returns-in-And
returns-in-And c = λ k inside. rw c.in-And.is (bit-and c.args.page c.args.source k)

pub returns-in-Xor : goal.returns-in-Xor
returns-in-Xor c = λ k inside. rw c.in-Xor.is (bit-xor c.args.page c.args.source k)

pub returns-in-Xnor : goal.returns-in-Xnor
returns-in-Xnor c = λ k inside. rw c.in-Xnor.is (bit-xnor c.args.page c.args.source c.args.count k c.requires.few inside)
