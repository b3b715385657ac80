use Rattle.std.proofs.Common.{arith}
use Rattle.jbig2_base.proofs.BitLemmas.{masked-or, masked-and, masked-xor, masked-xnor, masked-replace}
use Rattle.jbig2_base.proofs.bitmap.rows.blocks.combined_word.Goals as goal

pub returns-in-Or : goal.returns-in-Or
returns-in-Or c = λ b inside. rw c.in-Or.is (masked-or c.args.page c.args.source c.args.mask b)

pub returns-in-And : goal.returns-in-And
returns-in-And c = λ b inside. rw c.in-And.is (masked-and c.args.page c.args.source c.args.mask b (omega arith) inside)

pub returns-in-Xor : goal.returns-in-Xor
returns-in-Xor c = λ b inside. rw c.in-Xor.is (masked-xor c.args.page c.args.source c.args.mask b)

pub returns-in-Xnor : goal.returns-in-Xnor
returns-in-Xnor c = λ b inside. rw c.in-Xnor.is (masked-xnor c.args.page c.args.source c.args.mask b (omega arith) inside)

pub returns-in-Replace : goal.returns-in-Replace
returns-in-Replace c = λ b inside. rw c.in-Replace.is (masked-replace c.args.page c.args.source c.args.mask b (omega arith) inside)
