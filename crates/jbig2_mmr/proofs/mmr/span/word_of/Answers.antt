use Rattle.std.proofs.Common.{sym, ◌∙◌, arith}
use Rattle.jbig2_base.proofs.BitLemmas.{bit-ones, bit-zero}
use Rattle.jbig2_mmr.proofs.mmr.span.word_of.Goals as goal

pub returns-then-black : goal.returns-then-black
returns-then-black c = λ k inside. bit-ones 64 k (omega (arith, c.requires.few)) ∙ sym c.if-black.true

pub returns-else-black : goal.returns-else-black
returns-else-black c = λ k inside. bit-zero k ∙ sym c.if-black.false
