use Rattle.std.proofs.Common.{sym, ◌∙◌, arith}
use Rattle.jbig2_coder.specs.inner.Ahead.{seen_of}
use Rattle.jbig2_coder.proofs.Renorm.{renormed-stop}
use Rattle.jbig2_coder.proofs.arithmetic_decoder.registers.BufferedRegisters.renormalize_by_turns.Goals as goal

pub returns-clause-value : goal.returns-clause-value
returns-clause-value c =
    sym (c.loop-self.invariant.same ∙ renormed-stop c.args.bytes.now 15 c.loop-self.self.a (seen_of c.loop-self.self.code) (omega arith))
