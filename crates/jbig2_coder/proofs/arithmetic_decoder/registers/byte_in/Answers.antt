use Rattle.std.proofs.Common.{◌+◌, ◌∙◌, arith}
use Rattle.jbig2_coder.proofs.Choices.{byte_at-inside}
use Rattle.jbig2_coder.proofs.arithmetic_decoder.registers.byte_in.Goals as goal

pub returns-then-byte_at-clause-within : goal.returns-then-byte_at-clause-within
returns-then-byte_at-clause-within c =
    omega (arith, byte_at-inside c.args.bytes.now c.args.place (λ e. c.if-byte_at.true (c.byte_at.ensures ∙ e)))

-- a stuffed byte is below FF
pub returns-clause-within : goal.returns-clause-within
returns-clause-within c =
    omega (arith, byte_at-inside c.args.bytes.now (c.args.place + 1) (λ e. omega (arith, e)))
