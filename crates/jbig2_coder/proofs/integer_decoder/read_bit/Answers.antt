use Rattle.std.proofs.Common.{get_or, set, sym, ap, ◌∙◌, arith}
use Rattle.jbig2_coder.specs.Coder.{Decision, Coder, decision}
use Rattle.jbig2_coder.specs.Integers.{prev_of}
use Rattle.jbig2_coder.specs.inner.IntegerStates.{prev_next}
use Rattle.jbig2_coder.proofs.Readings.{HasRead-decision, HasRead-read, prev_of-push}
use Rattle.jbig2_base.specs.Bits.{bit_number}
use Rattle.jbig2_coder.proofs.integer_decoder.read_bit.Goals as goal

pub returns-clause-bit : goal.returns-clause-bit
returns-clause-bit g c start r s =
    let e = HasRead-decision prev_of start r c.args.prev.now c.args.decoder.now c.args.contexts.now c.args.steps.now c.index-contexts-prev.result s (omega arith) in
    c.decode-bit.ensures.value ∙ ap (λ (d : Decision). bit_number d.symbol) e

pub returns-clause-reads : goal.returns-clause-reads
returns-clause-reads g c start r s =
    let e = HasRead-decision prev_of start r c.args.prev.now c.args.decoder.now c.args.contexts.now c.args.steps.now c.index-contexts-prev.result s (omega arith) in
    let d : Decision = decision c.args.decoder.now.bytes c.args.decoder.now.registers (get_or c.args.contexts.now c.args.prev.now c.index-contexts-prev.result) in
    let named = c.following.ensures.value d.symbol c.decode-bit.ensures.value ∙ ap (λ p. prev_next p d.symbol) s.named ∙ sym (prev_of-push r.bits d.symbol) in
    HasRead-read prev_of start r c.args.prev.now c.args.decoder.now c.args.contexts.now c.args.steps.now s _ _ _ _ d e named (ap (λ (v : Coder). v.registers) c.decode-bit.ensures.coder) (ap (set c.args.contexts.now c.args.prev.now) c.decode-bit.ensures.context) c.decode-bit.ensures.steps
