use Rattle.std.proofs.Common.{ap, subst, ◌∙◌}
use Rattle.std.specs.Prelude.{◌==◌}
use Rattle.jbig2_coder.specs.Integers.{Reading, read, prev_of}
use Rattle.jbig2_base.specs.Bits.{value_of_bits}
use Rattle.jbig2_coder.specs.inner.IntegerPrefixes.{prefix}
use Rattle.jbig2_coder.specs.inner.IntegerStates.{HasRead}
use Rattle.jbig2_coder.proofs.Readings.{start_of, HasRead-start, integer-reading, integer-value, bit_number-one}
use Rattle.jbig2_coder.proofs.integer_decoder.read_integer.Goals as goal

pub returns : goal.returns
unfolding value_of_bits
returns g c =
    let b = c.args.decoder.now.bytes in
    let b1 = c.read_bit-negative.new.decoder.bytes in
    let b2 = c.read_prefix-ones.new.decoder.bytes in
    let registers = c.args.decoder.now.registers in
    let contexts = c.args.contexts.now in
    let steps = c.args.steps.now in
    let r0 = start_of registers contexts in
    let r1 = read prev_of b r0 in
    let r2 = (prefix 5 0 b1 r1).reading in
    let s0 = HasRead-start prev_of c.args.decoder.now contexts steps in
    let s1 = c.read_bit-negative.ensures.reads steps r0 s0 in
    let s2 = c.read_prefix-ones.ensures.reads steps r1 s1 in
    let s3 = c.read_bits-value.ensures.reads steps r2 s2 in
    let e1 = c.read_bit-negative.ensures.bytes in
    let e2 = c.read_prefix-ones.ensures.bytes ∙ e1 in
    let ones = c.read_prefix-ones.ensures.ones steps r1 s1 in
    let whole = integer-reading b b1 b2 registers contexts c.range-bits.result.0 c.read_prefix-ones.result e1 e2 ones c.range-bits.ensures.bits in
    let negative = ap (λ n. n == 1) (c.read_bit-negative.ensures.bit steps r0 s0) ∙ bit_number-one _ in
    let value = c.read_bits-value.ensures.value steps r2 s2 in
    let s4 = subst (λ (r : Reading). HasRead prev_of steps r c.read_bits-value.new.prev c.read_bits-value.new.decoder c.read_bits-value.new.contexts c.read_bits-value.new.steps) whole s3 in
    let bytes = c.read_bits-value.ensures.bytes ∙ e2 in
    record {
      value = c.signed_value.ensures ∙ integer-value b b1 b2 registers contexts _ c.range-bits.result.0 c.read_prefix-ones.result c.read_bits-value.result c.range-bits.result.1 e1 e2 negative ones c.range-bits.ensures.bits c.range-bits.ensures.offset value;
      coder = λ i. record { bytes = bytes i; registers = s4.registers i };
      contexts = s4.learned;
      steps = s4.counted;
    }
