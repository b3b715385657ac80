use Rattle.std.proofs.Common.{ℕ, List, sym, ap, subst, ◌∙◌, arith}
use Rattle.jbig2_coder.specs.Integers.{next, read, prev_of}
use Rattle.jbig2_coder.specs.inner.IntegerPrefixes.{Prefix}
use Rattle.jbig2_coder.specs.inner.IntegerStates.{HasRead}
use Rattle.jbig2_coder.proofs.Readings.{prefix-goes, prefix-stops, prefix-full, bit-zero, bit-one, HasRead-bytes}
use Rattle.jbig2_base.specs.Bits.{bit_number}
use Rattle.jbig2_coder.proofs.integer_decoder.read_prefix.Goals as goal

pub loop-ones-preserved : goal.loop-ones-preserved
loop-ones-preserved g c = record {
  below = c.read_bit.ensures.below;
  bytes = c.read_bit.ensures.bytes ∙ c.loop-ones.invariant.bytes;
  reads = λ start r s.
      let b = c.args.decoder.now.bytes in
      let h = c.loop-ones.invariant.reads start r s in
      let bit = ap (λ (v : List ℕ). bit_number (next prev_of v h.0).symbol) (sym c.loop-ones.invariant.bytes) ∙ sym (c.read_bit.ensures.bit start h.0 h.1) in
      let one = bit-one (next prev_of b h.0).symbol (λ z. c.if-read_bit-eq0.false (sym bit ∙ z)) in
      let t = HasRead-bytes prev_of start _ _ h.0 _ _ _ _ c.loop-ones.invariant.bytes (c.read_bit.ensures.reads start h.0 h.1) in
      (read prev_of b h.0, t, prefix-goes c.loop-ones.ones b r h.0 c.loop-ones-test.true h.2 one);
}

pub returns-then-read_bit-eq0-clause-ones : goal.returns-then-read_bit-eq0-clause-ones
returns-then-read_bit-eq0-clause-ones g c start r s =
    let b = c.args.decoder.now.bytes in
    let h = c.loop-ones.invariant.reads start r s in
    let bit = ap (λ (v : List ℕ). bit_number (next prev_of v h.0).symbol) (sym c.loop-ones.invariant.bytes) ∙ sym (c.read_bit.ensures.bit start h.0 h.1) in
    let none = bit-zero (next prev_of b h.0).symbol (bit ∙ c.if-read_bit-eq0.true) in
    sym (ap (λ (p : Prefix). p.ones) (prefix-stops c.loop-ones.ones b r h.0 c.loop-ones-test.true h.2 none))

pub returns-then-read_bit-eq0-clause-reads : goal.returns-then-read_bit-eq0-clause-reads
returns-then-read_bit-eq0-clause-reads g c start r s =
    let b = c.args.decoder.now.bytes in
    let h = c.loop-ones.invariant.reads start r s in
    let bit = ap (λ (v : List ℕ). bit_number (next prev_of v h.0).symbol) (sym c.loop-ones.invariant.bytes) ∙ sym (c.read_bit.ensures.bit start h.0 h.1) in
    let none = bit-zero (next prev_of b h.0).symbol (bit ∙ c.if-read_bit-eq0.true) in
    let t = HasRead-bytes prev_of start _ _ h.0 _ _ _ _ c.loop-ones.invariant.bytes (c.read_bit.ensures.reads start h.0 h.1) in
    subst (λ (p : Prefix). HasRead prev_of start p.reading c.read_bit.new.prev c.read_bit.new.decoder c.read_bit.new.contexts c.read_bit.new.steps)
    (sym (prefix-stops c.loop-ones.ones b r h.0 c.loop-ones-test.true h.2 none)) t

pub returns-clause-ones : goal.returns-clause-ones
returns-clause-ones g c start r s =
    let h = c.loop-ones.invariant.reads start r s in
    sym (ap (λ (p : Prefix). p.ones) (prefix-full c.loop-ones.ones c.args.decoder.now.bytes r h.0 (omega arith) h.2))

pub returns-clause-reads : goal.returns-clause-reads
returns-clause-reads g c start r s =
    let h = c.loop-ones.invariant.reads start r s in
    subst (λ (p : Prefix). HasRead prev_of start p.reading c.loop-ones.prev c.loop-ones.decoder c.loop-ones.contexts c.loop-ones.steps)
    (sym (prefix-full c.loop-ones.ones c.args.decoder.now.bytes r h.0 (omega arith) h.2)) h.1
