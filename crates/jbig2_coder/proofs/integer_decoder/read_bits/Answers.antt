use Rattle.std.proofs.Common.{◌≡◌, ℕ, ◌+◌, ◌*◌, ◌^◌, ◌<◌, List, refl, ap, subst, ◌∙◌, arith, add-one, drop, length}
use Rattle.std.proofs.Math.Nat.{pow-suc}
use Rattle.jbig2_coder.specs.Integers.{Reading, next, read_more, prev_of}
use Rattle.jbig2_coder.specs.inner.IntegerStates.{HasRead}
use Rattle.jbig2_coder.proofs.Readings.{read_more-none, read_more-next, number-none, number-next, HasRead-bytes}
use Rattle.jbig2_base.specs.Bits.{bit_number, value_of_bits}
use Rattle.jbig2_coder.proofs.integer_decoder.read_bits.Goals as goal

grown : (value bit n : ℕ) → value < 2 ^ n → bit < 2 → 2 * value + bit < 2 ^ (n + 1)
grown value bit n h k = rw (add-one, pow-suc) (omega arith)

pub loop-init : goal.loop-init
loop-init g c = record {
  below = c.requires.below;
  bound = omega arith;
  bytes = refl;
  value = λ start r s. number-none prev_of c.args.decoder.now.bytes r;
  reads = λ start r s. rw (read_more-none prev_of c.args.decoder.now.bytes r) s;
}

pub loop-preserved : goal.loop-preserved
loop-preserved g c = record {
  below = c.read_bit.ensures.below;
  bound = grown c.loop.value c.read_bit.result c.loop.counter c.loop.invariant.bound c.read_bit.ensures.digit;
  bytes = c.read_bit.ensures.bytes ∙ c.loop.invariant.bytes;
  value = λ start r s.
      let n = read_more prev_of c.loop.counter c.args.decoder.now.bytes r in
      let bit = c.read_bit.ensures.bit start n (c.loop.invariant.reads start r s) ∙ ap (λ (b : List ℕ). bit_number (next prev_of b n).symbol) c.loop.invariant.bytes in
      number-next prev_of c.loop.counter c.args.decoder.now.bytes r c.loop.value c.read_bit.result (c.loop.invariant.value start r s) bit;
  reads = λ start r s.
      let n = read_more prev_of c.loop.counter c.args.decoder.now.bytes r in
      let t = HasRead-bytes prev_of start _ _ n _ _ _ _ c.loop.invariant.bytes (c.read_bit.ensures.reads start n (c.loop.invariant.reads start r s)) in
      subst (λ (m : Reading). HasRead prev_of start m c.read_bit.new.prev c.read_bit.new.decoder c.read_bit.new.contexts c.read_bit.new.steps) (read_more-next prev_of c.loop.counter c.args.decoder.now.bytes r) t;
}

pub returns-clause-value : goal.returns-clause-value
returns-clause-value g c start r s =
    let e : c.loop.counter ≡ c.args.count = omega arith in
    subst (λ n. c.loop.value ≡ value_of_bits (drop (length r.bits) (read_more prev_of n c.args.decoder.now.bytes r).bits)) e (c.loop.invariant.value start r s)

pub returns-clause-reads : goal.returns-clause-reads
returns-clause-reads g c start r s =
    let e : c.loop.counter ≡ c.args.count = omega arith in
    subst (λ n. HasRead prev_of start (read_more prev_of n c.args.decoder.now.bytes r) c.loop.prev c.loop.decoder c.loop.contexts c.loop.steps) e (c.loop.invariant.reads start r s)
