use Rattle.std.proofs.Common.{◌≡◌, ℕ, ◌-◌, ◌*◌, ◌/◌, ◌^◌, ◌<◌, subst, arith, rules}
use Rattle.jbig2_base.specs.Bits.{bit}
use Rattle.jbig2_writer.proofs.PackedLemmas.{bits_from, byte-bound, byte-more, byte-room, bytes-cut}
use Rattle.jbig2_writer.proofs.packed.pixels_at.Goals as goal

pub loop-index-init : goal.loop-index-init
loop-index-init c = record {
  bound = omega arith;
  bits = λ k inside. absurd (omega (arith, inside));
}

pub overflow_mul-pixels : goal.overflow_mul-pixels
overflow_mul-pixels c = omega (arith, byte-room c.loop-index.pixels 0 c.loop-index.index c.loop-index.invariant.bound (omega (arith, c.div_ceil-bytes.ensures, c.requires.few)) (omega arith))

pub overflow_add-pixels : goal.overflow_add-pixels
overflow_add-pixels c =
    let small : c.from.result < 256 = search rules in
    omega (arith, byte-room c.loop-index.pixels c.from.result c.loop-index.index c.loop-index.invariant.bound (omega (arith, c.div_ceil-bytes.ensures, c.requires.few)) small)

pub loop-index-preserved : goal.loop-index-preserved
loop-index-preserved c =
    let small : c.from.result < 256 = search rules in
    record {
      bound = byte-bound c.loop-index.pixels c.from.result c.loop-index.index c.loop-index.invariant.bound small;
      bits = byte-more c.args.rows.now c.args.first c.loop-index.pixels c.from.result c.loop-index.index small c.from.ensures c.loop-index.invariant.bits;
    }

pub returns : goal.returns
returns c =
    let end : c.loop-index.index ≡ c.div_ceil-bytes.result = omega arith in
    subst (λ (n : ℕ). (k : ℕ) → k < c.args.count → bit (c.loop-index.pixels / 2 ^ (8 * n - c.args.count)) (c.args.count - 1 - k) ≡ bits_from c.args.rows.now c.args.first k) end
    (bytes-cut c.args.rows.now c.args.first c.loop-index.pixels c.loop-index.index c.args.count (omega (arith, c.div_ceil-bytes.ensures)) c.loop-index.invariant.bits)
