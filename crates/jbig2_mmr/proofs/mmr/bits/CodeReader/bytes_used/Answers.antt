use Rattle.std.proofs.Common.{◌≡◌, ℕ, ◌-◌, ◌/◌, List, drop, length, ap, sym, ◌∙◌, arith}
use Rattle.std.specs.List.{flat_map}
use Rattle.jbig2_base.specs.Bits.{byte_bits}
use Rattle.jbig2_mmr.specs.inner.T6Reading.{Rest}
use Rattle.jbig2_base.proofs.NumberLemmas.{length-at}
use Rattle.jbig2_mmr.proofs.T6Bits.{used-opening}
use Rattle.jbig2_mmr.proofs.mmr.bits.CodeReader.bytes_used.Goals as goal

pub returns-then-self-gt0 : goal.returns-then-self-gt0
returns-then-self-gt0 c =
    let bytes : c.self.inside.bytes.now ≡ c.args.self.now.bytes = ap (λ (r : Rest). r.bytes) c.self.view_is in
    let left : drop c.self.inside.bit (flat_map byte_bits (drop c.self.inside.byte c.self.inside.bytes.now)) ≡ c.args.self.now.left = ap (λ (r : Rest). r.left) c.self.view_is in
    used-opening c.self.inside.byte c.self.inside.bit (length c.self.inside.bytes.now) (length c.args.self.now.left) c.self.invariant.0 c.self.invariant.1 c.self.invariant.2 (sym (ap length left) ∙ length-at c.self.inside.bytes.now c.self.inside.byte c.self.inside.bit) c.if-self-gt0.true
    ∙ ap (λ (ys : List ℕ). length ys - length c.args.self.now.left / 8) bytes

pub returns-else-self-gt0 : goal.returns-else-self-gt0
returns-else-self-gt0 c =
    let bytes : c.self.inside.bytes.now ≡ c.args.self.now.bytes = ap (λ (r : Rest). r.bytes) c.self.view_is in
    let left : drop c.self.inside.bit (flat_map byte_bits (drop c.self.inside.byte c.self.inside.bytes.now)) ≡ c.args.self.now.left = ap (λ (r : Rest). r.left) c.self.view_is in
    omega (arith, ap length bytes, ap length left, length-at c.self.inside.bytes.now c.self.inside.byte c.self.inside.bit, c.self.invariant)
