use Rattle.std.proofs.Common.{◌≡◌, drop, length, ap, arith}
use Rattle.std.specs.List.{flat_map}
use Rattle.jbig2_base.specs.Bits.{byte_bits}
use Rattle.jbig2_mmr.specs.inner.T6Reading.{Rest}
use Rattle.jbig2_base.proofs.NumberLemmas.{length-at}
use Rattle.jbig2_mmr.proofs.mmr.bits.CodeReader.few.Goals as goal

pub returns-then-bytes-ge4 : goal.returns-then-bytes-ge4
returns-then-bytes-ge4 c =
    let bytes : c.self.inside.bytes.now ≡ c.args.self.now.bytes = ap (λ (r : Rest). r.bytes) c.self.view_is in
    let left : drop c.self.inside.bit (flat_map byte_bits (drop c.self.inside.byte c.self.inside.bytes.now)) ≡ c.args.self.now.left = ap (λ (r : Rest). r.left) c.self.view_is in
    omega (arith, ap length left, length-at c.self.inside.bytes.now c.self.inside.byte c.self.inside.bit, c.self.invariant)

pub returns : goal.returns
returns c =
    let bytes : c.self.inside.bytes.now ≡ c.args.self.now.bytes = ap (λ (r : Rest). r.bytes) c.self.view_is in
    let left : drop c.self.inside.bit (flat_map byte_bits (drop c.self.inside.byte c.self.inside.bytes.now)) ≡ c.args.self.now.left = ap (λ (r : Rest). r.left) c.self.view_is in
    omega (arith, c.min.ensures, ap length left, length-at c.self.inside.bytes.now c.self.inside.byte c.self.inside.bit, c.self.invariant)
