use Rattle.std.proofs.Common.{◌≡◌, ℕ, List, drop, length, ap, ◌∙◌, arith}
use Rattle.std.specs.List.{flat_map}
use Rattle.jbig2_base.specs.Bits.{byte_bits}
use Rattle.jbig2_mmr.specs.inner.T6Reading.{Rest}
use Rattle.jbig2_base.proofs.NumberLemmas.{length-at, bits-on}
use Rattle.jbig2_mmr.proofs.T6Bits.{place-within}
use Rattle.jbig2_mmr.proofs.mmr.bits.CodeReader.skip.Goals as goal

pub invariant_of-self : goal.invariant_of-self
invariant_of-self c =
    let left : drop c.self.inside.bit (flat_map byte_bits (drop c.self.inside.byte c.self.inside.bytes.now)) ≡ c.args.self.now.left = ap (λ (r : Rest). r.left) c.self.view_is in
    place-within c.self.inside.byte c.self.inside.bit (length c.self.inside.bytes.now) c.args.count c.self.invariant.0 c.self.invariant.1 c.self.invariant.2 (omega (arith, c.requires.there, ap length left, length-at c.self.inside.bytes.now c.self.inside.byte c.self.inside.bit))

pub returns : goal.returns
returns c =
    let bytes : c.self.inside.bytes.now ≡ c.args.self.now.bytes = ap (λ (r : Rest). r.bytes) c.self.view_is in
    let left : drop c.self.inside.bit (flat_map byte_bits (drop c.self.inside.byte c.self.inside.bytes.now)) ≡ c.args.self.now.left = ap (λ (r : Rest). r.left) c.self.view_is in
    ap (λ (ys : List ℕ). let made : Rest = record { bytes = c.self.inside.bytes.now; left = ys } in made) (bits-on c.self.inside.bytes.now c.self.inside.byte c.self.inside.bit c.args.count ∙ ap (λ (ys : List ℕ). drop c.args.count ys) left)
    ∙ ap (λ (ys : List ℕ). let made : Rest = record { bytes = ys; left = drop c.args.count c.args.self.now.left } in made) bytes
