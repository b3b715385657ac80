use Rattle.std.proofs.Common.{◌≡◌, ℕ, ◌+◌, ◌-◌, ◌*◌, ◌<◌, ◌≤◌, List, take, drop, get_or, length, ap, ◌∙◌, subst, refl, arith}
use Rattle.std.specs.List.{flat_map}
use Rattle.std.proofs.lemmas.List.{take_rest, length-drop}
use Rattle.jbig2_base.specs.Bits.{byte_bits, number_after}
use Rattle.jbig2_base.specs.inner.BitLists.{AreBits}
use Rattle.jbig2_mmr.specs.inner.T6Reading.{Rest, padded_bits}
use Rattle.jbig2_base.proofs.BitFieldLemmas.{bits-drop, byte-bits}
use Rattle.jbig2_base.proofs.NumberLemmas.{length-bits}
use Rattle.jbig2_mmr.proofs.T6Bits.{within-bits, window-is}
use Rattle.jbig2_mmr.proofs.mmr.bits.CodeReader.window.Goals as goal

pub returns-clause-bits : goal.returns-clause-bits
returns-clause-bits c =
    let bytes : c.self.inside.bytes.now ≡ c.args.self.now.bytes = ap (λ (r : Rest). r.bytes) c.self.view_is in
    let left : drop c.self.inside.bit (flat_map byte_bits (drop c.self.inside.byte c.self.inside.bytes.now)) ≡ c.args.self.now.left = ap (λ (r : Rest). r.left) c.self.view_is in
    subst AreBits left (bits-drop c.self.inside.bit _ (byte-bits (drop c.self.inside.byte c.self.inside.bytes.now)))

pub returns-clause-value : goal.returns-clause-value
returns-clause-value c =
    let left : drop c.self.inside.bit (flat_map byte_bits (drop c.self.inside.byte c.self.inside.bytes.now)) ≡ c.args.self.now.left = ap (λ (r : Rest). r.left) c.self.view_is in
    λ n short.
    let ps : List ℕ = drop c.self.inside.byte c.self.inside.bytes.now in
    let rest = take_rest c.self.inside.bytes.now c.self.inside.byte in
    let size : length (flat_map byte_bits ps) ≡ 8 * (length c.self.inside.bytes.now - c.self.inside.byte) = length-bits ps ∙ ap (λ (i : ℕ). 8 * i) (length-drop c.self.inside.byte c.self.inside.bytes.now) in
    let there : c.self.inside.bit ≤ length (flat_map byte_bits ps) = omega (arith, size, within-bits c.self.inside.byte c.self.inside.bit (length c.self.inside.bytes.now) 0 c.self.invariant.0 c.self.invariant.1 c.self.invariant.2 (omega arith)) in
    window-is c.first_word.result (get_or ps 0 0) (get_or ps 1 0) (get_or ps 2 0) (get_or ps 3 0) ps c.self.inside.bit n
    (c.first_word.ensures.value ∙ ap (λ (ys : List ℕ). get_or ys 0 0 * 16777216 + (get_or ys 1 0 * 65536 + (get_or ys 2 0 * 256 + get_or ys 3 0))) rest) refl refl refl refl
    (subst (λ (ys : List ℕ). get_or ys 0 0 < 256) rest c.first_word.ensures.bytes.0) (subst (λ (ys : List ℕ). get_or ys 1 0 < 256) rest c.first_word.ensures.bytes.1) (subst (λ (ys : List ℕ). get_or ys 2 0 < 256) rest c.first_word.ensures.bytes.2) (subst (λ (ys : List ℕ). get_or ys 3 0 < 256) rest c.first_word.ensures.bytes.3)
    c.self.invariant.1 short there
    ∙ ap (λ (ys : List ℕ). number_after 0 (take n (padded_bits ys))) left
