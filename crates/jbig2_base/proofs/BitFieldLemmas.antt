-- Numbers that are read from bits.
use Rattle.std.proofs.Common.{◌≡◌, ℕ, zero, suc, ◌+◌, ◌*◌, ◌^◌, ◌<◌, ◌≤◌, ltb, List, [], ◌∷◌, length, take, drop, min, Some, None, ◌∙◌, ap, arith, pow-suc, ⊎_elim}
use Rattle.std.specs.List.{flat_map}
use Rattle.std.proofs.Math.Nat.{mul-le-mul_right}
use Rattle.std.proofs.lemmas.Bool.{cases_lt, cond-true, cond-false, lt-ltb, le-ltb}
use Rattle.std.proofs.lemmas.List.{length-take}
use Rattle.jbig2_base.specs.Bits.{Place, byte_bits, bits_left, bits_next, number_after}
use Rattle.jbig2_base.specs.inner.BitLists.{AreBits}

pub bits-drop : (n : ℕ) (bits : List ℕ) → AreBits bits → AreBits (drop n bits)
unfolding AreBits
bits-drop zero bits are = are
bits-drop (suc n) [] are = tt
bits-drop (suc n) (b ∷ bits) are = bits-drop n bits are.1

pub bits-take : (n : ℕ) (bits : List ℕ) → AreBits bits → AreBits (take n bits)
unfolding AreBits
bits-take zero bits are = tt
bits-take (suc n) [] are = tt
bits-take (suc n) (b ∷ bits) are = (are.0, bits-take n bits are.1)

pub byte-bits : (xs : List ℕ) → AreBits (flat_map byte_bits xs)
unfolding AreBits
byte-bits [] = tt
byte-bits (x ∷ xs) = (omega arith, (omega arith, (omega arith, (omega arith, (omega arith, (omega arith, (omega arith, (omega arith, byte-bits xs))))))))

pub number-below : (front : ℕ) (bits : List ℕ) → AreBits bits → number_after front bits < (front + 1) * 2 ^ length bits
unfolding AreBits
number-below front [] are = omega arith
number-below front (b ∷ bits) are =
    let t = 2 ^ length bits in
    let more = number-below (2 * front + b) bits are.1 in
    let power : 2 ^ length (b ∷ bits) ≡ 2 * t = rw pow-suc (omega arith) in
    let whole : (front + 1) * 2 ^ length (b ∷ bits) ≡ (2 * front + 2) * t = ap (λ (p : ℕ). (front + 1) * p) power ∙ regroup front t in
    let few : (2 * front + b + 1) * t ≤ (2 * front + 2) * t = mul-le-mul_right t (omega (arith, are.0)) in
    omega arith
  where
    regroup : (f t : ℕ) → (f + 1) * (2 * t) ≡ (2 * f + 2) * t
    regroup f t = grind arith

-- there were as many bits
pub next-enough : (n v : ℕ) (bits : List ℕ) → Some v ≡ bits_next n bits → n ≤ length bits
next-enough n v bits e =
    ⊎_elim (λ (short : length bits < n). absurd (let never : Some v ≡ None = e ∙ cond-true (ltb (length bits) n) None (Some (number_after 0 (take n bits))) (lt-ltb (length bits) n short) in cc))
    (λ (enough : n ≤ length bits). enough)
    (cases_lt (length bits) n)

-- a number of n bits
pub next-small : (n v : ℕ) (p : Place) → Some v ≡ bits_next n (bits_left p) → v < 2 ^ n
unfolding bits_left
next-small n v p e =
    let bits = drop p.bit (flat_map byte_bits p.bytes) in
    ⊎_elim (λ (short : length bits < n). absurd (let never : Some v ≡ None = e ∙ cond-true (ltb (length bits) n) None (Some (number_after 0 (take n bits))) (lt-ltb (length bits) n short) in cc))
    (λ (enough : n ≤ length bits).
    let some : Some v ≡ Some (number_after 0 (take n bits)) = e ∙ cond-false (ltb (length bits) n) None (Some (number_after 0 (take n bits))) (le-ltb (length bits) n enough) in
    let value : v ≡ number_after 0 (take n bits) = cc in
    let size : length (take n bits) ≡ n = length-take n bits ∙ (let e : min n (length bits) ≡ n = omega arith in e) in
    let below = number-below 0 (take n bits) (bits-take n bits (bits-drop p.bit (flat_map byte_bits p.bytes) (byte-bits p.bytes))) in
    let power : (0 + 1) * 2 ^ length (take n bits) ≡ 2 ^ n = ap (λ (k : ℕ). (0 + 1) * 2 ^ k) size ∙ (let one : (0 + 1) * 2 ^ n ≡ 2 ^ n = omega arith in one) in
    omega arith)
    (cases_lt (length bits) n)
