-- Distances of vertical modes, in the types that the code takes for them.
use Rattle.std.proofs.Common.{◌≡◌, ℕ, ◌+◌, ◌^◌, ◌<◌, ℤ, pos, SFits, to_z, of_z, w32, w64, rules, ◌≤◌, ap, ◌∙◌, arith}
use Rattle.std.specs.Prelude.{◌+ℤ◌, ◌-ℤ◌, ◌≤ℤ◌}
use Rattle.std.proofs.lemmas.Int.{ints, to_z-of_z}
use Rattle.jbig2_mmr.specs.inner.T6Reading.{IsWithinThree}

-- a small difference fits its type
pub distance-is : (kind : ℕ) (z : ℤ) → kind < 32 → z ≡ pos kind → to_z w32 (of_z w32 (to_z w32 (of_z w32 z) -ℤ pos 6)) ≡ pos kind -ℤ pos 6
distance-is kind z small e =
    let inner : to_z w32 (of_z w32 z) ≡ pos kind = ap (λ (y : ℤ). to_z w32 (of_z w32 y)) e ∙ to_z-of_z w32 (pos kind) (record { sfits = omega (arith, ints) }) in
    ap (λ (y : ℤ). to_z w32 (of_z w32 (y -ℤ pos 6))) inner ∙ to_z-of_z w32 (pos kind -ℤ pos 6) (search rules)

-- the sum of b1 and the distance, in a wider type
pub sum-wide : (b1 : ℕ) (d first second : ℤ) → b1 < 2 ^ 32 → SFits w32 d → first ≡ pos b1 → second ≡ to_z w32 (of_z w32 d) → to_z w64 (of_z w64 (to_z w64 (of_z w64 first) +ℤ to_z w64 (of_z w64 second))) ≡ pos b1 +ℤ d
sum-wide b1 d first second small fits e f =
    let one : to_z w64 (of_z w64 first) ≡ pos b1 = ap (λ (z : ℤ). to_z w64 (of_z w64 z)) e ∙ to_z-of_z w64 (pos b1) (record { sfits = omega (arith, ints) }) in
    let two : to_z w64 (of_z w64 second) ≡ d = ap (λ (z : ℤ). to_z w64 (of_z w64 z)) (f ∙ to_z-of_z w32 d fits) ∙ to_z-of_z w64 d (record { sfits = omega (arith, ints, fits.sfits) }) in
    ap (λ (z : ℤ). to_z w64 (of_z w64 (z +ℤ to_z w64 (of_z w64 second)))) one
    ∙ ap (λ (z : ℤ). to_z w64 (of_z w64 (pos b1 +ℤ z))) two
    ∙ to_z-of_z w64 (pos b1 +ℤ d) (search rules)

pub wide-is : (n : ℕ) (z : ℤ) → n < 2 ^ 32 → z ≡ pos n → to_z w64 (of_z w64 z) ≡ pos n
wide-is n z small e = ap (λ (y : ℤ). to_z w64 (of_z w64 y)) e ∙ to_z-of_z w64 (pos n) (record { sfits = omega (arith, ints) })

-- a vertical mode's distance, by the number of its kind, which is 3 or more
pub kind-near : (kind : ℕ) → 2 < kind → IsWithinThree (pos kind -ℤ pos 6)
kind-near kind vertical = omega (arith, ints)

-- so a1 is at most three pixels left of b1
pub near-place : (b1 a1 : ℕ) (d : ℤ) → IsWithinThree d → pos b1 +ℤ d ≡ pos a1 → b1 ≤ a1 + 3
near-place b1 a1 d near e =
    let low : (pos 0 -ℤ pos 3) ≤ℤ d = near in
    omega (arith, ints, low, e)
