-- The number that bytes spell. A list has its last byte first; a byte after FF has seven bits of its own, and
-- its top bit is where the lowest of the FF is.
use Rattle.std.proofs.Common.{◌≡◌, ℕ, zero, suc, ◌+◌, ◌*◌, ◌^◌, ◌≤◌, cond, eqb, List, [], ◌∷◌, length, refl, arith, ⊎_elim, ◌⊎◌, inl, inr, le_refl, mul-le-mul_right}
use Rattle.std.proofs.lemmas.Nat.{pow-add}
use Rattle.std.proofs.lemmas.Bool.{cases_eq, cond-true, cond-false, eq-eqb, ne_eqb}

-- the bits that the next byte has
abbrev pub width : List ℕ → ℕ
width [] = 8
width (b ∷ r) = cond (eqb b 255) 7 8

abbrev pub bits : List ℕ → ℕ
bits [] = 0
bits (b ∷ r) = bits r + width r

abbrev pub value : List ℕ → ℕ
value [] = 0
value (b ∷ r) = value r * 2 ^ width r + b

-- bytes, of which none after FF is a marker's
abbrev pub Valid : List ℕ → Type 0
Valid [] = Unit {0}
Valid (b ∷ r) = (b ≤ 255) × (width r ≡ 7 → b ≤ 143) × Valid r

-- the first that many bytes
abbrev pub first : (ℕ → ℕ) → ℕ → List ℕ
first f zero = []
first f (suc n) = f n ∷ first f n

pub width-full : (b : ℕ) (r : List ℕ) → b ≡ 255 → width (b ∷ r) ≡ 7
width-full b r e = cond-true (eqb b 255) 7 8 (eq-eqb b 255 e)

pub width-other : (b : ℕ) (r : List ℕ) → (b ≡ 255 → ⊥) → width (b ∷ r) ≡ 8
width-other b r n = cond-false (eqb b 255) 7 8 (ne_eqb b 255 n)

pub cases_width : (r : List ℕ) → (width r ≡ 7) ⊎ (width r ≡ 8)
cases_width [] = inr refl
cases_width (b ∷ r) =
    ⊎_elim (λ (e : b ≡ 255). inl (width-full b r e)) (λ (n : b ≡ 255 → ⊥). inr (width-other b r n)) (cases_eq b 255)

pub length-first : (f : ℕ → ℕ) (m : ℕ) → length (first f m) ≡ m
length-first f zero = refl
length-first f (suc m) = rw (length-first f m) refl

-- more bytes have more bits
pub bits-first : (f : ℕ → ℕ) (j m : ℕ) → j ≤ m → bits (first f j) ≤ bits (first f m)
bits-first f j zero h = let e : j ≡ 0 = omega arith in rw e (le_refl _)
bits-first f j (suc m) h =
    ⊎_elim
    (λ (e : j ≡ suc m). rw e (le_refl _))
    (λ (n : j ≡ suc m → ⊥). let ih : bits (first f j) ≤ bits (first f m) = bits-first f j m (omega arith) in omega arith)
    (cases_eq j (suc m))

grow : (v p w q b : ℕ) (u : ℕ) → v * p ≤ u * q → v * (p * w) ≤ (u * w + b) * q
grow v p w q b u h = omega (arith, mul-le-mul_right w h)

-- and spell more, at one scale
pub value-first : (f : ℕ → ℕ) (j m : ℕ) → j ≤ m
    → value (first f j) * 2 ^ bits (first f m) ≤ value (first f m) * 2 ^ bits (first f j)
value-first f j zero h = let e : j ≡ 0 = omega arith in rw e (le_refl _)
value-first f j (suc m) h =
    ⊎_elim
    (λ (e : j ≡ suc m). rw e (le_refl _))
    (λ (n : j ≡ suc m → ⊥).
    let r : List ℕ = first f m in
    let ih : value (first f j) * 2 ^ bits r ≤ value r * 2 ^ bits (first f j) = value-first f j m (omega arith) in
    rw (pow-add 2 (bits r) (width r)) (grow (value (first f j)) (2 ^ bits r) (2 ^ width r) (2 ^ bits (first f j)) (f m) (value r) ih))
    (cases_eq j (suc m))
