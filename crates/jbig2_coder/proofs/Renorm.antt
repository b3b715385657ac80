-- Several shifts of RENORMD at once.
use Rattle.std.proofs.Common.{◌≡◌, ℕ, zero, suc, ◌+◌, ◌-◌, ◌*◌, ◌^◌, ◌<◌, ◌≤◌, List, refl, sym, ap, ◌∙◌, arith, ⊎_elim}
use Rattle.std.proofs.Math.Nat.{pow-suc, pow-le-pow_right, mul-le-mul_left}
use Rattle.std.specs.Int.Count.{count_leading_zeros}
use Rattle.std.proofs.lemmas.Nat.{pow_pos, pow-add, leading_top}
use Rattle.std.proofs.lemmas.Bool.{cases_lt}
use Rattle.std.proofs.lemmas.Bool.Decides.{nat_tests}
use Rattle.jbig2_coder.specs.Coder.{byte_in, byte_in_if_empty, shift_left, renormd}
use Rattle.jbig2_coder.specs.declared.arithmetic_decoder.registers.CodeRegister.{CodeRegister}

pub filled-some : (bytes : List ℕ) (r : CodeRegister) → 1 ≤ r.ct → byte_in_if_empty bytes r ≡ r
unfolding byte_in_if_empty
filled-some bytes r h = grind (arith, nat_tests)

pub filled-none : (bytes : List ℕ) (r : CodeRegister) → r.ct ≡ 0 → byte_in_if_empty bytes r ≡ byte_in bytes r.c r.place
unfolding byte_in_if_empty
filled-none bytes r h = grind (arith, nat_tests)

pub renormed-step : (bytes : List ℕ) (n a : ℕ) (r : CodeRegister) → a < 0x8000
    → renormd bytes (suc n) a r ≡ renormd bytes n (2 * a) (shift_left (byte_in_if_empty bytes r))
unfolding renormd
renormed-step bytes n a r h = grind (arith, nat_tests)

pub renormed-stop : (bytes : List ℕ) (n a : ℕ) (r : CodeRegister) → 0x8000 ≤ a → renormd bytes n a r ≡ record { a = a; code = r }
unfolding renormd
renormed-stop bytes zero a r h = refl
renormed-stop bytes (suc n) a r h = grind (arith, nat_tests)

pub double-room : (a k : ℕ) → a * 2 ^ suc k < 2 ^ 16 → 2 * a * 2 ^ k < 2 ^ 16
double-room a k h = omega (arith, rw pow-suc at h)

pub batch-room : (a k : ℕ) → a * 2 ^ suc k < 2 ^ 16 → a < 0x8000
batch-room a k h = omega (arith, rw pow-suc at h, mul-le-mul_left a (pow_pos k))

pub renormed-enough : (bytes : List ℕ) (n k a : ℕ) (r : CodeRegister) → 0x8000 ≤ a * 2 ^ n
    → renormd bytes (n + k) a r ≡ renormd bytes n a r
renormed-enough bytes zero k a r h = renormed-stop bytes (0 + k) a r (omega arith) ∙ sym (renormed-stop bytes 0 a r (omega arith))
renormed-enough bytes (suc n) k a r h =
    let s : suc n + k ≡ suc (n + k) = omega arith in
    let room : 0x8000 ≤ 2 * a * 2 ^ n = omega (arith, rw pow-suc at h) in
    rw s (⊎_elim
    (λ (l : a < 0x8000).
    renormed-step bytes (n + k) a r l ∙ renormed-enough bytes n k (2 * a) (shift_left (byte_in_if_empty bytes r)) room ∙ sym (renormed-step bytes n a r l))
    (λ (l : 0x8000 ≤ a). renormed-stop bytes (suc (n + k)) a r l ∙ sym (renormed-stop bytes (suc n) a r l))
    (cases_lt a 0x8000))

-- the top bit of A below 8000
leading-top : (a j : ℕ) → 2 ^ j ≤ a → a < 0x8000 → j < 15
leading-top a j h l =
    ⊎_elim (λ (below : j < 15). below) (λ (above : 15 ≤ j). let p : 2 ^ 15 ≤ 2 ^ j = pow-le-pow_right (omega arith) above in absurd (omega arith)) (cases_lt j 15)

pub leading-half : (a : ℕ) → 1 ≤ a → a < 0x8000 → (17 ≤ count_leading_zeros 32 a) × (count_leading_zeros 32 a ≤ 31)
leading-half a some half =
    let top = leading_top 32 a some (omega arith) in
    let j = leading-top a top.0 top.2 half in
    (omega (arith, top.1), omega (arith, top.1))

pub leading-room : (a k : ℕ) → 1 ≤ a → a < 0x8000 → k ≤ count_leading_zeros 32 a - 16 → a * 2 ^ k < 2 ^ 16
leading-room a k some half h =
    let top = leading_top 32 a some (omega arith) in
    let j : ℕ = suc top.0 in
    let small : j + k ≤ 16 = omega (arith, top.1, leading-top a top.0 top.2 half) in
    let p : 2 ^ k * suc a ≤ 2 ^ k * 2 ^ j = mul-le-mul_left (2 ^ k) top.3 in
    let q : 2 ^ (j + k) ≤ 2 ^ 16 = pow-le-pow_right (omega arith) small in
    omega (arith, p, q, pow-add 2 j k, pow_pos k)

pub leading-full : (a : ℕ) → 1 ≤ a → a < 0x8000 → 0x8000 ≤ a * 2 ^ (count_leading_zeros 32 a - 16)
leading-full a some half =
    let top = leading_top 32 a some (omega arith) in
    let j : ℕ = top.0 in
    let k : ℕ = count_leading_zeros 32 a - 16 in
    let all : j + k ≡ 15 = omega (arith, top.1, leading-top a top.0 top.2 half) in
    let p : 2 ^ k * 2 ^ j ≤ 2 ^ k * a = mul-le-mul_left (2 ^ k) top.2 in
    let q : 2 ^ j * 2 ^ k ≡ 0x8000 = sym (pow-add 2 j k) ∙ ap (λ v. 2 ^ v) all in
    omega (arith, p, q)

pub shifted-more : (a k : ℕ) → 1 ≤ a → 1 ≤ k → a < a * 2 ^ k
shifted-more a k some h =
    let p : 2 ^ 1 ≤ 2 ^ k = pow-le-pow_right (omega arith) h in
    omega (arith, mul-le-mul_left a p)
