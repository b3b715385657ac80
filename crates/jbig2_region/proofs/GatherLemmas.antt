-- Two fields of a register, which one product brings side by side, with the pixels at the left below them.
use Rattle.std.proofs.Common.{◌≡◌, ℕ, ◌+◌, ◌-◌, ◌*◌, ◌/◌, ◌%◌, ◌^◌, ◌<◌, ◌≤◌, ap, ◌∙◌, arith}
use Rattle.std.proofs.Math.Nat.{div-add-mod, mul-le-mul, pow-le-pow_right}
use Rattle.std.proofs.lemmas.Nat.{mod_below, mod-mul-add, mul-add-lt, pow_pos, pow-add}
use Rattle.jbig2_region.specs.inner.Neighbours.{IsNear, cut_of, neighbour_count, stretches_of}
use Rattle.jbig2_region.specs.declared.template.neighbours.Neighbours.{Neighbours}
use Rattle.jbig2_region.proofs.ContextBits.{lt-few}
use Rattle.jbig2_region.proofs.RegisterLemmas.{double, low-bits}

-- p and q stand for the places that the pixels at the left and the lower field take
product : (above top p q : ℕ) → (above * 8388608 + top * 140737488355328) * (33554432 * p + 2 * (p * q))
    ≡ (above + top * q) * p * 2 ^ 48 + above * (p * q) * 16777216 + top * p * 256 * 2 ^ 64
product above top p q = omega arith

middle : (n rest over : ℕ) → n < 2 ^ 16 → rest < 2 ^ 48 → (n * 2 ^ 48 + rest + over * 2 ^ 64) % 2 ^ 64 / 2 ^ 48 ≡ n
middle n rest over small below = omega arith

below-middle : (above p q : ℕ) → above ≤ 128 → p ≤ 16 → q ≤ 128 → above * (p * q) * 16777216 < 2 ^ 48
below-middle above p q a b c =
    let pq : p * q ≤ 16 * 128 = mul-le-mul b c in
    let all : above * (p * q) ≤ 128 * (16 * 128) = mul-le-mul a pq in
    omega (arith, all)

pub gathered : (above top p q : ℕ) → above < q → p ≤ 16 → q ≤ 128 → (above + top * q) * p < 2 ^ 16
    → (above * 8388608 + top * 140737488355328) * (33554432 * p + 2 * (p * q)) % 2 ^ 64 / 2 ^ 48 ≡ (above + top * q) * p
gathered above top p q a b c small =
    rw (product above top p q)
    (middle ((above + top * q) * p) (above * (p * q) * 16777216) (top * p * 256) small (below-middle above p q (omega arith) b c))

-- ---- the places of a near template
pub left-place : (n : Neighbours) → IsNear n → 2 ^ n.left ≤ 16
left-place n near =
    let up : 2 ^ n.left ≤ 2 ^ 4 = pow-le-pow_right (omega arith) near.left in
    omega arith

pub above-place : (n : Neighbours) → IsNear n → 2 ^ n.above.count ≤ 128
above-place n near =
    let up : 2 ^ n.above.count ≤ 2 ^ 7 = pow-le-pow_right (omega arith) near.above_count in
    omega arith

-- `2 << (left + above)`
pub both-places : (n : Neighbours) → IsNear n → 2 * 2 ^ (n.left + n.above.count) % 2 ^ 64 ≡ 2 * (2 ^ n.left * 2 ^ n.above.count)
both-places n near =
    let product : 2 ^ n.left * 2 ^ n.above.count ≤ 16 * 128 = mul-le-mul (left-place n near) (above-place n near) in
    rw (pow-add 2 n.left n.above.count) (omega arith)

pub fields : (n : Neighbours) (r b : ℕ) → IsNear n → cut_of n r b < 2 ^ neighbour_count n
fields n r b near =
    let low : b % 2 ^ n.left < 2 ^ n.left = mod_below b (2 ^ n.left) (pow_pos n.left) in
    let above : r / 2 ^ 23 % 2 ^ n.above.count < 2 ^ n.above.count = mod_below (r / 2 ^ 23) (2 ^ n.above.count) (pow_pos n.above.count) in
    let top : r / 2 ^ 47 % 2 ^ n.top.count < 2 ^ n.top.count = mod_below (r / 2 ^ 47) (2 ^ n.top.count) (pow_pos n.top.count) in
    let higher : r / 2 ^ 47 % 2 ^ n.top.count * 2 ^ n.above.count + r / 2 ^ 23 % 2 ^ n.above.count < 2 ^ n.above.count * 2 ^ n.top.count = mul-add-lt _ (2 ^ n.above.count) _ (2 ^ n.top.count) top above in
    let all : (r / 2 ^ 47 % 2 ^ n.top.count * 2 ^ n.above.count + r / 2 ^ 23 % 2 ^ n.above.count) * 2 ^ n.left + b % 2 ^ n.left < 2 ^ n.left * (2 ^ n.above.count * 2 ^ n.top.count) = mul-add-lt _ (2 ^ n.left) _ (2 ^ n.above.count * 2 ^ n.top.count) higher low in
    rw (pow-add 2 n.left (n.above.count + n.top.count), pow-add 2 n.above.count n.top.count) (omega (arith, all))

-- the product of the fields of a register, from bit 48 on
register-gathered : (n : Neighbours) (r : ℕ) → IsNear n
    → (r / 2 ^ 23 % 2 ^ n.above.count * 8388608 + r / 2 ^ 47 % 2 ^ n.top.count * 140737488355328) * (33554432 * 2 ^ n.left + 2 * (2 ^ n.left * 2 ^ n.above.count)) % 2 ^ 64 / 2 ^ 48 ≡ stretches_of n r * 2 ^ n.left
register-gathered n r near =
    let all : cut_of n r 0 < 2 ^ 16 = lt-few (cut_of n r 0) (neighbour_count n) (fields n r 0 near) near.few in
    gathered (r / 2 ^ 23 % 2 ^ n.above.count) (r / 2 ^ 47 % 2 ^ n.top.count) (2 ^ n.left) (2 ^ n.above.count)
    (mod_below (r / 2 ^ 23) (2 ^ n.above.count) (pow_pos n.above.count)) (left-place n near) (above-place n near) (omega (arith, all))

-- with the pixels at the left
pub context-gathered : (n : Neighbours) (r b : ℕ) → IsNear n
    → (r / 2 ^ 23 % (1 * 2 ^ n.above.count % 2 ^ 64) * 8388608 + r / 2 ^ 47 % (1 * 2 ^ n.top.count % 2 ^ 64) * 140737488355328) * (33554432 * 2 ^ n.left % 2 ^ 64 + 2 * 2 ^ (n.left + n.above.count) % 2 ^ 64) % 2 ^ 64 / 2 ^ 48 + b % (1 * 2 ^ n.left % 2 ^ 32) ≡ cut_of n r b
context-gathered n r b near =
    let one : 33554432 * 2 ^ n.left % 2 ^ 64 ≡ 33554432 * 2 ^ n.left = omega (arith, left-place n near) in
    let side : 1 * 2 ^ n.left % 2 ^ 32 ≡ 2 ^ n.left = omega (arith, left-place n near) in
    rw (low-bits (r / 2 ^ 23) n.above.count (omega (arith, near.above_count)), low-bits (r / 2 ^ 47) n.top.count (omega (arith, near.top_count)), one, both-places n near, side, register-gathered n r near) (omega arith)

-- ---- a pixel that comes in at the low end
pub even : (r s p : ℕ) → s < 2 → 1 ≤ p → (r * 2 + s) % (2 * p) ≡ r % p * 2 + s
even r s p small some =
    let rest : r % p < p = mod_below r p some in
    let whole : r * 2 + s ≡ r / p * (2 * p) + (r % p * 2 + s) = omega (arith, div-add-mod r p) in
    ap (λ (n : ℕ). n % (2 * p)) whole ∙ mod-mul-add (r / p) (2 * p) (r % p * 2 + s) (omega arith)

pub cut-digit : (n : Neighbours) (r b s : ℕ) → IsNear n → s < 2 → cut_of n r (b * 2) + s ≡ cut_of n r (b * 2 + s)
cut-digit n r b s near small =
    let k : ℕ = n.left - 1 in
    let one : n.left ≡ k + 1 = omega (arith, near.some) in
    let p : 2 ^ n.left ≡ 2 * 2 ^ k = ap (λ (i : ℕ). 2 ^ i) one ∙ double k in
    let none : b * 2 ≡ b * 2 + 0 = omega arith in
    let clear : b * 2 % 2 ^ n.left ≡ b % 2 ^ k * 2 + 0 = rw p (ap (λ (i : ℕ). i % (2 * 2 ^ k)) none ∙ even b 0 (2 ^ k) (omega arith) (pow_pos k)) in
    let low : (b * 2 + s) % 2 ^ n.left ≡ b % 2 ^ k * 2 + s = rw p (even b s (2 ^ k) small (pow_pos k)) in
    rw (low, clear) (omega arith)
