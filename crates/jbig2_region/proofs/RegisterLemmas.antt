-- Contexts out of the register, what the windows show in one number that moves on by doubling, and the pixels at the left.
use Rattle.std.proofs.Common.{pow-suc, pos, negsuc, ℤ, ◌+ℤ◌, ◌-ℤ◌, ◌≡◌, ℕ, ◌+◌, ◌-◌, ◌*◌, ◌/◌, ◌%◌, ◌^◌, ◌<◌, ◌≤◌, ◌++◌, add-one, refl, sym, ap, ◌∙◌, arith}
use Rattle.std.proofs.Math.Nat.{add-mul-mod_self_right, pow-le-pow_right}
use Rattle.std.proofs.lemmas.Int.{ints}
use Rattle.std.proofs.lemmas.Nat.{div-mul-add, mod-mul-add, mod_below, mul-add-lt, pow_pos}
use Rattle.jbig2_base.specs.Grid.{Grid, pixel}
use Rattle.jbig2_base.specs.Bits.{bit}
use Rattle.jbig2_base.proofs.BitLemmas.{bit-mod, bit-shr}
use Rattle.jbig2_region.specs.Generic.{context_at}
use Rattle.jbig2_region.specs.inner.Neighbours.{left_pixels, stretch_pixels, nominal_pixels, cut_of, register_of, IsNear, SameAbove}
use Rattle.jbig2_region.specs.declared.template.neighbours.Neighbours.{Neighbours}
use Rattle.jbig2_region.specs.declared.template.neighbours.Stretch.{Stretch}
use Rattle.jbig2_region.specs.declared.generic_kernel.windows.Windows.{Windows}
use Rattle.jbig2_region.proofs.ContextBits.{context-append, side-context, length-side}
use Rattle.jbig2_region.proofs.WindowLemmas.{left-context, same-above}
use Rattle.jbig2_region.specs.inner.Windows.{IsLeft, IsWindow, Shows}

-- ---- the bits of a number of two parts
pub bit-placed : (low n m j : ℕ) → low < 2 ^ m → bit (low + n * 2 ^ m) (m + j) ≡ bit n j
bit-placed low n m j small =
    let order : low + n * 2 ^ m ≡ n * 2 ^ m + low = omega arith in
    sym (bit-shr (low + n * 2 ^ m) m j) ∙ ap (λ (k : ℕ). bit (k / 2 ^ m) j) order ∙ ap (λ (k : ℕ). bit k j) (div-mul-add n (2 ^ m) low small)

pub bit-low : (low n m j : ℕ) → j < m → bit (low + n * 2 ^ m) j ≡ bit low j
bit-low low n m j inside = sym (bit-mod (low + n * 2 ^ m) m j inside) ∙ ap (λ (k : ℕ). bit k j) (add-mul-mod_self_right low n (2 ^ m)) ∙ bit-mod low m j inside

-- ---- the register after k pixels
above-bit : (above top k r i : ℕ) → r ≡ (above * 2 ^ 16 + top * 2 ^ 40) * 2 ^ k → k ≤ 7 → i ≤ 6 → bit r (23 + i) ≡ bit above (7 - k + i)
above-bit above top k r i is few inside =
    let parts : (above * 2 ^ 16 + top * 2 ^ 40) * 2 ^ k ≡ 0 + (0 + (above + top * 2 ^ 24) * 2 ^ 16) * 2 ^ k = omega arith in
    let place : 23 + i ≡ k + (16 + (7 - k + i)) = omega arith in
    ap (λ (n : ℕ). bit n (23 + i)) (is ∙ parts) ∙ ap (λ (n : ℕ). bit (0 + (0 + (above + top * 2 ^ 24) * 2 ^ 16) * 2 ^ k) n) place
    ∙ bit-placed 0 (0 + (above + top * 2 ^ 24) * 2 ^ 16) k (16 + (7 - k + i)) (pow_pos k)
    ∙ bit-placed 0 (above + top * 2 ^ 24) 16 (7 - k + i) (pow_pos 16)
    ∙ bit-low above top 24 (7 - k + i) (omega arith)

top-bit : (above top k r i : ℕ) → r ≡ (above * 2 ^ 16 + top * 2 ^ 40) * 2 ^ k → above < 2 ^ 16 → k ≤ 7 → i ≤ 6 → bit r (47 + i) ≡ bit top (7 - k + i)
top-bit above top k r i is few_above few inside =
    let parts : (above * 2 ^ 16 + top * 2 ^ 40) * 2 ^ k ≡ 0 + (above * 2 ^ 16 + top * 2 ^ 40) * 2 ^ k = omega arith in
    let place : 47 + i ≡ k + (40 + (7 - k + i)) = omega arith in
    ap (λ (n : ℕ). bit n (47 + i)) (is ∙ parts) ∙ ap (λ (n : ℕ). bit (0 + (above * 2 ^ 16 + top * 2 ^ 40) * 2 ^ k) n) place
    ∙ bit-placed 0 (above * 2 ^ 16 + top * 2 ^ 40) k (40 + (7 - k + i)) (pow_pos k)
    ∙ bit-placed (above * 2 ^ 16) top 40 (7 - k + i) (omega arith)

stretch-cut : (s : Stretch) (g g' : Grid) (x y k rows word seen r place : ℕ) → s.reach ≤ 3 → s.count ≤ 7 → k ≤ 7 → 19 ≤ seen → 1 ≤ rows → SameAbove g g' y → IsWindow g x (pos y -ℤ pos rows) seen word
    → ((i : ℕ) → i ≤ 6 → bit r (place + i) ≡ bit (word / 2 ^ (48 - s.reach) % 2 ^ 16) (7 - k + i)) → r / 2 ^ place % 2 ^ s.count ≡ context_at (stretch_pixels s rows) g' (x + k) y
stretch-cut s g g' x y k rows word seen r place reach few near wide some same shows each =
    side-context g' (x + k) y rows s.count r place (pos s.reach) (λ i inside.
    let down : 48 - s.reach + (7 - k + i) ≡ 63 - (8 + k + s.reach - i) = omega arith in
    let column : pos (x + (8 + k + s.reach - i)) -ℤ pos 8 ≡ pos (x + k) +ℤ (pos s.reach -ℤ pos i) = omega (arith, ints) in
    let row : pos y -ℤ pos rows ≡ pos y +ℤ (pos 0 -ℤ pos rows) = omega (arith, ints) in
    each i (omega arith) ∙ bit-mod (word / 2 ^ (48 - s.reach)) 16 (7 - k + i) (omega arith) ∙ bit-shr word (48 - s.reach) (7 - k + i)
    ∙ ap (λ (n : ℕ). bit word n) down ∙ shows (8 + k + s.reach - i) (omega arith) ∙ same-above g g' (pos (x + (8 + k + s.reach - i)) -ℤ pos 8) y rows some same
    ∙ ap (λ (z : ℤ). pixel g' z (pos y -ℤ pos rows)) column ∙ ap (λ (z : ℤ). pixel g' (pos (x + k) +ℤ (pos s.reach -ℤ pos i)) z) row)

pub register-context : (n : Neighbours) (g g' : Grid) (x y k seen r beside : ℕ) (w : Windows) → IsNear n → k ≤ 7 → 19 ≤ seen → r ≡ register_of n w * 2 ^ k → SameAbove g g' y → Shows g x y seen w → IsLeft g' (x + k) y beside → cut_of n r beside ≡ context_at (nominal_pixels n) g' (x + k) y
register-context n g g' x y k seen r beside w near few wide is same shows before =
    let above : ℕ = w.above / 2 ^ (48 - n.above.reach) % 2 ^ 16 in
    let top : ℕ = w.top / 2 ^ (48 - n.top.reach) % 2 ^ 16 in
    rw (
      left-context n g' (x + k) y beside near.left before,
      stretch-cut n.above g g' x y k 1 w.above seen r 23 near.above_reach near.above_count few wide (omega arith) same shows.above (λ i inside. above-bit above top k r i is few inside),
      stretch-cut n.top g g' x y k 2 w.top seen r 47 near.top_reach near.top_count few wide (omega arith) same shows.top (λ i inside. top-bit above top k r i is (mod_below (w.above / 2 ^ (48 - n.above.reach)) (2 ^ 16) (omega arith)) few inside),
    )
    (sym (
    context-append (left_pixels n) (stretch_pixels n.above 1 ++ stretch_pixels n.top 2) g' (x + k) y
    ∙ rw (context-append (stretch_pixels n.above 1) (stretch_pixels n.top 2) g' (x + k) y, length-side (negsuc 0) 0 n.left, length-side (pos n.above.reach) 1 n.above.count) refl
    ))

-- ---- how the register and the pixels at the left move on
pub double : (k : ℕ) → 2 ^ (k + 1) ≡ 2 * 2 ^ k
double k = rw (add-one k, pow-suc) (omega arith)

pub register-next : (r base k : ℕ) → r ≡ base * 2 ^ k → r * 2 ≡ base * 2 ^ (k + 1)
register-next r base k made = omega (arith, made, ap (λ (n : ℕ). base * n) (double k))

pub register-fits : (r base k : ℕ) → base < 2 ^ 56 → k ≤ 7 → r ≡ base * 2 ^ k → r * 2 < 2 ^ 64
register-fits r base k below few made =
    let all : base * 2 ^ k + 0 < 2 ^ k * 2 ^ 56 = mul-add-lt base (2 ^ k) 0 (2 ^ 56) below (pow_pos k) in
    let wide : 2 ^ k ≤ 2 ^ 7 = pow-le-pow_right (omega arith) few in
    omega arith

pub beside-next : (b left k s : ℕ) → b ≡ left * 2 ^ k + b % 2 ^ k → s < 2 → ((b * 2 + s) % 2 ^ (k + 1) ≡ b % 2 ^ k * 2 + s) × (b * 2 + s ≡ left * 2 ^ (k + 1) + (b * 2 + s) % 2 ^ (k + 1))
beside-next b left k s made small =
    let below : b % 2 ^ k < 2 ^ k = mod_below b (2 ^ k) (pow_pos k) in
    let up : 2 ^ (k + 1) ≡ 2 * 2 ^ k = double k in
    let whole : b * 2 + s ≡ left * 2 ^ (k + 1) + (b % 2 ^ k * 2 + s) = omega (arith, ap (λ (n : ℕ). left * n) up) in
    let few : b % 2 ^ k * 2 + s < 2 ^ (k + 1) = omega arith in
    let rest : (b * 2 + s) % 2 ^ (k + 1) ≡ b % 2 ^ k * 2 + s = ap (λ (n : ℕ). n % 2 ^ (k + 1)) whole ∙ mod-mul-add left (2 ^ (k + 1)) (b % 2 ^ k * 2 + s) few in
    (rest, whole ∙ ap (λ (n : ℕ). left * 2 ^ (k + 1) + n) (sym rest))

pub beside-fits : (b left k : ℕ) → left < 16 → k ≤ 8 → b ≡ left * 2 ^ k + b % 2 ^ k → b < 2 ^ 12
beside-fits b left k small few made =
    let all : left * 2 ^ k + b % 2 ^ k < 2 ^ k * 16 = mul-add-lt left (2 ^ k) (b % 2 ^ k) 16 small (mod_below b (2 ^ k) (pow_pos k)) in
    let wide : 2 ^ k ≤ 2 ^ 8 = pow-le-pow_right (omega arith) few in
    omega arith

-- the lowest four bits of a number are the pixels at the left
pub left-whole : (g : Grid) (x y n : ℕ) → IsLeft g x y (n % 16) → IsLeft g x y n
left-whole g x y n is = λ k inside. sym (bit-mod n 4 k inside) ∙ is k inside

pub left-few : (g : Grid) (x y n : ℕ) → IsLeft g x y n → IsLeft g x y (n % 16)
left-few g x y n is = λ k inside. bit-mod n 4 k inside ∙ is k inside

-- ---- fields of the register
pub low-bits : (r count : ℕ) → count ≤ 32 → r % (1 * 2 ^ count % 2 ^ 64) ≡ r % 2 ^ count
low-bits r count few =
    let small : 2 ^ count ≤ 2 ^ 32 = pow-le-pow_right (omega arith) few in
    let same : 1 * 2 ^ count % 2 ^ 64 ≡ 2 ^ count = omega arith in
    ap (λ (n : ℕ). r % n) same
