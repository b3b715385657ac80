-- The bits of what the operators of words give.
use Rattle.std.proofs.Common.{◌≡◌, ℕ, ◌+◌, ◌-◌, ◌*◌, ◌/◌, ◌%◌, ◌^◌, ◌<◌, ◌≤◌, Bool, true, false, not, ◌&&◌, ◌||◌, cond, eqb, ltb, leb, refl, sym, ap, subst, ◌∙◌, min, max, ⊎_elim, lit<, w64, arith}
use Rattle.std.proofs.lemmas.Nat.{pow_pos, shr-shr, shr_split, shr_below, mod_below, or_lt, shr_le}
use Rattle.std.specs.Int.{bit_at}
use Rattle.std.specs.Int.RustNames.{bit_or, bit_xor}
use lib.Bits.{bit_and}
use Rattle.std.proofs.lemmas.Bool.{cases_eq, cases_lt, eq-eqb, ne_eqb, cond-true, cond-false, and_from, and_left, and_right, le-leb, lt-leb, lt-ltb, le-ltb}
use Rattle.std.proofs.lemmas.Bool.Decides.{nat_tests}
use Rattle.jbig2_base.specs.Bits.{bit_number}
use Rattle.std.proofs.lemmas.Nat.Bits as bits
use Rattle.jbig2_base.specs.{Bits.{bit}, inner.WordBits.{field_bit}}

bit_number-test : (x : ℕ) → x < 2 → bit_number (eqb x 1) ≡ x
bit_number-test x h = ⊎_elim (λ (one : x ≡ 1). rw (eq-eqb x 1 one) (sym one)) (λ (other : x ≡ 1 → ⊥). rw (ne_eqb x 1 other) (omega arith)) (cases_eq x 1)

max-test : (x y : ℕ) → x < 2 → y < 2 → eqb (max x y) 1 ≡ (eqb x 1 || eqb y 1)
max-test x y p q = grind (arith, nat_tests)

min-test : (x y : ℕ) → x < 2 → y < 2 → eqb (min x y) 1 ≡ (eqb x 1 && eqb y 1)
min-test x y p q = grind (arith, nat_tests)

sum-test : (x y : ℕ) → x < 2 → y < 2 → eqb ((x + y) % 2) 1 ≡ cond (eqb x 1) (not (eqb y 1)) (eqb y 1)
sum-test x y p q = grind (arith, nat_tests)

-- ---- a bit as a number
pub bit_number-bit : (n k : ℕ) → bit_number (bit n k) ≡ bit_at n k
unfolding bit
bit_number-bit n k = bit_number-test (bit_at n k) (bits.bit_at-lt n k)

-- `(n >> k) & 1`
pub shr-and_one : (n k : ℕ) → bit_and (n / 2 ^ k) 1 ≡ bit_number (bit n k)
shr-and_one n k = bits.shr_and_one n k ∙ sym (bit_number-bit n k)

-- a number of one bit
pub one_bit-number : (n : ℕ) (b : Bool) → n < 2 ^ 1 → bit n (1 - 1 - 0) ≡ b → n ≡ bit_number b
one_bit-number n b small e =
    let whole : n ≡ bit_at n 0 = omega arith in
    whole ∙ sym (bit_number-bit n 0) ∙ ap bit_number e

-- ---- the operators
pub bit-or : (a b k : ℕ) → bit (bit_or a b) k ≡ (bit a k || bit b k)
unfolding bit
bit-or a b k = ap (λ (n : ℕ). eqb n 1) (bits.bit_at_or a b k) ∙ max-test (bit_at a k) (bit_at b k) (bits.bit_at-lt a k) (bits.bit_at-lt b k)

pub bit-and : (a b k : ℕ) → bit (bit_and a b) k ≡ (bit a k && bit b k)
unfolding bit
bit-and a b k = ap (λ (n : ℕ). eqb n 1) (bits.bit_at_and a b k) ∙ min-test (bit_at a k) (bit_at b k) (bits.bit_at-lt a k) (bits.bit_at-lt b k)

pub bit-xor : (a b k : ℕ) → bit (bit_xor a b) k ≡ cond (bit a k) (not (bit b k)) (bit b k)
unfolding bit
bit-xor a b k = ap (λ (n : ℕ). eqb n 1) (bits.bit_at_xor a b k) ∙ sum-test (bit_at a k) (bit_at b k) (bits.bit_at-lt a k) (bits.bit_at-lt b k)

-- ---- numbers with known bits
pub bit-zero : (k : ℕ) → bit 0 k ≡ false
unfolding bit
bit-zero k = ap (λ (n : ℕ). eqb n 1) (bits.bit_at-zero k)

pub bit-above : (n w k : ℕ) → n < 2 ^ w → w ≤ k → bit n k ≡ false
unfolding bit
bit-above n w k small past = ap (λ (m : ℕ). eqb m 1) (bits.bit_at_above n w k small past)

pub bit-ones : (w k : ℕ) → k < w → bit (2 ^ w - 1) k ≡ true
unfolding bit
bit-ones w k inside = ap (λ (m : ℕ). eqb m 1) (bits.bit_at_ones w k inside)

pub bit-ones_above : (w k : ℕ) → w ≤ k → bit (2 ^ w - 1) k ≡ false
unfolding bit
bit-ones_above w k past = ap (λ (m : ℕ). eqb m 1) (bits.bit_at_ones_above w k past)

-- `MAX << lo` at hi bits
pub bit-high_ones : (lo hi k : ℕ) → lo ≤ k → k < hi → bit (2 ^ hi - 2 ^ lo) k ≡ true
unfolding bit
bit-high_ones lo hi k low high = ap (λ (m : ℕ). eqb m 1) (bits.bit_at_mask_inside lo hi k low high)

pub bit-high_ones_below : (lo hi k : ℕ) → k < lo → bit (2 ^ hi - 2 ^ lo) k ≡ false
unfolding bit
bit-high_ones_below lo hi k low = ap (λ (m : ℕ). eqb m 1) (bits.bit_at_mask_below lo hi k low)

pub bit-pow_same : (k : ℕ) → bit (2 ^ k) k ≡ true
unfolding bit
bit-pow_same k = ap (λ (m : ℕ). eqb m 1) (bits.bit_at-pow_same k)

pub bit-pow_other : (k i : ℕ) → (i ≡ k → ⊥) → bit (2 ^ k) i ≡ false
unfolding bit
bit-pow_other k i other = ap (λ (m : ℕ). eqb m 1) (bits.bit_at-pow_other k i other)

-- ---- shifts
pub bit-shr : (n m k : ℕ) → bit (n / 2 ^ m) k ≡ bit n (m + k)
unfolding bit
bit-shr n m k = ap (λ (q : ℕ). eqb (q % 2) 1) (shr-shr n m k)

pub bit-mod : (n w k : ℕ) → k < w → bit (n % 2 ^ w) k ≡ bit n k
unfolding bit
bit-mod n w k inside =
    ap (λ (m : ℕ). eqb m 1) (sym (bits.bit_at_cat_low (n / 2 ^ w) w (n % 2 ^ w) k inside) ∙ ap (λ (m : ℕ). bit_at m k) (shr_split n w))

-- `n << m` at w bits
pub bit-shl_high : (n m w k : ℕ) → m ≤ k → k < w → bit (n * 2 ^ m % 2 ^ w) k ≡ bit n (k - m)
unfolding bit
bit-shl_high n m w k past inside =
    let whole : n * 2 ^ m ≡ n * 2 ^ m + 0 = omega arith in
    bit-mod (n * 2 ^ m) w k inside ∙ ap (λ (q : ℕ). eqb q 1) (ap (λ (q : ℕ). bit_at q k) whole ∙ bits.bit_at_cat_high n m 0 k (pow_pos m) past)

pub bit-shl_low : (n m w k : ℕ) → k < m → k < w → bit (n * 2 ^ m % 2 ^ w) k ≡ false
unfolding bit
bit-shl_low n m w k below inside =
    let whole : n * 2 ^ m ≡ n * 2 ^ m + 0 = omega arith in
    bit-mod (n * 2 ^ m) w k inside ∙ ap (λ (q : ℕ). eqb q 1) (ap (λ (q : ℕ). bit_at q k) whole ∙ bits.bit_at_cat_low n m 0 k below ∙ bits.bit_at-zero k)

-- `!n` at 64 bits
flipped : (x : ℕ) → x < 2 → eqb (1 - x) 1 ≡ not (eqb x 1)
flipped x h = grind (arith, nat_tests)

pub bit-not : (n k : ℕ) → n < 2 ^ 64 → k < 64 → bit (2 ^ 64 - 1 - n) k ≡ not (bit n k)
unfolding bit
bit-not n k small inside = ap (λ (m : ℕ). eqb m 1) (bits.bit_at_not w64 n k small inside) ∙ flipped (bit_at n k) (bits.bit_at-lt n k)

-- ---- tests
pub or-false : (a b : Bool) → b ≡ false → (a || b) ≡ a
or-false true b none = refl
or-false false b none = none

pub or-true : (a b : Bool) → b ≡ true → (a || b) ≡ true
or-true true b some = refl
or-true false b some = some

-- ---- a field of a word
pub field-inside : (word shift count bits b : ℕ) → shift ≤ b → b < shift + count → field_bit word shift count bits b ≡ bit bits (b - shift)
unfolding field_bit
field-inside word shift count bits b low high = cond-true (leb shift b && ltb b (shift + count)) (bit bits (b - shift)) (bit word b) (and_from _ _ (le-leb shift b low) (lt-ltb b (shift + count) high))

pub field-below : (word shift count bits b : ℕ) → b < shift → field_bit word shift count bits b ≡ bit word b
unfolding field_bit
field-below word shift count bits b low = cond-false (leb shift b && ltb b (shift + count)) (bit bits (b - shift)) (bit word b) (and_left (leb shift b) _ (lt-leb shift b low))

pub field-above : (word shift count bits b : ℕ) → shift + count ≤ b → field_bit word shift count bits b ≡ bit word b
unfolding field_bit
field-above word shift count bits b high = cond-false (leb shift b && ltb b (shift + count)) (bit bits (b - shift)) (bit word b) (and_right (leb shift b) _ (le-ltb b (shift + count) high))

kept : (t u m : Bool) → m ≡ false → ((t && not m) || (u && m)) ≡ t
kept t u m clear = grind (arith, clear)

replaced : (t u m : Bool) → m ≡ true → ((t && not m) || (u && m)) ≡ u
replaced t u m set = grind (arith, set)

masked : (word mask low b : ℕ) → mask < 2 ^ 64 → b < 64 → bit (bit_or (bit_and word (2 ^ 64 - 1 - mask)) (bit_and low mask)) b ≡ ((bit word b && not (bit mask b)) || (bit low b && bit mask b))
masked word mask low b small inside =
    bit-or (bit_and word (2 ^ 64 - 1 - mask)) (bit_and low mask) b
    ∙ ap (λ (t : Bool). t || bit (bit_and low mask) b) (bit-and word (2 ^ 64 - 1 - mask) b ∙ ap (λ (t : Bool). bit word b && t) (bit-not mask b small inside))
    ∙ ap (λ (t : Bool). (bit word b && not (bit mask b)) || t) (bit-and low mask b)

-- `MAX >> (64 - count)`
ones-shr : (count : ℕ) → count ≤ 64 → (2 ^ 64 - 1) / 2 ^ (64 - count) ≡ 2 ^ count - 1
ones-shr count few =
    let width : 64 - (64 - count) ≡ count = omega arith in
    bits.ones_shr 64 (64 - count) (omega arith) ∙ ap (λ (n : ℕ). 2 ^ n - 1) width

-- `(word & !mask) | ((bits << shift) & mask)`, where the mask is `(MAX >> (64 - count)) << shift`
pub bit-with_field : (word shift count bits b : ℕ) → shift + count ≤ 64 → b < 64 → bit (bit_or (bit_and word (2 ^ 64 - 1 - (2 ^ 64 - 1) / 2 ^ (64 - count) * 2 ^ shift % 2 ^ 64)) (bit_and (bits * 2 ^ shift % 2 ^ 64) ((2 ^ 64 - 1) / 2 ^ (64 - count) * 2 ^ shift % 2 ^ 64))) b ≡ field_bit word shift count bits b
bit-with_field word shift count bits b within inside =
    let ones : ℕ = (2 ^ 64 - 1) / 2 ^ (64 - count) in
    let mask : ℕ = ones * 2 ^ shift % 2 ^ 64 in
    let low : ℕ = bits * 2 ^ shift % 2 ^ 64 in
    let split = masked word mask low b (mod_below (ones * 2 ^ shift) (2 ^ 64) (lit< tt)) inside in
    let width = ones-shr count (omega arith) in
    ⊎_elim
    (λ (below : b < shift).
    split ∙ kept (bit word b) (bit low b) (bit mask b) (bit-shl_low ones shift 64 b below inside) ∙ sym (field-below word shift count bits b below))
    (λ (past : shift ≤ b).
    ⊎_elim
    (λ (within : b < shift + count).
    split
    ∙ replaced (bit word b) (bit low b) (bit mask b) (bit-shl_high ones shift 64 b past inside ∙ ap (λ (n : ℕ). bit n (b - shift)) width ∙ bit-ones count (b - shift) (omega arith))
    ∙ bit-shl_high bits shift 64 b past inside
    ∙ sym (field-inside word shift count bits b past within))
    (λ (beyond : shift + count ≤ b).
    split
    ∙ kept (bit word b) (bit low b) (bit mask b) (bit-shl_high ones shift 64 b past inside ∙ ap (λ (n : ℕ). bit n (b - shift)) width ∙ bit-ones_above count (b - shift) (omega arith))
    ∙ sym (field-above word shift count bits b beyond))
    (cases_lt b (shift + count)))
    (cases_lt b shift)

-- ---- a mask: `(MAX >> (64 - count)) << (64 - offset - count)`
pub mask-inside : (offset count b : ℕ) → offset + count ≤ 64 → 64 - offset - count ≤ b → b < 64 - offset → bit ((2 ^ 64 - 1) / 2 ^ (64 - count) * 2 ^ (64 - offset - count) % 2 ^ 64) b ≡ true
mask-inside offset count b within low high =
    bit-shl_high ((2 ^ 64 - 1) / 2 ^ (64 - count)) (64 - offset - count) 64 b low (omega arith)
    ∙ ap (λ (n : ℕ). bit n (b - (64 - offset - count))) (ones-shr count (omega arith))
    ∙ bit-ones count (b - (64 - offset - count)) (omega arith)

pub mask-below : (offset count b : ℕ) → offset + count ≤ 64 → b < 64 - offset - count → bit ((2 ^ 64 - 1) / 2 ^ (64 - count) * 2 ^ (64 - offset - count) % 2 ^ 64) b ≡ false
mask-below offset count b within below = bit-shl_low ((2 ^ 64 - 1) / 2 ^ (64 - count)) (64 - offset - count) 64 b below (omega arith)

pub mask-above : (offset count b : ℕ) → offset + count ≤ 64 → b < 64 → 64 - offset ≤ b → bit ((2 ^ 64 - 1) / 2 ^ (64 - count) * 2 ^ (64 - offset - count) % 2 ^ 64) b ≡ false
mask-above offset count b within inside above =
    bit-shl_high ((2 ^ 64 - 1) / 2 ^ (64 - count)) (64 - offset - count) 64 b (omega arith) inside
    ∙ ap (λ (n : ℕ). bit n (b - (64 - offset - count))) (ones-shr count (omega arith))
    ∙ bit-ones_above count (b - (64 - offset - count)) (omega arith)

-- the operators under a mask
or-test : (p s m : Bool) → (p || (s && m)) ≡ cond m (p || s) p
or-test p s m = grind arith

and-test : (p s m : Bool) → (p && (s || not m)) ≡ cond m (p && s) p
and-test p s m = grind arith

xor-test : (p s m : Bool) → cond p (not (s && m)) (s && m) ≡ cond m (cond p (not s) s) p
xor-test p s m = grind arith

xnor-test : (p s m : Bool) → cond p (not (not s && m)) (not s && m) ≡ cond m (cond p s (not s)) p
xnor-test p s m = grind arith

replace-test : (p s m : Bool) → ((p && not m) || (s && m)) ≡ cond m s p
replace-test p s m = grind arith

pub masked-or : (page source mask b : ℕ) → bit (bit_or page (bit_and source mask)) b ≡ cond (bit mask b) (bit page b || bit source b) (bit page b)
masked-or page source mask b =
    bit-or page (bit_and source mask) b
    ∙ ap (λ (t : Bool). bit page b || t) (bit-and source mask b)
    ∙ or-test (bit page b) (bit source b) (bit mask b)

pub masked-and : (page source mask b : ℕ) → mask < 2 ^ 64 → b < 64 → bit (bit_and page (bit_or source (2 ^ 64 - 1 - mask))) b ≡ cond (bit mask b) (bit page b && bit source b) (bit page b)
masked-and page source mask b small inside =
    bit-and page (bit_or source (2 ^ 64 - 1 - mask)) b
    ∙ ap (λ (t : Bool). bit page b && t) (bit-or source (2 ^ 64 - 1 - mask) b ∙ ap (λ (t : Bool). bit source b || t) (bit-not mask b small inside))
    ∙ and-test (bit page b) (bit source b) (bit mask b)

pub masked-xor : (page source mask b : ℕ) → bit (bit_xor page (bit_and source mask)) b ≡ cond (bit mask b) (cond (bit page b) (not (bit source b)) (bit source b)) (bit page b)
masked-xor page source mask b =
    bit-xor page (bit_and source mask) b
    ∙ ap (λ (t : Bool). cond (bit page b) (not t) t) (bit-and source mask b)
    ∙ xor-test (bit page b) (bit source b) (bit mask b)

pub masked-xnor : (page source mask b : ℕ) → source < 2 ^ 64 → b < 64 → bit (bit_xor page (bit_and (2 ^ 64 - 1 - source) mask)) b ≡ cond (bit mask b) (cond (bit page b) (bit source b) (not (bit source b))) (bit page b)
masked-xnor page source mask b small inside =
    bit-xor page (bit_and (2 ^ 64 - 1 - source) mask) b
    ∙ ap (λ (t : Bool). cond (bit page b) (not t) t) (bit-and (2 ^ 64 - 1 - source) mask b ∙ ap (λ (t : Bool). t && bit mask b) (bit-not source b small inside))
    ∙ xnor-test (bit page b) (bit source b) (bit mask b)

pub masked-replace : (page source mask b : ℕ) → mask < 2 ^ 64 → b < 64 → bit (bit_or (bit_and page (2 ^ 64 - 1 - mask)) (bit_and source mask)) b ≡ cond (bit mask b) (bit source b) (bit page b)
masked-replace page source mask b small inside = masked page mask source b small inside ∙ replace-test (bit page b) (bit source b) (bit mask b)

-- `a ^ b ^ (MAX >> (64 - count))`
flips : (p s o : Bool) → o ≡ true → cond (cond p (not s) s) (not o) o ≡ cond p s (not s)
flips true true o e = e
flips true false o e = ap (λ (t : Bool). not t) e
flips false true o e = ap (λ (t : Bool). not t) e
flips false false o e = e

pub bit-xnor : (a b count k : ℕ) → count ≤ 64 → k < count → bit (bit_xor (bit_xor a b) ((2 ^ 64 - 1) / 2 ^ (64 - count))) k ≡ cond (bit a k) (bit b k) (not (bit b k))
bit-xnor a b count k few inside =
    let ones : ℕ = (2 ^ 64 - 1) / 2 ^ (64 - count) in
    bit-xor (bit_xor a b) ones k
    ∙ ap (λ (t : Bool). cond t (not (bit ones k)) (bit ones k)) (bit-xor a b k)
    ∙ flips (bit a k) (bit b k) (bit ones k) (ap (λ (n : ℕ). bit n k) (ones-shr count few) ∙ bit-ones count k inside)

-- ---- a window of `count` bits from `offset` on
-- `(first << offset) >> (64 - count)`
bit-near : (first offset count k : ℕ) → count ≤ 64 → offset + count ≤ 64 → k < count → bit (first * 2 ^ offset % 2 ^ 64 / 2 ^ (64 - count)) (count - 1 - k) ≡ bit first (63 - (offset + k))
bit-near first offset count k few near inside =
    let place : 64 - count + (count - 1 - k) ≡ 63 - k = omega arith in
    let back : 63 - k - offset ≡ 63 - (offset + k) = omega arith in
    bit-shr (first * 2 ^ offset % 2 ^ 64) (64 - count) (count - 1 - k)
    ∙ ap (λ (b : ℕ). bit (first * 2 ^ offset % 2 ^ 64) b) place
    ∙ bit-shl_high first offset 64 (63 - k) (omega arith) (omega arith)
    ∙ ap (λ (b : ℕ). bit first b) back

-- `((first << offset) | (second >> (64 - offset))) >> (64 - count)`
both-words : (first second offset count k : ℕ) → count ≤ 64 → k < count → bit (bit_or (first * 2 ^ offset % 2 ^ 64) (second / 2 ^ (64 - offset)) / 2 ^ (64 - count)) (count - 1 - k) ≡ (bit (first * 2 ^ offset % 2 ^ 64) (63 - k) || bit second (64 - offset + (63 - k)))
both-words first second offset count k few inside =
    let place : 64 - count + (count - 1 - k) ≡ 63 - k = omega arith in
    bit-shr (bit_or (first * 2 ^ offset % 2 ^ 64) (second / 2 ^ (64 - offset))) (64 - count) (count - 1 - k)
    ∙ ap (λ (b : ℕ). bit (bit_or (first * 2 ^ offset % 2 ^ 64) (second / 2 ^ (64 - offset))) b) place
    ∙ bit-or (first * 2 ^ offset % 2 ^ 64) (second / 2 ^ (64 - offset)) (63 - k)
    ∙ ap (λ (t : Bool). bit (first * 2 ^ offset % 2 ^ 64) (63 - k) || t) (bit-shr second (64 - offset) (63 - k))

bit-in_first : (first second offset count k : ℕ) → second < 2 ^ 64 → count ≤ 64 → k < count → offset + k < 64 → bit (bit_or (first * 2 ^ offset % 2 ^ 64) (second / 2 ^ (64 - offset)) / 2 ^ (64 - count)) (count - 1 - k) ≡ bit first (63 - (offset + k))
bit-in_first first second offset count k small few inside near =
    let back : 63 - k - offset ≡ 63 - (offset + k) = omega arith in
    both-words first second offset count k few inside
    ∙ or-false (bit (first * 2 ^ offset % 2 ^ 64) (63 - k)) (bit second (64 - offset + (63 - k))) (bit-above second 64 (64 - offset + (63 - k)) small (omega arith))
    ∙ bit-shl_high first offset 64 (63 - k) (omega arith) (omega arith)
    ∙ ap (λ (b : ℕ). bit first b) back

bit-in_second : (first second offset count k : ℕ) → offset < 64 → count ≤ 64 → k < count → 64 ≤ offset + k → bit (bit_or (first * 2 ^ offset % 2 ^ 64) (second / 2 ^ (64 - offset)) / 2 ^ (64 - count)) (count - 1 - k) ≡ bit second (63 - (offset + k - 64))
bit-in_second first second offset count k part few inside far =
    let back : 64 - offset + (63 - k) ≡ 63 - (offset + k - 64) = omega arith in
    both-words first second offset count k few inside
    ∙ ap (λ (t : Bool). t || bit second (64 - offset + (63 - k))) (bit-shl_low first offset 64 (63 - k) (omega arith) (omega arith))
    ∙ ap (λ (b : ℕ). bit second b) back

-- the same of a row of pixels whose words are known, from column x on
pub load-near : (row : ℕ → Bool) (first x count k : ℕ) → ((i : ℕ) → i < 64 → bit first (63 - i) ≡ row (64 * (x / 64) + i)) → count ≤ 64 → x % 64 + count ≤ 64 → k < count → bit (first * 2 ^ (x % 64) % 2 ^ 64 / 2 ^ (64 - count)) (count - 1 - k) ≡ row (x + k)
load-near row first x count k each few near inside =
    let place : 64 * (x / 64) + (x % 64 + k) ≡ x + k = omega arith in
    bit-near first (x % 64) count k few near inside ∙ each (x % 64 + k) (omega arith) ∙ ap row place

pub load-far : (row : ℕ → Bool) (first second x count k : ℕ) → ((i : ℕ) → i < 64 → bit first (63 - i) ≡ row (64 * (x / 64) + i)) → ((i : ℕ) → i < 64 → bit second (63 - i) ≡ row (64 * (x / 64 + 1) + i)) → second < 2 ^ 64 → count ≤ 64 → k < count → bit (bit_or (first * 2 ^ (x % 64) % 2 ^ 64) (second / 2 ^ (64 - x % 64)) / 2 ^ (64 - count)) (count - 1 - k) ≡ row (x + k)
load-far row first second x count k each next small few inside =
    ⊎_elim
    (λ (near : x % 64 + k < 64).
    let place : 64 * (x / 64) + (x % 64 + k) ≡ x + k = omega arith in
    bit-in_first first second (x % 64) count k small few inside near ∙ each (x % 64 + k) near ∙ ap row place)
    (λ (far : 64 ≤ x % 64 + k).
    let place : 64 * (x / 64 + 1) + (x % 64 + k - 64) ≡ x + k = omega arith in
    bit-in_second first second (x % 64) count k (omega arith) few inside far ∙ next (x % 64 + k - 64) (omega arith) ∙ ap row place)
    (cases_lt (x % 64 + k) 64)

pub shr-lt : (n count : ℕ) → count ≤ 64 → n < 2 ^ 64 → n / 2 ^ (64 - count) < 2 ^ count
shr-lt n count few small =
    let whole : 64 ≡ count + (64 - count) = omega arith in
    shr_below n count (64 - count) (subst (λ (w : ℕ). n < 2 ^ w) whole small)

pub load-lt : (first second offset count : ℕ) → second < 2 ^ 64 → count ≤ 64 → bit_or (first * 2 ^ offset % 2 ^ 64) (second / 2 ^ (64 - offset)) / 2 ^ (64 - count) < 2 ^ count
load-lt first second offset count small few =
    let le = shr_le second (64 - offset) in
    shr-lt (bit_or (first * 2 ^ offset % 2 ^ 64) (second / 2 ^ (64 - offset))) count few (or_lt 64 (first * 2 ^ offset % 2 ^ 64) (second / 2 ^ (64 - offset)) (mod_below (first * 2 ^ offset) (2 ^ 64) (lit< tt)) (omega (arith, le)))
