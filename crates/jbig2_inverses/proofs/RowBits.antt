-- The bits that are written: no mode begins as an end of block does, and all are 0 or 1.
use Rattle.std.proofs.Common.{◌≡◌, ℕ, zero, suc, ◌*◌, ◌/◌, ◌%◌, ◌^◌, ◌<◌, ◌≤◌, eqb, ltb, leb, Bool, true, false, cond, ◌&&◌, List, [], ◌∷◌, ◌++◌, length, take, refl, ap, arith, ⊎_elim, ne_eqb, ltb-true, length-take-le, pow_mono, mul-le-mul_right}
use Rattle.std.specs.List.{list_all}
use Rattle.std.proofs.lemmas.Bool.{cond_both, cases_lt, and_parts, and_left, and_right, lt-leb}
use Rattle.jbig2_base.specs.Bits.{number_after}
use Rattle.jbig2_base.specs.inner.BitLists.{AreBits}
use Rattle.jbig2_base.proofs.NumberLemmas.{number-front}
use Rattle.jbig2_mmr.specs.declared.mmr.codes.Mode.{Mode}
use Rattle.jbig2_mmr.specs.declared.mmr.codes.Mode.TheVariants.{Pass, Horizontal}
use Rattle.jbig2_mmr.specs.T6Codes.{modes, longer_runs, white_runs, black_runs, vertical_right, vertical_left}
use Rattle.jbig2_mmr.specs.T6.{runs_of, ends_block}
use Rattle.jbig2_inverses.specs.MmrRowWriter.{word_of, same_mode, mode_word, run_word, repeated, run_bits}

-- ---- an end of block begins with eleven zeros
late : (f n len : ℕ) (tail : List ℕ) → 1 ≤ f → 13 ≤ n → (24 ≤ len → n ≤ length tail) → (leb 24 len && eqb (number_after f (take n tail)) 0x001001) ≡ false
late f n len tail some few enough = ⊎_elim
    (λ (short : len < 24). and_left (leb 24 len) (eqb (number_after f (take n tail)) 0x001001) (lt-leb 24 len short))
    (λ (long : 24 ≤ len).
    let size : length (take n tail) ≡ n = length-take-le n tail (enough long) in
    let number = number-front f (take n tail) in
    let power : 2 ^ 13 ≤ 2 ^ n = pow_mono few in
    let big : 1 * 2 ^ length (take n tail) ≤ f * 2 ^ length (take n tail) = mul-le-mul_right (2 ^ length (take n tail)) some in
    let same : 2 ^ length (take n tail) ≡ 2 ^ n = ap (λ (k : ℕ). 2 ^ k) size in
    and_right (leb 24 len) (eqb (number_after f (take n tail)) 0x001001) (ne_eqb (number_after f (take n tail)) 0x001001 (λ e. omega (arith, e, number, power, big, same))))
    (cases_lt len 24)

pub pass-no_end : (tail : List ℕ) → ends_block (mode_word Pass ++ tail) ≡ false
unfolding ends_block word_of modes
pass-no_end tail = late 1 20 (length (0 ∷ 0 ∷ 0 ∷ 1 ∷ tail)) tail (omega arith) (omega arith) (λ h. omega (arith, h))

pub horizontal-no_end : (tail : List ℕ) → ends_block (mode_word Horizontal ++ tail) ≡ false
unfolding ends_block word_of modes
horizontal-no_end tail = late 1 21 (length (0 ∷ 0 ∷ 1 ∷ tail)) tail (omega arith) (omega arith) (λ h. omega (arith, h))

pub right-no_end : (k : ℕ) → k ≤ 3 → (tail : List ℕ) → ends_block (mode_word (vertical_right k) ++ tail) ≡ false
unfolding ends_block word_of modes
right-no_end zero h tail = late 1 23 (length (1 ∷ tail)) tail (omega arith) (omega arith) (λ h. omega (arith, h))
right-no_end (suc zero) h tail = late 3 21 (length (0 ∷ 1 ∷ 1 ∷ tail)) tail (omega arith) (omega arith) (λ h. omega (arith, h))
right-no_end (suc (suc zero)) h tail = late 3 18 (length (0 ∷ 0 ∷ 0 ∷ 0 ∷ 1 ∷ 1 ∷ tail)) tail (omega arith) (omega arith) (λ h. omega (arith, h))
right-no_end (suc (suc (suc zero))) h tail = late 3 17 (length (0 ∷ 0 ∷ 0 ∷ 0 ∷ 0 ∷ 1 ∷ 1 ∷ tail)) tail (omega arith) (omega arith) (λ h. omega (arith, h))
right-no_end (suc (suc (suc (suc k)))) h tail = absurd (omega (arith, h))

pub left-no_end : (k : ℕ) → 1 ≤ k → k ≤ 3 → (tail : List ℕ) → ends_block (mode_word (vertical_left k) ++ tail) ≡ false
unfolding ends_block word_of modes
left-no_end zero l h tail = absurd (omega (arith, l))
left-no_end (suc zero) l h tail = late 2 21 (length (0 ∷ 1 ∷ 0 ∷ tail)) tail (omega arith) (omega arith) (λ h. omega (arith, h))
left-no_end (suc (suc zero)) l h tail = late 2 18 (length (0 ∷ 0 ∷ 0 ∷ 0 ∷ 1 ∷ 0 ∷ tail)) tail (omega arith) (omega arith) (λ h. omega (arith, h))
left-no_end (suc (suc (suc zero))) l h tail = late 2 17 (length (0 ∷ 0 ∷ 0 ∷ 0 ∷ 0 ∷ 1 ∷ 0 ∷ tail)) tail (omega arith) (omega arith) (λ h. omega (arith, h))
left-no_end (suc (suc (suc (suc k)))) l h tail = absurd (omega (arith, h))

-- ---- all words are of bits
abbrev pub are_bits : List ℕ → Bool
are_bits word = list_all (λ b. ltb b 2) word

pub are-bits : (word : List ℕ) → are_bits word ≡ true → AreBits word
unfolding AreBits
are-bits [] h = tt
are-bits (b ∷ word) h = let parts = and_parts (ltb b 2) (are_bits word) h in (ltb-true b 2 parts.0, are-bits word parts.1)

word-bits : {A : Type 0} (is : A → Bool) (codes : List (A × List ℕ)) → list_all (λ e. are_bits e.1) codes ≡ true → AreBits (word_of is codes)
unfolding word_of AreBits
word-bits is [] h = tt
word-bits is ((value, word) ∷ codes) h =
    let parts = and_parts (are_bits word) (list_all (λ e. are_bits e.1) codes) h in
    cond_both (is value) word (word_of is codes) AreBits (λ e. are-bits word parts.0) (λ e. word-bits is codes parts.1)

all-modes : list_all (λ (e : Mode × List ℕ). are_bits e.1) modes ≡ true
unfolding modes
all-modes = refl

all-runs : (black : Bool) → list_all (λ (e : ℕ × List ℕ). are_bits e.1) (runs_of black) ≡ true
unfolding white_runs black_runs longer_runs
all-runs true = refl
all-runs false = refl

pub mode-bits : (mode : Mode) → AreBits (mode_word mode)
mode-bits mode = word-bits (λ other. same_mode mode other) modes all-modes

run-word-bits : (black : Bool) (n : ℕ) → AreBits (run_word black n)
run-word-bits black n = word-bits (λ other. eqb other n) (runs_of black) (all-runs black)

pub bits-both : (xs ys : List ℕ) → AreBits xs → AreBits ys → AreBits (xs ++ ys)
unfolding AreBits
bits-both [] ys a b = b
bits-both (x ∷ xs) ys a b = (a.0, bits-both xs ys a.1 b)

repeated-bits : (n : ℕ) (word : List ℕ) → AreBits word → AreBits (repeated n word)
unfolding AreBits
repeated-bits zero word h = tt
repeated-bits (suc n) word h = bits-both word (repeated n word) h (repeated-bits n word h)

no-bits : AreBits []
unfolding AreBits
no-bits = tt

pub run-bits : (black : Bool) (n : ℕ) → AreBits (run_bits black n)
unfolding run_bits
run-bits black n =
    let m = n % 2560 in
    let front = repeated (n / 2560) (run_word black 2560) in
    let middle = cond (ltb m 64) [] (run_word black (m / 64 * 64)) in
    let last = run_word black (m % 64) in
    bits-both (front ++ middle) last
    (bits-both front middle (repeated-bits (n / 2560) (run_word black 2560) (run-word-bits black 2560))
    (cond_both (ltb m 64) [] (run_word black (m / 64 * 64)) AreBits (λ e. no-bits) (λ e. run-word-bits black (m / 64 * 64))))
    (run-word-bits black (m % 64))
