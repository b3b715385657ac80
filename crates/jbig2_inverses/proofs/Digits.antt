-- Numbers written in binary are read back.
use Rattle.std.proofs.Common.{◌≡◌, ℕ, zero, suc, ◌+◌, ◌*◌, ◌/◌, ◌%◌, ◌^◌, ◌<◌, ◌≤◌, ltb, List, ◌++◌, length, take, Some, None, refl, sym, ◌∙◌, ap, arith, pow-suc, mod-eq_of_lt, length-append, le-ltb}
use Rattle.std.proofs.lemmas.Nat.{mod-pow-add, shr-shr, shr_below}
use Rattle.std.proofs.lemmas.Bool.{cond-false}
use Rattle.jbig2_base.specs.Bits.{number_after, bits_next}
use Rattle.jbig2_inverses.specs.Digits.{digits}

pub length-digits : (k n : ℕ) → length (digits k n) ≡ k
unfolding digits
length-digits zero n = refl
length-digits (suc k) n = ap suc (length-digits k n)

-- the first digit, and the number that the others make
pub top-digit : (k n : ℕ) → n / 2 ^ k % 2 * 2 ^ k + n % 2 ^ k ≡ n % 2 ^ suc k
top-digit k n =
    let e : suc k ≡ 1 + k = omega arith in
    let one : 2 ^ 1 ≡ 2 = omega arith in
    sym (ap (λ (i : ℕ). n % 2 ^ i) e ∙ mod-pow-add n 1 k ∙ ap (λ (i : ℕ). n / 2 ^ k % i * 2 ^ k + n % 2 ^ k) one)

join : (f b p r w t : ℕ) → t ≡ 2 * p → b * p + r ≡ w → (2 * f + b) * p + r ≡ f * t + w
join f b p r w t twice e = rw twice (omega arith)

-- the first k of k + j digits make n / 2^j
pub number-digits : (k m j f n : ℕ) (rest : List ℕ) → m ≡ k + j → number_after f (take k (digits m n ++ rest)) ≡ f * 2 ^ k + n / 2 ^ j % 2 ^ k
unfolding digits
number-digits zero m j f n rest h =
    let one : 2 ^ 0 ≡ 1 = omega arith in
    let none : n / 2 ^ j % 1 ≡ 0 = omega arith in
    rw one (omega arith)
number-digits (suc k) zero j f n rest h = absurd (omega (arith, h))
number-digits (suc k) (suc m) j f n rest h =
    let p = 2 ^ k in
    let q = n / 2 ^ j in
    let below : m ≡ j + k = omega (arith, h) in
    let same : n / 2 ^ m % 2 ≡ q / p % 2 = ap (λ (i : ℕ). n / 2 ^ i % 2) below ∙ ap (λ (x : ℕ). x % 2) (sym (shr-shr n j k)) in
    let twice : 2 ^ suc k ≡ 2 * p = rw pow-suc (omega arith) in
    number-digits k m j (2 * f + n / 2 ^ m % 2) n rest (omega (arith, h))
    ∙ ap (λ (b : ℕ). (2 * f + b) * p + q % p) same
    ∙ join f (q / p % 2) p (q % p) (q % 2 ^ suc k) (2 ^ suc k) twice (top-digit k q)

pub front-digits : (k m j n : ℕ) (rest : List ℕ) → m ≡ k + j → n < 2 ^ m → number_after 0 (take k (digits m n ++ rest)) ≡ n / 2 ^ j
front-digits k m j n rest h small =
    let below : n < 2 ^ (k + j) = rw h at small in
    let fits : n / 2 ^ j < 2 ^ k = shr_below n k j below in
    let same : n / 2 ^ j % 2 ^ k ≡ n / 2 ^ j = mod-eq_of_lt fits in
    number-digits k m j 0 n rest h ∙ (let e : 0 * 2 ^ k + n / 2 ^ j % 2 ^ k ≡ n / 2 ^ j % 2 ^ k = omega arith in e) ∙ same

pub whole-digits : (k n : ℕ) (rest : List ℕ) → n < 2 ^ k → number_after 0 (take k (digits k n ++ rest)) ≡ n
whole-digits k n rest small =
    let one : 2 ^ 0 ≡ 1 = omega arith in
    front-digits k k 0 n rest (omega arith) small ∙ ap (λ (p : ℕ). n / p) one ∙ (let e : n / 1 ≡ n = omega arith in e)

pub next-digits : (k n : ℕ) (rest : List ℕ) → n < 2 ^ k → bits_next k (digits k n ++ rest) ≡ Some n
next-digits k n rest small =
    let bits = digits k n ++ rest in
    let enough : k ≤ length bits = omega (arith, length-append (digits k n) rest, length-digits k n) in
    cond-false (ltb (length bits) k) None (Some (number_after 0 (take k bits))) (le-ltb (length bits) k enough)
    ∙ ap (λ (x : ℕ). Some x) (whole-digits k n rest small)
