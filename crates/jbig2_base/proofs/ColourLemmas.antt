-- Words of one colour, and the first bit of a colour in a word.
use Rattle.std.proofs.Common.{◌≡◌, ℕ, suc, ◌+◌, ◌-◌, ◌*◌, ◌/◌, ◌%◌, ◌^◌, ◌<◌, ◌≤◌, Bool, true, false, not, cond, eqb, ap, subst, sym, refl, ◌∙◌, ⊎_elim, arith}
use Rattle.std.proofs.Math.Nat.{pow-le-pow_right, pow-suc, div-eq_of_lt-le}
use Rattle.std.proofs.lemmas.Nat.{pow_pos, leading_top, xor_lt}
use Rattle.std.proofs.lemmas.Nat.Bits.{ones_shr}
use Rattle.std.proofs.lemmas.Bool.{cases_eq, cases_lt}
use Rattle.std.specs.Int.Count.{count_leading_zeros, leading_of_zero}
use Rattle.std.specs.Int.RustNames.{bit_xor}
use Rattle.jbig2_base.specs.Colour.{IsFirst}
use Rattle.jbig2_base.specs.Bits.{bit}
use Rattle.jbig2_base.proofs.BitLemmas.{bit-above, bit-ones, bit-xor, bit-zero}

-- `MAX >> (64 - count)`
pub ones_of : (count : ℕ) → count ≤ 64 → (2 ^ 64 - 1) / 2 ^ (64 - count) ≡ 2 ^ count - 1
ones_of count few =
    let width : 64 - (64 - count) ≡ count = omega arith in
    ones_shr 64 (64 - count) (omega arith) ∙ ap (λ (n : ℕ). 2 ^ n - 1) width

pub ones-bit : (count k : ℕ) → count ≤ 64 → k < count → bit ((2 ^ 64 - 1) / 2 ^ (64 - count)) k ≡ true
ones-bit count k few inside = ap (λ (n : ℕ). bit n k) (ones_of count few) ∙ bit-ones count k inside

pub ones-lt : (count : ℕ) → count ≤ 64 → (2 ^ 64 - 1) / 2 ^ (64 - count) < 2 ^ count
ones-lt count few = let some = pow_pos count in omega (arith, ones_of count few, some)

-- the leading zeros of a number of `count` bits, in 64 bits
pub record IsLeading (n count lead : ℕ) : Type 0 where
  pub enough : 64 - count ≤ lead
  pub most : lead ≤ 64
  pub before : (k : ℕ) → k < lead - (64 - count) → bit n (count - 1 - k) ≡ false
  pub found : lead - (64 - count) < count → bit n (count - 1 - (lead - (64 - count))) ≡ true

pub bit-top : (n j : ℕ) → 2 ^ j ≤ n → n < 2 ^ suc j → bit n j ≡ true
unfolding bit
bit-top n j low high =
    let twice : 2 ^ suc j ≡ 2 * 2 ^ j = pow-suc 2 j ∙ omega arith in
    let one : n / 2 ^ j ≡ 1 = div-eq_of_lt-le (2 ^ j) (omega arith) (omega (arith, twice)) in
    ap (λ (q : ℕ). eqb (q % 2) 1) one

pub leading-is : (n count : ℕ) → count ≤ 64 → n < 2 ^ count → IsLeading n count (count_leading_zeros 64 n)
leading-is n count few small =
    ⊎_elim
    (λ (none : n ≡ 0).
    let all : count_leading_zeros 64 n ≡ 64 = ap (λ (m : ℕ). count_leading_zeros 64 m) none ∙ leading_of_zero 64 in
    record {
      enough = omega (arith, all);
      most = omega (arith, all);
      before = λ k h. ap (λ (m : ℕ). bit m (count - 1 - k)) none ∙ bit-zero (count - 1 - k);
      found = λ h. absurd (omega (arith, all));
    })
    (λ (some : n ≡ 0 → ⊥).
    let within : n < 2 ^ 64 = let wide : 2 ^ count ≤ 2 ^ 64 = pow-le-pow_right (omega arith) few in omega arith in
    let top = leading_top 64 n (omega arith) within in
    let j : ℕ = top.0 in
    let e : count_leading_zeros 64 n + suc j ≡ 64 = top.1 in
    let low : 2 ^ j ≤ n = top.2 in
    let high : n < 2 ^ suc j = top.3 in
    let below : j < count =
    ⊎_elim (λ (h : j < count). h) (λ (h : count ≤ j). absurd (let wide : 2 ^ count ≤ 2 ^ j = pow-le-pow_right (omega arith) h in omega arith)) (cases_lt j count) in
    let at : count - 1 - (count_leading_zeros 64 n - (64 - count)) ≡ j = omega arith in
    record {
      enough = omega arith;
      most = omega arith;
      before = λ k h. bit-above n (suc j) (count - 1 - k) high (omega arith);
      found = λ h. ap (λ (i : ℕ). bit n i) at ∙ bit-top n j low high;
    })
    (cases_eq n 0)

-- the bits of the other colour, turned
pub turned-bit : (n count k : ℕ) → count ≤ 64 → k < count → bit (bit_xor n ((2 ^ 64 - 1) / 2 ^ (64 - count))) k ≡ not (bit n k)
turned-bit n count k few inside =
    bit-xor n ((2 ^ 64 - 1) / 2 ^ (64 - count)) k ∙ ap (λ (t : Bool). cond (bit n k) (not t) t) (ones-bit count k few inside) ∙ same_not (bit n k)
  where
    same_not : (b : Bool) → cond b (not true) true ≡ not b
    same_not true = refl
    same_not false = refl

pub turned-lt : (n count : ℕ) → count ≤ 64 → n < 2 ^ count → bit_xor n ((2 ^ 64 - 1) / 2 ^ (64 - count)) < 2 ^ count
turned-lt n count few small = xor_lt count n ((2 ^ 64 - 1) / 2 ^ (64 - count)) small (ones-lt count few)

pub not-is : (b c : Bool) → not b ≡ c → b ≡ not c
not-is true c e = ap (λ (t : Bool). not t) e
not-is false c e = ap (λ (t : Bool). not t) e

-- ---- the leading bits of the other colour
pub record IsWanted (pixels count wanted : ℕ) (black : Bool) : Type 0 where
  pub small : wanted < 2 ^ count
  pub one : (k : ℕ) → k < count → bit wanted k ≡ true → bit pixels k ≡ black
  pub other : (k : ℕ) → k < count → bit wanted k ≡ false → bit pixels k ≡ not black

pub wanted-black : (pixels count wanted : ℕ) (black : Bool) → pixels < 2 ^ count → black ≡ true → wanted ≡ pixels → IsWanted pixels count wanted black
wanted-black pixels count wanted black small colour e = record {
  small = subst (λ (v : ℕ). v < 2 ^ count) (sym e) small;
  one = λ k inside h. ap (λ (v : ℕ). bit v k) (sym e) ∙ h ∙ sym colour;
  other = λ k inside h. ap (λ (v : ℕ). bit v k) (sym e) ∙ h ∙ ap (λ (t : Bool). not t) (sym colour);
}

pub wanted-white : (pixels count wanted : ℕ) (black : Bool) → count ≤ 64 → pixels < 2 ^ count → black ≡ false → wanted ≡ bit_xor pixels ((2 ^ 64 - 1) / 2 ^ (64 - count)) → IsWanted pixels count wanted black
wanted-white pixels count wanted black few small colour e = record {
  small = subst (λ (v : ℕ). v < 2 ^ count) (sym e) (turned-lt pixels count few small);
  one = λ k inside h. not-is (bit pixels k) true (sym (turned-bit pixels count k few inside) ∙ ap (λ (v : ℕ). bit v k) (sym e) ∙ h) ∙ sym colour;
  other = λ k inside h. not-is (bit pixels k) false (sym (turned-bit pixels count k few inside) ∙ ap (λ (v : ℕ). bit v k) (sym e) ∙ h) ∙ ap (λ (t : Bool). not t) (sym colour);
}

pub leading-before : (pixels count wanted : ℕ) (black : Bool) → 1 ≤ count → count ≤ 64 → IsWanted pixels count wanted black → (k : ℕ) → k < count_leading_zeros 64 wanted - (64 - count) → bit pixels (count - 1 - k) ≡ not black
leading-before pixels count wanted black some few is k before = is.other (count - 1 - k) (omega arith) ((leading-is wanted count few is.small).before k before)

pub leading-found : (pixels count wanted : ℕ) (black : Bool) → 1 ≤ count → count ≤ 64 → IsWanted pixels count wanted black → count_leading_zeros 64 wanted - (64 - count) < count → bit pixels (count - 1 - (count_leading_zeros 64 wanted - (64 - count))) ≡ black
leading-found pixels count wanted black some few is inside = is.one (count - 1 - (count_leading_zeros 64 wanted - (64 - count))) (omega arith) ((leading-is wanted count few is.small).found inside)

-- ---- a search by words
pub search-before : (row : ℕ → Bool) (pixels count others from x : ℕ) (black : Bool) → ((k : ℕ) → k < count → bit pixels (count - 1 - k) ≡ row (x + k)) → others ≤ count → ((k : ℕ) → k < others → bit pixels (count - 1 - k) ≡ not black) → ((i : ℕ) → from ≤ i → i < x → row i ≡ not black) → (i : ℕ) → from ≤ i → i < x + others → row i ≡ not black
search-before row pixels count others from x black read within before so_far i after inside =
    ⊎_elim (λ (old : i < x). so_far i after old)
    (λ (fresh : x ≤ i).
    let at : x + (i - x) ≡ i = omega arith in
    ap row (sym at) ∙ sym (read (i - x) (omega arith)) ∙ before (i - x) (omega arith))
    (cases_lt i x)

pub search-found : (row : ℕ → Bool) (pixels count others from to x : ℕ) (black : Bool) → from ≤ x → x + count ≤ to → ((k : ℕ) → k < count → bit pixels (count - 1 - k) ≡ row (x + k)) → others < count → ((k : ℕ) → k < others → bit pixels (count - 1 - k) ≡ not black) → bit pixels (count - 1 - others) ≡ black → ((i : ℕ) → from ≤ i → i < x → row i ≡ not black) → IsFirst row black from to (x + others)
search-found row pixels count others from to x black opening inside read within before found so_far = record {
  after = omega arith;
  within = omega arith;
  before = search-before row pixels count others from x black read (omega arith) before so_far;
  found = λ h. sym (read others within) ∙ found;
}
