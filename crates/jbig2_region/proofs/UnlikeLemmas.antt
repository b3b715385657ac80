-- Pixels that are unlike a colour, as bits of a number.
use Rattle.std.proofs.Common.{◌≡◌, ℕ, suc, ◌+◌, ◌-◌, ◌*◌, ◌/◌, ◌%◌, ◌^◌, ◌<◌, ◌≤◌, Bool, true, false, not, cond, eqb, ap, subst, sym, refl, ◌∙◌, ⊎_elim, arith}
use Rattle.std.proofs.Math.Nat.{pow-le-pow_right}
use Rattle.std.proofs.lemmas.Nat.{pow_pos, leading_top, or_lt, le_or_l, le_or_r, and_le_l, and_le_r, mod_below}
use Rattle.std.proofs.lemmas.Bool.{cases_lt, ltb_from_iff, lt-ltb, ltb-true, eq-eqb, eqb-true, ne_eqb, cond-false, and_parts, and_from, both_ways}
use Rattle.std.specs.Int.Bits.{xor_add_and, xor_self}
use Rattle.std.specs.Int.RustNames.{bit_or, bit_xor}
use Rattle.std.specs.Prelude.{nat_lt, ◌&&◌}
use Rattle.jbig2_base.specs.Bits.{bit}
use Rattle.jbig2_base.proofs.BitLemmas.{bit-above, bit-ones, bit-xor, bit-zero, bit-shr, bit-shl_high, shr-lt}
use Rattle.jbig2_base.proofs.ColourLemmas.{bit-top}
use Rattle.jbig2_region.specs.inner.Neighbours.{is_field, stretch_stays}
use Rattle.jbig2_region.specs.declared.template.neighbours.Stretch.{Stretch}
use Rattle.jbig2_region.proofs.UniformLemmas.{field-gives, field-all}

-- ---- numbers without high bits
small-from : (n k w : ℕ) → n < 2 ^ w → ((i : ℕ) → k ≤ i → i < w → bit n i ≡ false) → n < 2 ^ k
small-from n k w small none =
    ⊎_elim (λ (less : n < 2 ^ k). less)
    (λ (more : 2 ^ k ≤ n).
    let some : 0 < n = omega (arith, pow_pos k) in
    let top = leading_top w n some small in
    let j : ℕ = top.0 in
    let low : 2 ^ j ≤ n = top.2 in
    let high : n < 2 ^ suc j = top.3 in
    ⊎_elim
    (λ (below : j < k). absurd (let wide : 2 ^ suc j ≤ 2 ^ k = pow-le-pow_right (omega arith) (omega arith) in omega arith))
    (λ (above : k ≤ j). absurd (both_ways (bit n j) (none j above (omega (arith, top.1))) (bit-top n j low high)))
    (cases_lt j k))
    (cases_lt n (2 ^ k))

-- ---- a word turned where the colour is black
xor-same : (a b : Bool) → a ≡ b → cond a (not b) b ≡ false
xor-same true true e = refl
xor-same false false e = refl
xor-same true false e = e
xor-same false true e = sym e

xor-gives : (a b : Bool) → cond a (not b) b ≡ false → a ≡ b
xor-gives true true e = refl
xor-gives false false e = refl
xor-gives true false e = e
xor-gives false true e = sym e

colour-bit : (c : Bool) (i : ℕ) → i < 64 → bit (cond c (2 ^ 64 - 1) 0) i ≡ c
colour-bit true i inside = bit-ones 64 i inside
colour-bit false i inside = bit-zero i

unlike-bit : (word i : ℕ) (c : Bool) → i < 64 → bit (bit_xor word (cond c (2 ^ 64 - 1) 0)) i ≡ cond (bit word i) (not c) c
unlike-bit word i c inside = bit-xor word (cond c (2 ^ 64 - 1) 0) i ∙ ap (λ (t : Bool). cond (bit word i) (not t) t) (colour-bit c i inside)

-- a field of a colour, by a number whose highest bits are the field turned, and which has none between them and bit k
unlike-field : (word unlike shift n from k : ℕ) (c : Bool) → unlike < 2 ^ (from + n) → k ≤ from → ((i : ℕ) → k ≤ i → i < from → bit unlike i ≡ false) → ((i : ℕ) → i < n → bit unlike (from + i) ≡ cond (bit word (shift + i)) (not c) c) → is_field word shift n c ≡ nat_lt unlike (2 ^ k)
unlike-field word unlike shift n from k c small below none each =
    ltb_from_iff (
      (λ (is : is_field word shift n c ≡ true).
          small-from unlike k (from + n) small (λ i above inside.
          ⊎_elim (λ (low : i < from). none i above low)
          (λ (high : from ≤ i).
          let at : from + (i - from) ≡ i = omega arith in
          ap (λ (p : ℕ). bit unlike p) (sym at) ∙ each (i - from) (omega arith) ∙ xor-same (bit word (shift + (i - from))) c (field-gives word shift n (i - from) c is (omega arith)))
          (cases_lt i from))),
      (λ (less : unlike < 2 ^ k).
          field-all word shift n c (λ i inside. xor-gives (bit word (shift + i)) c (sym (each i inside) ∙ bit-above unlike k (from + i) less (omega arith)))),
    )

-- ---- the parts of a context
pub stretch-unlike : (s : Stretch) (m : ℕ) (c : Bool) (word : ℕ) → s.reach ≤ 3 → s.count ≤ 7 → (s.count ≡ 0 → ⊥) → m ≤ 32 → stretch_stays s m c word ≡ nat_lt (bit_xor word (cond c (2 ^ 64 - 1) 0) * 2 ^ (9 + s.reach - s.count) % 2 ^ 64 / 2 ^ (8 - s.count)) (2 ^ (56 - m))
stretch-unlike s m c word near few some within =
    let unlike : ℕ = bit_xor word (cond c (2 ^ 64 - 1) 0) in
    let moved : ℕ = unlike * 2 ^ (9 + s.reach - s.count) % 2 ^ 64 in
    let lower : 64 - (56 + s.count) ≡ 8 - s.count = omega arith in
    let width : 56 + s.count ≡ 56 - m + (s.count + m) = omega arith in
    let small : moved / 2 ^ (8 - s.count) < 2 ^ (56 + s.count) =
    subst (λ (k : ℕ). moved / 2 ^ k < 2 ^ (56 + s.count)) lower (shr-lt moved (56 + s.count) (omega arith) (mod_below (unlike * 2 ^ (9 + s.reach - s.count)) (2 ^ 64) (pow_pos 64))) in
    cond-false (eqb s.count 0) true (is_field word (55 - m - s.reach) (s.count + m) c) (ne_eqb s.count 0 some)
    ∙ unlike-field word (moved / 2 ^ (8 - s.count)) (55 - m - s.reach) (s.count + m) (56 - m) (56 - m) c
    (subst (λ (k : ℕ). moved / 2 ^ (8 - s.count) < 2 ^ k) width small) (omega arith) (λ i above inside. absurd (omega arith))
    (λ i inside.
    let place : 8 - s.count + (56 - m + i) - (9 + s.reach - s.count) ≡ 55 - m - s.reach + i = omega arith in
    bit-shr moved (8 - s.count) (56 - m + i)
    ∙ bit-shl_high unlike (9 + s.reach - s.count) 64 (8 - s.count + (56 - m + i)) (omega arith) (omega arith)
    ∙ ap (λ (k : ℕ). bit unlike k) place
    ∙ unlike-bit word (55 - m - s.reach + i) c (omega arith))

-- ---- both stretches in one number
pub both-unlike : (one two : Bool) (k m n : ℕ) → one ≡ nat_lt m (2 ^ k) → two ≡ nat_lt n (2 ^ k) → (one && two) ≡ nat_lt (bit_or m n) (2 ^ k)
both-unlike one two k m n first second =
    ltb_from_iff (
      (λ (both : (one && two) ≡ true).
          let parts = and_parts one two both in
          or_lt k m n (ltb-true _ _ (sym first ∙ parts.0)) (ltb-true _ _ (sym second ∙ parts.1))),
      (λ (less : bit_or m n < 2 ^ k).
          and_from one two (first ∙ lt-ltb m _ (omega (arith, less, le_or_l m n))) (second ∙ lt-ltb n _ (omega (arith, less, le_or_r m n)))),
    )

-- ---- the pixels at the left
same-if : (a b : Bool) → (a ≡ true → b ≡ true) → (b ≡ true → a ≡ true) → a ≡ b
same-if true b gives is = sym (gives refl)
same-if false true gives is = is refl
same-if false false gives is = refl

-- a number is turned into 0 by itself alone
turned-none : (seen all : ℕ) → eqb seen all ≡ eqb (bit_xor seen all) 0
turned-none seen all =
    let sum = xor_add_and seen all in
    same-if (eqb seen all) (eqb (bit_xor seen all) 0)
    (λ (same : eqb seen all ≡ true). eq-eqb _ _ (ap (λ (n : ℕ). bit_xor n all) (eqb-true _ _ same) ∙ xor_self all))
    (λ (none : eqb (bit_xor seen all) 0 ≡ true).
    let no : bit_xor seen all ≡ 0 = eqb-true _ _ none in
    eq-eqb _ _ (omega (arith, no, sum, and_le_l seen all, and_le_r seen all)))

pub left-unlike : (left count : ℕ) (c : Bool) (all : ℕ) → count ≤ 4 → all ≡ cond c (2 ^ count - 1) 0 → is_field left 0 count c ≡ eqb (bit_xor (left % (1 * 2 ^ count % 4294967296)) all) 0
left-unlike left count c all few is =
    let small : 2 ^ count ≤ 2 ^ 4 = pow-le-pow_right (omega arith) few in
    let whole : left / 2 ^ 0 ≡ left = omega arith in
    let width : 2 ^ count ≡ 1 * 2 ^ count % 4294967296 = omega (arith, small) in
    let same : left / 2 ^ 0 % 2 ^ count ≡ left % (1 * 2 ^ count % 4294967296) = ap (λ (n : ℕ). n % 2 ^ count) whole ∙ ap (λ (n : ℕ). left % n) width in
    ap (λ (n : ℕ). eqb n (cond c (2 ^ count - 1) 0)) same ∙ ap (λ (n : ℕ). eqb (left % (1 * 2 ^ count % 4294967296)) n) (sym is) ∙ turned-none (left % (1 * 2 ^ count % 4294967296)) all

-- ---- what the next byte sees
pub near-unlike : (s : Stretch) (c : Bool) (word all : ℕ) → s.count ≤ 7 → (s.count ≡ 0 → ⊥) → all ≡ cond c (2 ^ (s.count + 8) - 1) 0 → stretch_stays s 8 c word ≡ eqb (bit_xor (word / 2 ^ (47 - s.reach) % (1 * 2 ^ (s.count + 8) % 2 ^ 64)) all) 0
near-unlike s c word all few some is =
    let within : s.count + 8 ≤ 15 = omega (arith, few) in
    let small : 2 ^ (s.count + 8) ≤ 2 ^ 15 = pow-le-pow_right (omega arith) within in
    let width : 2 ^ (s.count + 8) ≡ 1 * 2 ^ (s.count + 8) % 2 ^ 64 = omega (arith, small) in
    let field : ℕ = word / 2 ^ (47 - s.reach) in
    cond-false (eqb s.count 0) true (is_field word (55 - 8 - s.reach) (s.count + 8) c) (ne_eqb s.count 0 some)
    ∙ ap (λ (n : ℕ). eqb (field % n) (cond c (2 ^ (s.count + 8) - 1) 0)) width
    ∙ ap (λ (n : ℕ). eqb (field % (1 * 2 ^ (s.count + 8) % 2 ^ 64)) n) (sym is)
    ∙ turned-none (field % (1 * 2 ^ (s.count + 8) % 2 ^ 64)) all

-- both stretches and the pixels at the left, in one number
pub parts-unlike : (left above top : Bool) (l a t : ℕ) → left ≡ eqb l 0 → above ≡ eqb a 0 → top ≡ eqb t 0 → (left && (above && top)) ≡ eqb (bit_or (bit_or a t) l) 0
parts-unlike left above top l a t beside one two =
    same-if (left && (above && top)) (eqb (bit_or (bit_or a t) l) 0)
    (λ (all : (left && (above && top)) ≡ true).
    let parts = and_parts left (above && top) all in
    let stretches = and_parts above top parts.1 in
    let no_left : l ≡ 0 = eqb-true _ _ (sym beside ∙ parts.0) in
    let no_above : a ≡ 0 = eqb-true _ _ (sym one ∙ stretches.0) in
    let no_top : t ≡ 0 = eqb-true _ _ (sym two ∙ stretches.1) in
    rw (no_left, no_above, no_top) refl)
    (λ (none : eqb (bit_or (bit_or a t) l) 0 ≡ true).
    let no : bit_or (bit_or a t) l ≡ 0 = eqb-true _ _ none in
    let high = le_or_l (bit_or a t) l in
    and_from left (above && top) (beside ∙ eq-eqb l 0 (omega (arith, no, le_or_r (bit_or a t) l)))
    (and_from above top (one ∙ eq-eqb a 0 (omega (arith, no, high, le_or_l a t))) (two ∙ eq-eqb t 0 (omega (arith, no, high, le_or_r a t)))))
