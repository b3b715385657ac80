-- Contexts as numbers: their parts, and those that are all of one colour.
use Rattle.std.proofs.Common.{pow-suc, subst, pos, ℤ, ◌+ℤ◌, ◌-ℤ◌, ◌≡◌, ℕ, zero, suc, ◌+◌, ◌*◌, ◌/◌, ◌%◌, ◌^◌, ◌<◌, ◌≤◌, Bool, List, [], ◌∷◌, ◌++◌, length, map, add-one, refl, sym, ap, ◌∙◌, arith}
use Rattle.std.proofs.lemmas.Int.{ints}
use Rattle.std.proofs.lemmas.List.{length-map, map-append}
use Rattle.std.proofs.lemmas.Nat.{mod-pow-add, shr-shr, mul-add-lt, pow-add}
use Rattle.std.proofs.Math.Nat.{pow-le-pow_right}
use Rattle.jbig2_base.specs.Grid.{Grid, pixel}
use Rattle.jbig2_base.specs.Bits.{bit, bit_number, number_of}
use Rattle.jbig2_base.proofs.BitLemmas.{bit_number-bit}
use Rattle.jbig2_region.specs.Generic.{context_at}
use Rattle.jbig2_region.specs.inner.Neighbours.{side_by_side}
use Rattle.jbig2_region.proofs.ContextLemmas.{context-lt}
use Rattle.jbig2_region.specs.declared.template.AdaptiveTemplatePixel.{AdaptiveTemplatePixel}

-- ---- a number of bits by its parts
pub number_of-append : (xs ys : List Bool) → number_of (xs ++ ys) ≡ number_of xs + number_of ys * 2 ^ length xs
number_of-append [] ys = omega arith
number_of-append (x ∷ xs) ys = rw (number_of-append xs ys, pow-suc) (omega arith)

pub context-append : (ps qs : List AdaptiveTemplatePixel) (g : Grid) (x y : ℕ) → context_at (ps ++ qs) g x y ≡ context_at ps g x y + context_at qs g x y * 2 ^ length ps
unfolding context_at
context-append ps qs g x y =
    let f : AdaptiveTemplatePixel → Bool = λ p. pixel g (pos x +ℤ p.x) (pos y +ℤ p.y) in
    ap number_of (map-append f ps qs) ∙ number_of-append (map f ps) (map f qs) ∙ ap (λ (n : ℕ). number_of (map f ps) + number_of (map f qs) * 2 ^ n) (length-map ps f)

-- the lowest bit of a field, and the others
field-suc : (n s m : ℕ) → n / 2 ^ s % 2 ^ suc m ≡ bit_number (bit n s) + 2 * (n / 2 ^ (s + 1) % 2 ^ m)
field-suc n s m =
    let split = mod-pow-add (n / 2 ^ s) m 1 in
    let place : n / 2 ^ s / 2 ^ 1 ≡ n / 2 ^ (s + 1) = shr-shr n s 1 in
    rw (bit_number-bit n s) (rw (sym (add-one m)) (split ∙ rw place (omega arith)))

-- a field of a number whose bits are pixels side by side
pub side-context : (g : Grid) (x y rows count n s : ℕ) (dx : ℤ) → ((i : ℕ) → i < count → bit n (s + i) ≡ pixel g (pos x +ℤ (dx -ℤ pos i)) (pos y +ℤ (pos 0 -ℤ pos rows))) → n / 2 ^ s % 2 ^ count ≡ context_at (side_by_side dx rows count) g x y
unfolding context_at
side-context g x y rows zero n s dx each = omega arith
side-context g x y rows (suc count) n s dx each =
    let first : bit n s ≡ pixel g (pos x +ℤ dx) (pos y +ℤ (pos 0 -ℤ pos rows)) = subst (λ (z : ℤ). bit n s ≡ pixel g (pos x +ℤ z) (pos y +ℤ (pos 0 -ℤ pos rows))) (same0 dx) (subst (λ (k : ℕ). bit n k ≡ pixel g (pos x +ℤ (dx -ℤ pos 0)) (pos y +ℤ (pos 0 -ℤ pos rows))) (plus0 s) (each 0 (omega arith))) in
    let others = side-context g x y rows count n (s + 1) (dx -ℤ pos 1) (λ i inside.
    subst (λ (z : ℤ). bit n (s + 1 + i) ≡ pixel g (pos x +ℤ z) (pos y +ℤ (pos 0 -ℤ pos rows))) (shift dx i)
    (subst (λ (k : ℕ). bit n k ≡ pixel g (pos x +ℤ (dx -ℤ pos (i + 1))) (pos y +ℤ (pos 0 -ℤ pos rows))) (plus s i) (each (i + 1) (omega arith)))) in
    field-suc n s count ∙ rw (first, others) refl
  where
    same0 : (z : ℤ) → z -ℤ pos 0 ≡ z
    same0 z = omega (arith, ints)

    plus0 : (s : ℕ) → s + 0 ≡ s
    plus0 s = omega arith

    plus : (s i : ℕ) → s + (i + 1) ≡ s + 1 + i
    plus s i = omega arith

    shift : (z : ℤ) (i : ℕ) → z -ℤ pos (i + 1) ≡ (z -ℤ pos 1) -ℤ pos i
    shift z i = omega (arith, ints)

pub length-side : (dx : ℤ) (rows count : ℕ) → length (side_by_side dx rows count) ≡ count
length-side dx rows zero = refl
length-side dx rows (suc count) = ap suc (length-side (dx -ℤ pos 1) rows count)

-- ---- bounds
pub pow-few : (count : ℕ) → count ≤ 16 → 1 * 2 ^ count % 2 ^ 32 ≡ 2 ^ count
pow-few count few =
    let small : 2 ^ count ≤ 2 ^ 16 = pow-le-pow_right (omega arith) few in
    omega arith

pub joined-lt : (low high count m : ℕ) → low < 2 ^ count → high < 2 ^ m → count ≤ 16 → low + high * (1 * 2 ^ count % 2 ^ 32) < 2 ^ (m + count)
joined-lt low high count m below above few =
    let all : high * 2 ^ count + low < 2 ^ count * 2 ^ m = mul-add-lt high (2 ^ count) low (2 ^ m) above below in
    let sum : 2 ^ (m + count) ≡ 2 ^ m * 2 ^ count = pow-add 2 m count in
    rw (pow-few count few) (omega arith)

-- a number of few bits is one of sixteen
pub lt-few : (n few : ℕ) → n < 2 ^ few → few ≤ 16 → n < 2 ^ 16
lt-few n few less within =
    let small : 2 ^ few ≤ 2 ^ 16 = pow-le-pow_right (omega arith) within in
    omega arith

pub lt-sum : (n a b : ℕ) → n < 2 ^ a → a ≡ b → n < 2 ^ b
lt-sum n a b less same = rw (sym same) less

-- the context of a part of this many pixels
pub context-lt_few : (pixels : List AdaptiveTemplatePixel) (g : Grid) (x y count : ℕ) → length pixels ≡ count → context_at pixels g x y < 2 ^ count
context-lt_few pixels g x y count all = subst (λ (n : ℕ). context_at pixels g x y < 2 ^ n) all (context-lt pixels g x y)
