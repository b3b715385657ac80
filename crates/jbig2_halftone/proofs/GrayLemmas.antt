-- The values of a gray-scale image, plane by plane.
use Rattle.std.proofs.Common.{◌≡◌, ℕ, zero, suc, ◌+◌, ◌-◌, ◌*◌, ◌/◌, ◌%◌, ◌^◌, ◌<◌, ◌≤◌, Bool, true, false, eqb, List, [], ◌∷◌, ◌++◌, length, take, map, replicate, add-one, length-append, refl, sym, ap, subst, ◌∙◌, arith}
use Rattle.std.specs.List.{range_with_len}
use Rattle.std.proofs.lemmas.List.{length-replicate, replicate-append-replicate, take_all, take-append-le}
use Rattle.std.proofs.Math.Seq.{take-length}
use Rattle.std.proofs.lemmas.List.FromFn.{length-map-range_with_len}
use Rattle.jbig2_region.proofs.ContextLemmas.{number_of-lt}
use Rattle.jbig2_halftone.specs.inner.NextValues.{next_value}
use Rattle.jbig2_base.specs.Grid.{Grid, pixel_at, differ}
use Rattle.jbig2_base.specs.Bits.{bit_number, number_of}
use Rattle.jbig2_halftone.specs.GrayScale.{parity, gray_value, gray_values}

-- bit j of a value
abbrev gray_bit : List Grid → ℕ → ℕ → ℕ → Bool
gray_bit planes x y j = parity (take (length planes - j) planes) x y

differ-swap : (a b c : Bool) → differ a (differ b c) ≡ differ b (differ a c)
differ-swap true true c = refl
differ-swap true false c = refl
differ-swap false true c = refl
differ-swap false false c = refl

parity-last : (planes : List Grid) (plane : Grid) (x y : ℕ) → parity (planes ++ plane ∷ []) x y ≡ differ (pixel_at plane x y) (parity planes x y)
parity-last [] plane x y = refl
parity-last (p ∷ planes) plane x y = ap (λ (b : Bool). differ (pixel_at p x y) b) (parity-last planes plane x y) ∙ differ-swap (pixel_at p x y) (pixel_at plane x y) (parity planes x y)

map-shifted : {X : Type 0} (f g : ℕ → X) (a n : ℕ) → ((i : ℕ) → a ≤ i → i < a + n → f (i + 1) ≡ g i) → map f (range_with_len (a + 1) n) ≡ map g (range_with_len a n)
map-shifted f g a zero same = refl
map-shifted f g a (suc n) same = rw (same a (omega arith) (omega arith)) (ap (λ xs. g a ∷ xs) (map-shifted f g (a + 1) n (λ i above below. same i (omega arith) (omega arith))))

number-low : (b : Bool) (n : ℕ) → eqb ((bit_number b + 2 * n) % 2) 1 ≡ b
number-low true n = rw (the_rest n) refl
  where
    the_rest : (n : ℕ) → (1 + 2 * n) % 2 ≡ 1
    the_rest n = omega arith
number-low false n = rw (the_rest n) refl
  where
    the_rest : (n : ℕ) → (0 + 2 * n) % 2 ≡ 0
    the_rest n = omega arith

gray-lowest : (planes : List Grid) (x y : ℕ) → gray_bit planes x y 0 ≡ parity planes x y
gray-lowest planes x y =
    let all : length planes - 0 ≡ length planes = omega arith in
    ap (λ (k : ℕ). parity (take k planes) x y) all ∙ ap (λ (ps : List Grid). parity ps x y) (take-length planes)

-- the lowest bit of a value
gray-low : (planes : List Grid) (x y : ℕ) → eqb (gray_value planes x y % 2) 1 ≡ parity planes x y
unfolding gray_value
gray-low [] x y = refl
gray-low (p ∷ planes) x y = number-low (gray_bit (p ∷ planes) x y 0) (number_of (map (gray_bit (p ∷ planes) x y) (range_with_len 1 (length planes)))) ∙ gray-lowest (p ∷ planes) x y

-- a bit above the lowest is one that stood below it before
gray-higher : (planes : List Grid) (plane : Grid) (x y i : ℕ) → i < length planes → gray_bit (planes ++ plane ∷ []) x y (i + 1) ≡ gray_bit planes x y i
gray-higher planes plane x y i inside =
    let all : length (planes ++ plane ∷ []) ≡ length planes + 1 = length-append planes (plane ∷ []) in
    let some : length (planes ++ plane ∷ []) - (i + 1) ≡ length planes - i = omega arith in
    ap (λ (k : ℕ). parity (take k (planes ++ plane ∷ [])) x y) some
    ∙ ap (λ (ps : List Grid). parity ps x y) (take-append-le (length planes - i) planes (plane ∷ []) (omega arith))

value-split : (f : ℕ → Bool) (n m : ℕ) → m ≡ n + 1 → number_of (map f (range_with_len 0 m)) ≡ bit_number (f 0) + 2 * number_of (map f (range_with_len 1 n))
value-split f n m e = rw (e, add-one) refl

pub gray-last : (planes : List Grid) (plane : Grid) (x y : ℕ) → gray_value (planes ++ plane ∷ []) x y ≡ next_value (gray_value planes x y) (pixel_at plane x y)
unfolding gray_value
gray-last planes plane x y =
    let low : gray_bit (planes ++ plane ∷ []) x y 0 ≡ differ (pixel_at plane x y) (parity planes x y) = gray-lowest (planes ++ plane ∷ []) x y ∙ parity-last planes plane x y in
    let high : number_of (map (gray_bit (planes ++ plane ∷ []) x y) (range_with_len 1 (length planes))) ≡ gray_value planes x y =
    ap (λ (bits : List Bool). number_of bits) (map-shifted (gray_bit (planes ++ plane ∷ []) x y) (gray_bit planes x y) 0 (length planes) (λ i above below. gray-higher planes plane x y i (omega arith))) in
    let turned : differ (pixel_at plane x y) (eqb (gray_value planes x y % 2) 1) ≡ differ (pixel_at plane x y) (parity planes x y) = ap (λ (b : Bool). differ (pixel_at plane x y) b) (gray-low planes x y) in
    value-split (gray_bit (planes ++ plane ∷ []) x y) (length planes) (length (planes ++ plane ∷ [])) (length-append planes (plane ∷ []))
    ∙ ap (λ (b : Bool). bit_number b + 2 * number_of (map (gray_bit (planes ++ plane ∷ []) x y) (range_with_len 1 (length planes)))) (low ∙ sym turned)
    ∙ ap (λ (v : ℕ). bit_number (differ (pixel_at plane x y) (eqb (gray_value planes x y % 2) 1)) + 2 * v) high
    ∙ omega arith

-- this many planes make values of this many bits
pub gray_value-lt : (planes : List Grid) (x y : ℕ) → gray_value planes x y < 2 ^ length planes
unfolding gray_value
gray_value-lt planes x y =
    subst (λ (n : ℕ). number_of (map (gray_bit planes x y) (range_with_len 0 (length planes))) < 2 ^ n)
    (length-map-range_with_len (gray_bit planes x y) 0 (length planes))
    (number_of-lt (map (gray_bit planes x y) (range_with_len 0 (length planes))))

none-zero : (w a n : ℕ) → map (λ k. gray_value [] (k % w) (k / w)) (range_with_len a n) ≡ replicate n 0
unfolding gray_value
none-zero w a zero = refl
none-zero w a (suc n) = ap (λ (vs : List ℕ). 0 ∷ vs) (none-zero w (a + 1) n)

-- before the first plane every value is 0
pub values-none : (w h : ℕ) → gray_values w h [] ≡ replicate (w * h) 0
unfolding gray_values
values-none w h = none-zero w 0 (w * h)

-- zeros in blocks, and those that are left
pub zeros-next : (k : ℕ) (zeros all : List ℕ) → zeros ≡ replicate (k * 256) 0 → all ≡ zeros ++ replicate 256 0 → all ≡ replicate ((k + 1) * 256) 0
zeros-next k zeros all is e =
    let sum : k * 256 + 256 ≡ (k + 1) * 256 = omega arith in
    e ∙ ap (λ (xs : List ℕ). xs ++ replicate 256 0) is ∙ replicate-append-replicate (k * 256) 256 0 ∙ ap (λ (m : ℕ). replicate m 0) sum

pub zeros-filled : (n k len : ℕ) (zeros all : List ℕ) → zeros ≡ replicate (k * 256) 0 → k * 256 ≤ n → len ≡ length zeros → all ≡ take n zeros ++ replicate (n - len) 0 → all ≡ replicate n 0
zeros-filled n k len zeros all is few sized e =
    let long : length zeros ≡ k * 256 = ap length is ∙ length-replicate (k * 256) 0 in
    let sum : k * 256 + (n - len) ≡ n = omega (arith, sized, long) in
    e ∙ ap (λ (xs : List ℕ). xs ++ replicate (n - len) 0) (take_all n zeros (omega (arith, long)) ∙ is) ∙ replicate-append-replicate (k * 256) (n - len) 0 ∙ ap (λ (m : ℕ). replicate m 0) sum
