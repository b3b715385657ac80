-- Rows of planes taken by groups of eight lanes and single pixels.
use Rattle.std.proofs.Common.{◌≡◌, ℕ, zero, suc, ◌+◌, ◌-◌, ◌*◌, ◌/◌, ◌%◌, ◌^◌, ◌<◌, ◌≤◌, Bool, true, false, not, eqb, List, [], ◌∷◌, get_or, set, get_or-set_same, get_or-set_other, length, refl, sym, ap, ◌∙◌, ⊎_elim, arith, bit_and}
use Rattle.std.proofs.lemmas.Bool.{cases_eq, cases_lt, ne_eqb}
use Rattle.std.proofs.lemmas.Simd.{length-chunk, get_or-chunk, get_or-put_chunk_at, get_or-put_chunk_above, get_or-put_chunk_below, get_or-zip2, length-zip2}
use Rattle.jbig2_base.proofs.BitLemmas.{bit-mod, bit-shr, bit_number-bit}
use Rattle.jbig2_base.specs.Grid.{differ, Grid, pixel_at}
use Rattle.std.specs.Prelude.{if◌then◌else◌}
use Rattle.std.specs.List.{All}
use Rattle.std.specs.Int.Bits.{bit_xor}
use Rattle.std.specs.Simd.Lanes.{chunk, put_chunk, zip2, top}
use Rattle.std.proofs.lemmas.Grind.{get_or_default_zero}
use Rattle.std.proofs.lemmas.Nat.Bits.{and_pow}
use Rattle.std.proofs.lemmas.Nat.{pow_pos}
use Rattle.jbig2_base.specs.Counts.{Counts}
use Rattle.jbig2_base.specs.Bits.{bit, bit_number}
use Rattle.jbig2_halftone.specs.inner.NextValues.{next_value}

-- ---- eight lanes
-- what holds of each of eight places
pub each-lane : (P : ℕ → Type 0) → P 0 → P 1 → P 2 → P 3 → P 4 → P 5 → P 6 → P 7 → (k : ℕ) → k < 8 → P k
each-lane P a b c d e f g h zero lt = a
each-lane P a b c d e f g h (suc zero) lt = b
each-lane P a b c d e f g h (suc (suc zero)) lt = c
each-lane P a b c d e f g h (suc (suc (suc zero))) lt = d
each-lane P a b c d e f g h (suc (suc (suc (suc zero)))) lt = e
each-lane P a b c d e f g h (suc (suc (suc (suc (suc zero))))) lt = f
each-lane P a b c d e f g h (suc (suc (suc (suc (suc (suc zero)))))) lt = g
each-lane P a b c d e f g h (suc (suc (suc (suc (suc (suc (suc zero))))))) lt = h
each-lane P a b c d e f g h (suc (suc (suc (suc (suc (suc (suc (suc k)))))))) lt = absurd (omega arith)

-- the lane of one place of a byte
lane-of : (b : Bool) (p : ℕ) → 1 ≤ p → (if top 31 (if not (eqb (bit_number b * p) 0) then 4294967295 else 0) then 1 else 0) ≡ bit_number b
lane-of true p some =
    let other : (1 * p ≡ 0 → ⊥) = omega arith in
    rw (ne_eqb (1 * p) 0 other) refl
lane-of false p some =
    let none : 0 * p ≡ 0 = omega arith in
    rw none refl

pub spread-lane : (n k : ℕ) → (if top 31 (if not (eqb (bit_and n (2 ^ k)) 0) then 4294967295 else 0) then 1 else 0) ≡ bit_number (bit n k)
spread-lane n k = rw (and_pow n k, sym (bit_number-bit n k)) (lane-of (bit n k) (2 ^ k) (omega (arith, pow_pos k)))

-- all lanes of a byte
abbrev pub lane : ℕ → ℕ → ℕ
lane n place = if top 31 (if not (eqb (bit_and n place) 0) then 4294967295 else 0) then 1 else 0

abbrev pub lanes : ℕ → List ℕ
lanes n = lane n 128 ∷ lane n 64 ∷ lane n 32 ∷ lane n 16 ∷ lane n 8 ∷ lane n 4 ∷ lane n 2 ∷ lane n 1 ∷ []

pub spread-lanes : (n k : ℕ) → k < 8 → get_or (lanes n) k 0 ≡ bit_number (bit n (7 - k))
spread-lanes n =
    each-lane (λ k. get_or (lanes n) k 0 ≡ bit_number (bit n (7 - k))) (spread-lane n 7) (spread-lane n 6) (spread-lane n 5) (spread-lane n 4) (spread-lane n 3) (spread-lane n 2) (spread-lane n 1) (spread-lane n 0)

abbrev pub ones : List ℕ
ones = 1 ∷ 1 ∷ 1 ∷ 1 ∷ 1 ∷ 1 ∷ 1 ∷ 1 ∷ []

pub one-lane : (k : ℕ) → k < 8 → get_or ones k 0 ≡ 1
one-lane = each-lane (λ k. get_or ones k 0 ≡ 1) refl refl refl refl refl refl refl refl

low-bit : (v : ℕ) → bit_and v 1 ≡ bit_number (eqb (v % 2) 1)
unfolding bit
low-bit v =
    let whole : v / 1 ≡ v = omega arith in
    and_pow v 0 ∙ sym (ap (λ (n : ℕ). n * 1) (bit_number-bit v 0)) ∙ times (bit_number (eqb (v / 1 % 2) 1)) ∙ ap (λ (n : ℕ). bit_number (eqb (n % 2) 1)) whole
  where
    times : (n : ℕ) → n * 1 ≡ n
    times n = omega arith

turned : (b odd : Bool) → bit_xor (bit_number b) (bit_number odd) ≡ bit_number (differ b odd)
turned true true = refl
turned true false = refl
turned false true = refl
turned false false = refl

bit_number-le : (b : Bool) → bit_number b ≤ 1
bit_number-le true = omega arith
bit_number-le false = omega arith

-- what lane arithmetic makes of a value
pub lane-value : (v s : ℕ) (b : Bool) → v < 2 ^ 31 → s ≡ bit_number b → ((v + v) % 4294967296 + bit_xor s (bit_and v 1)) % 4294967296 ≡ next_value v b
lane-value v s b small is_s = rw (is_s, low-bit v, turned b (eqb (v % 2) 1)) (fits v (bit_number (differ b (eqb (v % 2) 1))) small (bit_number-le (differ b (eqb (v % 2) 1))))
  where
    fits : (v x : ℕ) → v < 2 ^ 31 → x ≤ 1 → ((v + v) % 4294967296 + x) % 4294967296 ≡ 2 * v + x
    fits v x small one = omega arith

-- eight values and the eight pixels
pub group-at : (f g h : ℕ → ℕ → ℕ) (values pixels ones : List ℕ) (k : ℕ) → length values ≡ 8 → length pixels ≡ 8 → length ones ≡ 8 → k < 8
    → get_or (zip2 f (zip2 f values values) (zip2 g pixels (zip2 h values ones))) k 0 ≡ f (f (get_or values k 0) (get_or values k 0)) (g (get_or pixels k 0) (h (get_or values k 0) (get_or ones k 0)))
group-at f g h values pixels ones k eight eight_pixels eight_ones inside =
    let twice : length (zip2 f values values) ≡ 8 = length-zip2 f values values refl ∙ eight in
    let low : length (zip2 h values ones) ≡ 8 = length-zip2 h values ones (eight ∙ sym eight_ones) ∙ eight in
    let turned : length (zip2 g pixels (zip2 h values ones)) ≡ 8 = length-zip2 g pixels (zip2 h values ones) (eight_pixels ∙ sym low) ∙ eight_pixels in
    get_or-zip2 f (zip2 f values values) (zip2 g pixels (zip2 h values ones)) k 0 0 0 (omega arith) (omega arith)
    ∙ ap (λ (a : ℕ). f a (get_or (zip2 g pixels (zip2 h values ones)) k 0)) (get_or-zip2 f values values k 0 0 0 (omega arith) (omega arith))
    ∙ ap (λ (a : ℕ). f (f (get_or values k 0) (get_or values k 0)) a) (get_or-zip2 g pixels (zip2 h values ones) k 0 0 0 (omega arith) (omega arith))
    ∙ ap (λ (a : ℕ). f (f (get_or values k 0) (get_or values k 0)) (g (get_or pixels k 0) a)) (get_or-zip2 h values ones k 0 0 0 (omega arith) (omega arith))

pub group-length : (f g h : ℕ → ℕ → ℕ) (values pixels ones : List ℕ) → length values ≡ 8 → length pixels ≡ 8 → length ones ≡ 8
    → length (zip2 f (zip2 f values values) (zip2 g pixels (zip2 h values ones))) ≡ 8
group-length f g h values pixels ones eight eight_pixels eight_ones =
    let twice : length (zip2 f values values) ≡ 8 = length-zip2 f values values refl ∙ eight in
    let low : length (zip2 h values ones) ≡ 8 = length-zip2 h values ones (eight ∙ sym eight_ones) ∙ eight in
    let turned : length (zip2 g pixels (zip2 h values ones)) ≡ 8 = length-zip2 g pixels (zip2 h values ones) (eight_pixels ∙ sym low) ∙ eight_pixels in
    length-zip2 f (zip2 f values values) (zip2 g pixels (zip2 h values ones)) (twice ∙ sym turned) ∙ twice

-- ---- a row
-- the first x values of a row have taken row y of a plane, and the others are as they were
pub record TakenTo (plane : Grid) (y x : ℕ) (old new : List ℕ) : Type 0 where
  pub taken : (k : ℕ) → k < x → get_or new k 0 ≡ next_value (get_or old k 0) (pixel_at plane k y)
  pub others : (k : ℕ) → x ≤ k → get_or new k 0 ≡ get_or old k 0

-- a group of eight values more
-- eight pixels of a word, as a byte
pub byte-pixels : (plane : Grid) (y n word : ℕ) → ((k : ℕ) → k < 64 → bit word (63 - k) ≡ pixel_at plane (64 * (n / 8) + k) y)
    → (k : ℕ) → k < 8 → bit (word / 2 ^ (56 - 8 * (n % 8)) % 2 ^ 8) (8 - 1 - k) ≡ pixel_at plane (8 * n + k) y
byte-pixels plane y n word bits k inside =
    let at : 56 - 8 * (n % 8) + (8 - 1 - k) ≡ 63 - (8 * (n % 8) + k) = omega arith in
    let column : 64 * (n / 8) + (8 * (n % 8) + k) ≡ 8 * n + k = omega arith in
    bit-mod (word / 2 ^ (56 - 8 * (n % 8))) 8 (8 - 1 - k) (omega arith)
    ∙ bit-shr word (56 - 8 * (n % 8)) (8 - 1 - k)
    ∙ ap (λ (j : ℕ). bit word j) at
    ∙ bits (8 * (n % 8) + k) (omega arith)
    ∙ ap (λ (x : ℕ). pixel_at plane x y) column

pub row-group : (plane : Grid) (y x byte : ℕ) (old mid group : List ℕ) → x + 8 ≤ length mid → length group ≡ 8
    → ((k : ℕ) → k < 8 → get_or group k 0 ≡ next_value (get_or (chunk x 8 mid) k 0) (bit byte (7 - k)))
    → ((k : ℕ) → k < 8 → bit byte (8 - 1 - k) ≡ pixel_at plane (x + k) y) → TakenTo plane y x old mid → TakenTo plane y (x + 8) old (put_chunk x mid group)
row-group plane y x byte old mid group inside eight made read before = record {
  taken = λ k below.
      ⊎_elim
      (λ (earlier : k < x). get_or-put_chunk_below x mid group k 0 earlier ∙ before.taken k earlier)
      (λ (here : x ≤ k). at k (k - x) (omega arith) (omega arith))
      (cases_lt k x);
  others = λ k above. get_or-put_chunk_above x mid group k 0 (omega arith) ∙ before.others k (omega arith);
}
  where
    at : (k j : ℕ) → k ≡ x + j → j < 8 → get_or (put_chunk x mid group) k 0 ≡ next_value (get_or old k 0) (pixel_at plane k y)
    at k j e less =
        let value : get_or (chunk x 8 mid) j 0 ≡ get_or old (x + j) 0 = get_or-chunk x 8 mid j 0 less ∙ before.others (x + j) (omega arith) in
        rw e
        (get_or-put_chunk_at x mid group j 0 (omega arith) (omega arith) ∙ made j less
        ∙ ap (λ (v : ℕ). next_value v (bit byte (7 - j))) value
        ∙ ap (λ (b : Bool). next_value (get_or old (x + j) 0) b) (read j less))

-- the colour of a pixel that was read
pub black-of : (black : Bool) (pixel : ℕ) → pixel ≡ bit_number black → eqb pixel 1 ≡ black
black-of true pixel e = rw e refl
black-of false pixel e = rw e refl

-- a single value more
pub row-pixel : (plane : Grid) (y x value : ℕ) (old mid : List ℕ) → x < length mid → value ≡ next_value (get_or mid x 0) (pixel_at plane x y) → TakenTo plane y x old mid → TakenTo plane y (x + 1) old (set mid x value)
row-pixel plane y x value old mid inside made before = record {
  taken = λ k below.
      ⊎_elim
      (λ (same : k ≡ x). rw (same, get_or-set_same) (made ∙ ap (λ (v : ℕ). next_value v (pixel_at plane x y)) (before.others x (omega arith))))
      (λ (other : k ≡ x → ⊥). rw get_or-set_other (before.taken k (omega arith)))
      (cases_eq k x);
  others = λ k above. let other : (k ≡ x → ⊥) = omega arith in rw get_or-set_other (before.others k (omega arith));
}

-- before the first
pub row-start : (plane : Grid) (y : ℕ) (values : List ℕ) → TakenTo plane y 0 values values
row-start plane y values = record { taken = λ k below. absurd (omega arith); others = λ k above. refl }

-- values that are not taken yet are small
pub chunk-small : (plane : Grid) (y x : ℕ) (old mid : List ℕ) → x + 8 ≤ length mid → length mid ≡ length old → All (λ v. v < 2 ^ 31) old → TakenTo plane y x old mid → All (λ v. v < 2 ^ 31) (chunk x 8 mid)
chunk-small plane y x old mid inside same small before = λ k d within.
    let fits : length (chunk x 8 mid) ≡ 8 = length-chunk x 8 mid inside in
    let less : k < 8 = omega arith in
    let read : get_or (chunk x 8 mid) k d ≡ get_or old (x + k) 0 =
    get_or_default_zero (chunk x 8 mid) k d within ∙ get_or-chunk x 8 mid k 0 less ∙ before.others (x + k) (omega arith) in
    rw read (small (x + k) 0 (omega arith))

-- ---- what a row takes
-- this many groups of lanes and single pixels
abbrev pub lanes_to : ℕ → ℕ → Counts → Counts
lanes_to groups pixels before = record before {
  loads = before.loads + (groups + pixels);
  groups = before.groups + groups;
  pixels = before.pixels + pixels;
}

pub lanes-group : (n : ℕ) (old mid new : Counts) → mid ≡ lanes_to n 0 old → new ≡ record mid { loads = mid.loads + 1; groups = mid.groups + 1 } → new ≡ lanes_to (n + 1) 0 old
lanes-group n old mid new before one =
    let loads : old.loads + (n + 0) + 1 ≡ old.loads + (n + 1 + 0) = omega arith in
    let groups : old.groups + n + 1 ≡ old.groups + (n + 1) = omega arith in
    one ∙ ap (λ (c : Counts). record c { loads = c.loads + 1; groups = c.groups + 1 }) before ∙ rw (loads, groups) refl

pub lanes-pixel : (n k m : ℕ) (old mid new : Counts) → m ≡ k + 1 → mid ≡ lanes_to n k old → new ≡ record mid { loads = mid.loads + 1; pixels = mid.pixels + 1 } → new ≡ lanes_to n m old
lanes-pixel n k m old mid new next before one =
    let loads : old.loads + (n + k) + 1 ≡ old.loads + (n + (k + 1)) = omega arith in
    let pixels : old.pixels + k + 1 ≡ old.pixels + (k + 1) = omega arith in
    one ∙ ap (λ (c : Counts). record c { loads = c.loads + 1; pixels = c.pixels + 1 }) before ∙ rw (next, loads, pixels) refl

pub lanes-start : (old : Counts) → old ≡ lanes_to 0 0 old
lanes-start old =
    let loads : old.loads + 0 ≡ old.loads = omega arith in
    let groups : old.groups + 0 ≡ old.groups = omega arith in
    let pixels : old.pixels + 0 ≡ old.pixels = omega arith in
    rw (loads, groups, pixels) refl
