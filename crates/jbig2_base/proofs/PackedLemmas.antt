-- Packed words against the grid that they hold.
use Rattle.std.proofs.Common.{◌≡◌, ℕ, ◌+◌, ◌-◌, ◌*◌, ◌/◌, ◌%◌, ◌^◌, ◌<◌, ◌≤◌, Bool, true, false, ◌&&◌, eqb, ltb, List, length, get_or, sym, refl, ap, ◌∙◌, ⊎_elim, arith, ◌≢◌, set}
use Rattle.std.proofs.lemmas.List.{get_or-set_same, get_or-set_other, length-set}
use Rattle.std.proofs.Math.Nat.{mul-le-mul_left}
use Rattle.std.proofs.lemmas.Bool.{cases_eq, cases_lt, eqb-true, eqb-false, eq-eqb, ne_eqb, cond-true, cond-false, lt-ltb, le-ltb, cond_both, and_right}
use Rattle.std.proofs.lemmas.List.FromFn.{fill_by_all, get_or-map-range_with_len, length-map-range_with_len}
use Rattle.std.proofs.lemmas.Nat.{mul-add-lt, mod-mul-add, same_from_place}
use Rattle.std.proofs.lemmas.Nat.Bits.{ones_shl}
use Rattle.jbig2_base.specs.Grid.{grid_of, pixel_at, blank}
use Rattle.jbig2_base.specs.Bits.{bit}
use Rattle.jbig2_base.specs.inner.Packed.{IsPacked, packed_pixel, stride_of, blank_word, blank_words, row_bit}
use Rattle.jbig2_base.proofs.BitLemmas.{bit-zero, bit-ones, bit-high_ones, bit-high_ones_below}
use Rattle.jbig2_base.proofs.GridLemmas.{grid_of-ext, pixel_at-grid_of, pixel_at-right, pixel_at-below}

-- ---- reading
-- the place of a word, and of a pixel's word
pub word_place-lt : (w h stride : ℕ) (words : List ℕ) (q y : ℕ) → IsPacked w h stride words → q < stride → y < h → (y * stride + q) < length words
word_place-lt w h stride words q y packed left above = rw packed.sized (mul-add-lt y stride q h above left)

pub place-lt : (w h stride : ℕ) (words : List ℕ) (x y : ℕ) → IsPacked w h stride words → x < w → y < h → (y * stride + x / 64) < length words
place-lt w h stride words x y packed left above = word_place-lt w h stride words (x / 64) y packed (omega (arith, packed.strided)) above

-- a pixel inside is a bit of its word
pub pixel_at-packed : (w h stride : ℕ) (words : List ℕ) (x y : ℕ) → x < w → y < h → pixel_at (grid_of w h (packed_pixel stride words)) x y ≡ bit (get_or words (y * stride + x / 64) 0) (63 - x % 64)
unfolding packed_pixel
pixel_at-packed w h stride words x y left above = pixel_at-grid_of w h (packed_pixel stride words) x y left above

-- the pixels of a word
pub word-pixel : (w h stride : ℕ) (words : List ℕ) (q y k : ℕ) → IsPacked w h stride words → q < stride → y < h → k < 64 → bit (get_or words (y * stride + q) 0) (63 - k) ≡ pixel_at (grid_of w h (packed_pixel stride words)) (64 * q + k) y
unfolding packed_pixel
word-pixel w h stride words q y k packed left above few =
    let column : (64 * q + k) / 64 ≡ q = omega arith in
    let place : (64 * q + k) % 64 ≡ k = omega arith in
    let here : packed_pixel stride words (64 * q + k) y ≡ bit (get_or words (y * stride + q) 0) (63 - k) = ap (λ (i : ℕ). bit (get_or words (y * stride + i) 0) (63 - (64 * q + k) % 64)) column ∙ ap (λ (i : ℕ). bit (get_or words (y * stride + q) 0) (63 - i)) place in
    ⊎_elim
    (λ (inside : 64 * q + k < w). sym here ∙ sym (pixel_at-grid_of w h (packed_pixel stride words) (64 * q + k) y inside above))
    (λ (past : w ≤ 64 * q + k). sym here ∙ packed.padded (64 * q + k) y past (omega arith) above ∙ sym (pixel_at-right (grid_of w h (packed_pixel stride words)) (64 * q + k) y past))
    (cases_lt (64 * q + k) w)

-- ---- the bits of a row
row_bit-in : (words : List ℕ) (first stride x : ℕ) → x / 64 < stride → row_bit words first stride x ≡ bit (get_or words (first + x / 64) 0) (63 - x % 64)
unfolding row_bit
row_bit-in words first stride x inside = cond-true (ltb (x / 64) stride) (bit (get_or words (first + x / 64) 0) (63 - x % 64)) false (lt-ltb (x / 64) stride inside)

row_bit-past : (words : List ℕ) (first stride x : ℕ) → stride ≤ x / 64 → row_bit words first stride x ≡ false
unfolding row_bit
row_bit-past words first stride x past = cond-false (ltb (x / 64) stride) (bit (get_or words (first + x / 64) 0) (63 - x % 64)) false (le-ltb (x / 64) stride past)

-- those of a word
pub row_bit-word : (words : List ℕ) (first stride index word k : ℕ) → index < stride → word ≡ get_or words (first + index) 0 → k < 64 → bit word (63 - k) ≡ row_bit words first stride (64 * index + k)
row_bit-word words first stride index word k inside read few =
    let column : (64 * index + k) / 64 ≡ index = omega arith in
    let place : (64 * index + k) % 64 ≡ k = omega arith in
    ap (λ (n : ℕ). bit n (63 - k)) read
    ∙ sym (row_bit-in words first stride (64 * index + k) (omega arith)
    ∙ ap (λ (q : ℕ). bit (get_or words (first + q) 0) (63 - (64 * index + k) % 64)) column
    ∙ ap (λ (q : ℕ). bit (get_or words (first + index) 0) (63 - q)) place)

pub row_bit-none : (words : List ℕ) (first stride index k : ℕ) → stride ≤ index → bit 0 (63 - k) ≡ row_bit words first stride (64 * index + k)
row_bit-none words first stride index k past = bit-zero (63 - k) ∙ sym (row_bit-past words first stride (64 * index + k) (omega arith))

-- a row's bits are its pixels, and there are none below the last row
pub row_bit-pixel : (w h stride : ℕ) (words : List ℕ) (first count x y : ℕ) → IsPacked w h stride words → (y < h → (first ≡ y * stride) × (count ≡ stride)) → (h ≤ y → (first ≡ 0) × (count ≡ 0)) → row_bit words first count x ≡ pixel_at (grid_of w h (packed_pixel stride words)) x y
row_bit-pixel w h stride words first count x y packed inside below =
    let wide = packed.strided in
    ⊎_elim
    (λ (above : y < h).
    let place = inside above in
    ⊎_elim
    (λ (left : x / 64 < stride).
    let whole : 64 * (x / 64) + x % 64 ≡ x = omega arith in
    row_bit-in words first count x (omega (arith, place.1))
    ∙ ap (λ (n : ℕ). bit (get_or words (n + x / 64) 0) (63 - x % 64)) place.0
    ∙ word-pixel w h stride words (x / 64) y (x % 64) packed left above (omega arith)
    ∙ ap (λ (n : ℕ). pixel_at (grid_of w h (packed_pixel stride words)) n y) whole)
    (λ (right : stride ≤ x / 64). row_bit-past words first count x (omega (arith, place.1)) ∙ sym (pixel_at-right (grid_of w h (packed_pixel stride words)) x y (omega arith)))
    (cases_lt (x / 64) stride))
    (λ (under : h ≤ y).
    let place = below under in
    row_bit-past words first count x (omega (arith, place.1)) ∙ sym (pixel_at-below (grid_of w h (packed_pixel stride words)) x y under))
    (cases_lt y h)

-- the row of a bitmap lies inside
pub row_place-inside : (w h stride : ℕ) (words : List ℕ) (first count y : ℕ) → IsPacked w h stride words → (y < h → (first ≡ y * stride) × (count ≡ stride)) → (h ≤ y → (first ≡ 0) × (count ≡ 0)) → 0 < count → first + count ≤ length words
row_place-inside w h stride words first count y packed inside below some =
    ⊎_elim
    (λ (above : y < h).
    let place = inside above in
    let last : y * stride + (stride - 1) < stride * h = mul-add-lt y stride (stride - 1) h above (omega (arith, place.1)) in
    omega (arith, place.0, place.1, packed.sized, last))
    (λ (under : h ≤ y). absurd (omega (arith, (below under).1)))
    (cases_lt y h)

pub whole_row-inside : (w h stride : ℕ) (words : List ℕ) (first count y : ℕ) → IsPacked w h stride words → y < h → first ≡ y * stride → count ≡ stride → first + count ≤ length words
whole_row-inside w h stride words first count y packed above at size =
    ⊎_elim
    (λ (some : 0 < stride).
    let last : y * stride + (stride - 1) < stride * h = mul-add-lt y stride (stride - 1) h above (omega arith) in
    omega (arith, at, size, packed.sized, last))
    (λ (none : stride ≤ 0).
    let nothing : y * stride ≡ y * 0 = ap (λ (n : ℕ). y * n) (let zero_words : stride ≡ 0 = omega arith in zero_words) in
    omega (arith, at, size, nothing))
    (cases_lt 0 stride)

-- the first word of a row is a number of 64 bits
pub place-fits : (y stride : ℕ) → y < 2 ^ 32 → stride ≤ 2 ^ 26 → y * stride < 2 ^ 64
place-fits y stride small few =
    let most : y * stride ≤ y * 2 ^ 26 = mul-le-mul_left y few in
    omega (arith, most, small)

-- ---- rows of one colour
and-true : (b : Bool) → b ≡ (b && true)
and-true true = refl
and-true false = refl

-- the bit of column x in a word of black rows
black_bit : (w x y : ℕ) → x / 64 < stride_of w → bit (blank_word w true (y * stride_of w + x / 64)) (63 - x % 64) ≡ ltb x w
unfolding blank_word
black_bit w x y inside =
    let column = mod-mul-add y (stride_of w) (x / 64) inside in
    cond_both (eqb ((y * stride_of w + x / 64) % stride_of w + 1) (stride_of w)) (2 ^ 64 - 2 ^ (64 * stride_of w - w)) (2 ^ 64 - 1)
    (λ n. bit n (63 - x % 64) ≡ ltb x w)
    (λ e.
    let last : x / 64 + 1 ≡ stride_of w = omega (arith, eqb-true _ _ e, column) in
    ⊎_elim
    (λ (before : x < w). bit-high_ones (64 * stride_of w - w) 64 (63 - x % 64) (omega arith) (omega arith) ∙ sym (lt-ltb x w before))
    (λ (past : w ≤ x). bit-high_ones_below (64 * stride_of w - w) 64 (63 - x % 64) (omega arith) ∙ sym (le-ltb x w past))
    (cases_lt x w))
    (λ e.
    let other : (x / 64 + 1 ≡ stride_of w) → ⊥ = λ last. eqb-false _ _ e (omega (arith, column)) in
    let before : x < w = omega arith in
    bit-ones 64 (63 - x % 64) (omega arith) ∙ sym (lt-ltb x w before))

-- the two kinds of words of black rows
pub black_word-last : (w stride index : ℕ) → stride ≡ stride_of w → index % stride + 1 ≡ stride → (2 ^ 64 - 1) * 2 ^ (64 * stride - w) % 2 ^ 64 ≡ blank_word w true index
unfolding blank_word
black_word-last w stride index e last =
    ones_shl 64 (64 * stride - w) (omega arith) ∙ rw e (sym (cond-true (eqb (index % stride_of w + 1) (stride_of w)) (2 ^ 64 - 2 ^ (64 * stride_of w - w)) (2 ^ 64 - 1) (eq-eqb _ _ (rw e at last))))

pub black_word-inner : (w stride index : ℕ) → stride ≡ stride_of w → (index % stride + 1 ≡ stride → ⊥) → 2 ^ 64 - 1 ≡ blank_word w true index
unfolding blank_word
black_word-inner w stride index e inner =
    sym (cond-false (eqb (index % stride_of w + 1) (stride_of w)) (2 ^ 64 - 2 ^ (64 * stride_of w - w)) (2 ^ 64 - 1) (ne_eqb _ _ (rw e at inner)))

blank-pixel : (w h : ℕ) (black : Bool) (words : List ℕ) → length words ≡ stride_of w * h → ((k : ℕ) → k < length words → get_or words k 0 ≡ blank_word w black k) → (x y : ℕ) → x < 64 * stride_of w → y < h → packed_pixel (stride_of w) words x y ≡ (ltb x w && black)
unfolding packed_pixel blank_word
blank-pixel w h false words size each x y left above =
    let at : y * stride_of w + x / 64 < stride_of w * h = mul-add-lt y (stride_of w) (x / 64) h above (omega arith) in
    rw (each (y * stride_of w + x / 64) (omega arith)) (bit-zero (63 - x % 64) ∙ sym (and_right (ltb x w) false refl))
blank-pixel w h true words size each x y left above =
    let at : y * stride_of w + x / 64 < stride_of w * h = mul-add-lt y (stride_of w) (x / 64) h above (omega arith) in
    let inside : x / 64 < stride_of w = omega arith in
    ap (λ (n : ℕ). bit n (63 - x % 64)) (each (y * stride_of w + x / 64) (omega arith)) ∙ black_bit w x y inside ∙ and-true (ltb x w)

pub blank-grid : (w h : ℕ) (black : Bool) (words : List ℕ) → length words ≡ stride_of w * h → ((k : ℕ) → k < length words → get_or words k 0 ≡ blank_word w black k) → grid_of w h (packed_pixel (stride_of w) words) ≡ blank w h black
blank-grid w h black words size each =
    grid_of-ext w h (packed_pixel (stride_of w) words) (λ _ _. black)
    (λ x y left above. blank-pixel w h black words size each x y (omega arith) above ∙ ap (λ (b : Bool). b && black) (lt-ltb x w left))

pub blank-packed : (w h : ℕ) (black : Bool) (words : List ℕ) → length words ≡ stride_of w * h → ((k : ℕ) → k < length words → get_or words k 0 ≡ blank_word w black k) → IsPacked w h (stride_of w) words
blank-packed w h black words size each = record {
  strided = refl;
  sized = size;
  padded = λ x y past left above. blank-pixel w h black words size each x y left above ∙ ap (λ (b : Bool). b && black) (le-ltb x w past);
}

-- all words of one colour
pub blank_words-made : (w h : ℕ) (black : Bool) (words : List ℕ) → length words ≡ stride_of w * h → ((k : ℕ) → k < length words → get_or words k 0 ≡ blank_word w black k) → words ≡ blank_words w h black
unfolding blank_words
blank_words-made w h black words size each = fill_by_all (blank_word w black) words (stride_of w * h) 0 size (λ k below. each k (omega (arith, size, below)))

pub blank_words-size : (w h : ℕ) (black : Bool) → length (blank_words w h black) ≡ stride_of w * h
unfolding blank_words
blank_words-size w h black = length-map-range_with_len (blank_word w black) 0 (stride_of w * h)

pub blank_words-at : (w h : ℕ) (black : Bool) (k : ℕ) → k < length (blank_words w h black) → get_or (blank_words w h black) k 0 ≡ blank_word w black k
unfolding blank_words
blank_words-at w h black k below = get_or-map-range_with_len (blank_word w black) 0 (stride_of w * h) k k 0 (omega (arith, below, length-map-range_with_len (blank_word w black) 0 (stride_of w * h))) (omega arith)

pub blank_words-grid : (w h stride : ℕ) (black : Bool) (words : List ℕ) → stride ≡ stride_of w → words ≡ blank_words w h black → grid_of w h (packed_pixel stride words) ≡ blank w h black
blank_words-grid w h stride black words wide e = rw (e, wide) (blank-grid w h black (blank_words w h black) (blank_words-size w h black) (blank_words-at w h black))

pub blank_words-packed : (w h stride : ℕ) (black : Bool) (words : List ℕ) → stride ≡ stride_of w → words ≡ blank_words w h black → IsPacked w h stride words
blank_words-packed w h stride black words wide e = rw (e, wide) (blank-packed w h black (blank_words w h black) (blank_words-size w h black) (blank_words-at w h black))

-- ---- writing
-- a word that is put in the place of the one that has column x of row y
other-word : (stride : ℕ) (words : List ℕ) (x y v i j : ℕ) → x / 64 < stride → i / 64 < stride → (j ≡ y → i / 64 ≡ x / 64 → ⊥) → packed_pixel stride (set words (y * stride + x / 64) v) i j ≡ packed_pixel stride words i j
unfolding packed_pixel
other-word stride words x y v i j here there apart =
    let ne : j * stride + i / 64 ≢ y * stride + x / 64 = λ same. (let places = same_from_place j (i / 64) y (x / 64) stride there here same in apart places.0 places.1) in
    ap (λ (n : ℕ). bit n (63 - i % 64)) (get_or-set_other words (y * stride + x / 64) (j * stride + i / 64) v 0 ne)

same-word : (stride : ℕ) (words : List ℕ) (x y v i : ℕ) → (y * stride + x / 64) < length words → i / 64 ≡ x / 64 → packed_pixel stride (set words (y * stride + x / 64) v) i y ≡ bit v (63 - i % 64)
unfolding packed_pixel
same-word stride words x y v i inside same =
    ap (λ (q : ℕ). bit (get_or (set words (y * stride + x / 64) v) (y * stride + q) 0) (63 - i % 64)) same
    ∙ ap (λ (n : ℕ). bit n (63 - i % 64)) (get_or-set_same words (y * stride + x / 64) v 0 inside)

-- what column i of row y was, at the word of column x
pub old-word : (stride : ℕ) (words : List ℕ) (x y i : ℕ) → i / 64 ≡ x / 64 → packed_pixel stride words i y ≡ bit (get_or words (y * stride + x / 64) 0) (63 - i % 64)
unfolding packed_pixel
old-word stride words x y i same = ap (λ (q : ℕ). bit (get_or words (y * stride + q) 0) (63 - i % 64)) same

pub written-grid : (w h stride : ℕ) (words : List ℕ) (x y v : ℕ) (f : ℕ → ℕ → Bool) → IsPacked w h stride words → x < w → y < h → ((i : ℕ) → i / 64 ≡ x / 64 → i < w → bit v (63 - i % 64) ≡ f i y) → ((i j : ℕ) → i < w → j < h → (j ≡ y → i / 64 ≡ x / 64 → ⊥) → pixel_at (grid_of w h (packed_pixel stride words)) i j ≡ f i j) → grid_of w h (packed_pixel stride (set words (y * stride + x / 64) v)) ≡ grid_of w h f
written-grid w h stride words x y v f packed left above here there =
    let place = place-lt w h stride words x y packed left above in
    let wide = packed.strided in
    grid_of-ext w h (packed_pixel stride (set words (y * stride + x / 64) v)) f (λ i j right below.
    let apart : (j ≡ y → i / 64 ≡ x / 64 → ⊥) → packed_pixel stride (set words (y * stride + x / 64) v) i j ≡ f i j = λ ne.
    other-word stride words x y v i j (omega arith) (omega arith) ne ∙ sym (pixel_at-grid_of w h (packed_pixel stride words) i j right below) ∙ there i j right below ne in
    ⊎_elim
    (λ (row : j ≡ y).
    ⊎_elim
    (λ (same : i / 64 ≡ x / 64).
    ap (λ (n : ℕ). packed_pixel stride (set words (y * stride + x / 64) v) i n) row ∙ same-word stride words x y v i place same ∙ here i same right ∙ ap (λ (n : ℕ). f i n) (sym row))
    (λ (ne : i / 64 ≡ x / 64 → ⊥). apart (λ _ same. ne same))
    (cases_eq (i / 64) (x / 64)))
    (λ (ne : j ≡ y → ⊥). apart (λ row _. ne row))
    (cases_eq j y))

pub written-packed : (w h stride : ℕ) (words : List ℕ) (x y v : ℕ) → IsPacked w h stride words → x < w → y < h → ((i : ℕ) → i / 64 ≡ x / 64 → w ≤ i → bit v (63 - i % 64) ≡ false) → IsPacked w h stride (set words (y * stride + x / 64) v)
written-packed w h stride words x y v packed left above clear =
    let place = place-lt w h stride words x y packed left above in
    let wide = packed.strided in
    record {
      strided = packed.strided;
      sized = length-set words (y * stride + x / 64) v ∙ packed.sized;
      padded = λ i j past inside below.
          (let apart : (j ≡ y → i / 64 ≡ x / 64 → ⊥) → packed_pixel stride (set words (y * stride + x / 64) v) i j ≡ false = λ ne.
          other-word stride words x y v i j (omega arith) (omega arith) ne ∙ packed.padded i j past inside below in
          ⊎_elim
          (λ (row : j ≡ y).
          ⊎_elim
          (λ (same : i / 64 ≡ x / 64).
          ap (λ (n : ℕ). packed_pixel stride (set words (y * stride + x / 64) v) i n) row ∙ same-word stride words x y v i place same ∙ clear i same past)
          (λ (ne : i / 64 ≡ x / 64 → ⊥). apart (λ _ same. ne same))
          (cases_eq (i / 64) (x / 64)))
          (λ (ne : j ≡ y → ⊥). apart (λ row _. ne row))
          (cases_eq j y));
    }
