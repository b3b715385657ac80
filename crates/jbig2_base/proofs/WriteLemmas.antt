-- One word written, against the pixels that it sets.
use Rattle.std.proofs.Common.{◌≡◌, ℕ, ◌+◌, ◌-◌, ◌*◌, ◌/◌, ◌%◌, ◌^◌, ◌<◌, ◌≤◌, Bool, true, false, ◌&&◌, ◌||◌, cond, eqb, ltb, leb, List, length, get_or, set, refl, sym, subst, ap, ◌∙◌, ⊎_elim, arith}
use Rattle.std.specs.Int.RustNames.{bit_or}
use Rattle.std.proofs.lemmas.Bool.{cases_eq, cases_lt, eq-eqb, ne_eqb, cond-true, cond-false, and_from, and_left, and_right, and_parts, ltb-true, le-leb, lt-leb, lt-ltb, le-ltb}
use Rattle.std.proofs.lemmas.Nat.{one_shl}
use Rattle.jbig2_base.specs.Grid.{grid_of, pixel_at}
use Rattle.jbig2_base.specs.{Bits.{bit}, inner.WordBits.{field_bit}}
use Rattle.jbig2_base.specs.Writes.{with_pixel, with_pixels}
use Rattle.jbig2_base.specs.inner.Packed.{IsPacked, packed_pixel}
use Rattle.jbig2_base.proofs.BitLemmas.{bit-or, bit-pow_same, bit-pow_other, or-false, field-inside, field-below, field-above}
use Rattle.jbig2_base.proofs.GridLemmas.{grid_of-ext, pixel_at-grid_of}
use Rattle.jbig2_base.proofs.PackedLemmas.{old-word, place-lt, written-grid, written-packed}

-- ---- one pixel
here : (a b : Bool) → b ≡ true → a ≡ (a && b)
here true b e = sym e
here false b e = refl

-- `1 << (63 - x % 64)`
one-bit : (x i : ℕ) → i / 64 ≡ x / 64 → bit (1 * 2 ^ (63 - x % 64) % 2 ^ 64) (63 - i % 64) ≡ eqb i x
one-bit x i same =
    ap (λ (n : ℕ). bit n (63 - i % 64)) (one_shl (63 - x % 64) 64 (omega arith))
    ∙ ⊎_elim
    (λ (e : i ≡ x). ap (λ (n : ℕ). bit (2 ^ (63 - x % 64)) (63 - n % 64)) e ∙ bit-pow_same (63 - x % 64) ∙ sym (eq-eqb i x e))
    (λ (ne : i ≡ x → ⊥). bit-pow_other (63 - x % 64) (63 - i % 64) (λ e. ne (omega arith)) ∙ sym (ne_eqb i x ne))
    (cases_eq i x)

-- the word with that bit
blackened : (stride : ℕ) (words : List ℕ) (x y i : ℕ) → i / 64 ≡ x / 64 → bit (bit_or (get_or words (y * stride + x / 64) 0) (1 * 2 ^ (63 - x % 64) % 2 ^ 64)) (63 - i % 64) ≡ (packed_pixel stride words i y || eqb i x)
blackened stride words x y i same =
    let word : ℕ = get_or words (y * stride + x / 64) 0 in
    bit-or word (1 * 2 ^ (63 - x % 64) % 2 ^ 64) (63 - i % 64)
    ∙ ap (λ (t : Bool). t || bit (1 * 2 ^ (63 - x % 64) % 2 ^ 64) (63 - i % 64)) (sym (old-word stride words x y i same))
    ∙ ap (λ (t : Bool). packed_pixel stride words i y || t) (one-bit x i same)

pub black-grid : (w h stride : ℕ) (words : List ℕ) (x y : ℕ) → IsPacked w h stride words → x < w → y < h → grid_of w h (packed_pixel stride (set words (y * stride + x / 64) (bit_or (get_or words (y * stride + x / 64) 0) (1 * 2 ^ (63 - x % 64) % 2 ^ 64)))) ≡ with_pixel (grid_of w h (packed_pixel stride words)) x y true
black-grid w h stride words x y packed left above =
    written-grid w h stride words x y (bit_or (get_or words (y * stride + x / 64) 0) (1 * 2 ^ (63 - x % 64) % 2 ^ 64)) (λ i j. pixel_at (grid_of w h (packed_pixel stride words)) i j || (eqb i x && eqb j y)) packed left above
    (λ i same right.
    blackened stride words x y i same
    ∙ ap (λ (t : Bool). t || eqb i x) (sym (pixel_at-grid_of w h (packed_pixel stride words) i y right above))
    ∙ ap (λ (t : Bool). pixel_at (grid_of w h (packed_pixel stride words)) i y || t) (here (eqb i x) (eqb y y) (eq-eqb y y refl)))
    (λ i j right below ne.
    sym (or-false (pixel_at (grid_of w h (packed_pixel stride words)) i j) (eqb i x && eqb j y)
    (⊎_elim
    (λ (row : j ≡ y). and_left (eqb i x) (eqb j y) (ne_eqb i x (λ e. ne row (ap (λ (n : ℕ). n / 64) e))))
    (λ (other : j ≡ y → ⊥). and_right (eqb i x) (eqb j y) (ne_eqb j y other))
    (cases_eq j y))))

pub black-packed : (w h stride : ℕ) (words : List ℕ) (x y : ℕ) → IsPacked w h stride words → x < w → y < h → IsPacked w h stride (set words (y * stride + x / 64) (bit_or (get_or words (y * stride + x / 64) 0) (1 * 2 ^ (63 - x % 64) % 2 ^ 64)))
black-packed w h stride words x y packed left above =
    let wide = packed.strided in
    written-packed w h stride words x y (bit_or (get_or words (y * stride + x / 64) 0) (1 * 2 ^ (63 - x % 64) % 2 ^ 64)) packed left above
    (λ i same past.
    blackened stride words x y i same
    ∙ or-false (packed_pixel stride words i y) (eqb i x) (ne_eqb i x (λ e. absurd (omega arith)))
    ∙ packed.padded i y past (omega arith) above)

-- no pixel inside is made black
pub same-with_pixel : (w h : ℕ) (f : ℕ → ℕ → Bool) (x y : ℕ) (black : Bool) → ((i j : ℕ) → i < w → j < h → (black && eqb i x && eqb j y) ≡ false) → grid_of w h f ≡ with_pixel (grid_of w h f) x y black
same-with_pixel w h f x y black none =
    grid_of-ext w h f (λ i j. pixel_at (grid_of w h f) i j || (black && eqb i x && eqb j y))
    (λ i j right below. sym (or-false (pixel_at (grid_of w h f) i j) (black && eqb i x && eqb j y) (none i j right below) ∙ pixel_at-grid_of w h f i j right below))

pub not-blackened : (black : Bool) (x y w h i j : ℕ) → (black && ltb x w && ltb y h) ≡ false → i < w → j < h → (black && eqb i x && eqb j y) ≡ false
not-blackened false x y w h i j none left above = refl
not-blackened true x y w h i j none left above =
    ⊎_elim
    (λ (column : i ≡ x).
    ⊎_elim
    (λ (row : j ≡ y). absurd (let both : (ltb x w && ltb y h) ≡ true = and_from _ _ (lt-ltb x w (omega arith)) (lt-ltb y h (omega arith)) in let never : true ≡ false = sym both ∙ none in cc))
    (λ (other : j ≡ y → ⊥). and_right (eqb i x) (eqb j y) (ne_eqb j y other))
    (cases_eq j y))
    (λ (other : i ≡ x → ⊥). and_left (eqb i x) (eqb j y) (ne_eqb i x other))
    (cases_eq i x)

pub blackens-inside : (w h stride first : ℕ) (words : List ℕ) (x y : ℕ) (black blackens : Bool) → IsPacked w h stride words → (y < h → first ≡ y * stride) → blackens ≡ (black && ltb x w && ltb y h) → blackens ≡ true → first + x / 64 < length words
blackens-inside w h stride first words x y black blackens packed place is set_so =
    let inside = and_parts (black && ltb x w) (ltb y h) (sym is ∙ set_so) in
    let column = and_parts black (ltb x w) inside.0 in
    let above : y < h = ltb-true y h inside.1 in
    subst (λ (n : ℕ). n + x / 64 < length words) (sym (place above)) (place-lt w h stride words x y packed (ltb-true x w column.1) above)

-- the words with that bit, or as they were
pub blackens-grid : (w h stride first : ℕ) (words after : List ℕ) (x y : ℕ) (black blackens : Bool) → IsPacked w h stride words → (y < h → first ≡ y * stride) → blackens ≡ (black && ltb x w && ltb y h) → after ≡ cond blackens (set words (first + x / 64) (bit_or (get_or words (first + x / 64) 0) (1 * 2 ^ (63 - x % 64) % 2 ^ 64))) words → grid_of w h (packed_pixel stride after) ≡ with_pixel (grid_of w h (packed_pixel stride words)) x y black
blackens-grid w h stride first words after x y black true packed place is e =
    let inside = and_parts (black && ltb x w) (ltb y h) (sym is) in
    let column = and_parts black (ltb x w) inside.0 in
    let above : y < h = ltb-true y h inside.1 in
    ap (λ (xs : List ℕ). grid_of w h (packed_pixel stride xs)) (e ∙ ap (λ (n : ℕ). set words (n + x / 64) (bit_or (get_or words (n + x / 64) 0) (1 * 2 ^ (63 - x % 64) % 2 ^ 64))) (place above))
    ∙ black-grid w h stride words x y packed (ltb-true x w column.1) above
    ∙ ap (λ (b : Bool). with_pixel (grid_of w h (packed_pixel stride words)) x y b) (sym column.0)
blackens-grid w h stride first words after x y black false packed place is e =
    ap (λ (xs : List ℕ). grid_of w h (packed_pixel stride xs)) e
    ∙ same-with_pixel w h (packed_pixel stride words) x y black (λ i j left above. not-blackened black x y w h i j (sym is) left above)

pub blackens-packed : (w h stride first : ℕ) (words after : List ℕ) (x y : ℕ) (black blackens : Bool) → IsPacked w h stride words → (y < h → first ≡ y * stride) → blackens ≡ (black && ltb x w && ltb y h) → after ≡ cond blackens (set words (first + x / 64) (bit_or (get_or words (first + x / 64) 0) (1 * 2 ^ (63 - x % 64) % 2 ^ 64))) words → IsPacked w h stride after
blackens-packed w h stride first words after x y black true packed place is e =
    let inside = and_parts (black && ltb x w) (ltb y h) (sym is) in
    let column = and_parts black (ltb x w) inside.0 in
    let above : y < h = ltb-true y h inside.1 in
    subst (λ (xs : List ℕ). IsPacked w h stride xs)
    (sym (e ∙ ap (λ (n : ℕ). set words (n + x / 64) (bit_or (get_or words (n + x / 64) 0) (1 * 2 ^ (63 - x % 64) % 2 ^ 64))) (place above)))
    (black-packed w h stride words x y packed (ltb-true x w column.1) above)
blackens-packed w h stride first words after x y black false packed place is e = subst (λ (xs : List ℕ). IsPacked w h stride xs) (sym e) packed

-- ---- a field
pub in_field : (x y count i j : ℕ) → j ≡ y → x ≤ i → i < x + count → (eqb j y && leb x i && ltb i (x + count)) ≡ true
in_field x y count i j row low high = and_from _ _ (and_from _ _ (eq-eqb j y row) (le-leb x i low)) (lt-ltb i (x + count) high)

pub before_field : (x y count i j : ℕ) → i < x → (eqb j y && leb x i && ltb i (x + count)) ≡ false
before_field x y count i j low = and_left _ _ (and_right (eqb j y) (leb x i) (lt-leb x i low))

pub after_field : (x y count i j : ℕ) → x + count ≤ i → (eqb j y && leb x i && ltb i (x + count)) ≡ false
after_field x y count i j high = and_right _ _ (le-ltb i (x + count) high)

pub other_row : (x y count i j : ℕ) → (j ≡ y → ⊥) → (eqb j y && leb x i && ltb i (x + count)) ≡ false
other_row x y count i j ne = and_left _ _ (and_left (eqb j y) (leb x i) (ne_eqb j y ne))

-- the word with a field of other bits
pub stored : (stride : ℕ) (words : List ℕ) (x y count bits word v i : ℕ) → word ≡ get_or words (y * stride + x / 64) 0 → 1 ≤ count → x / 64 ≡ (x + count - 1) / 64 → ((b : ℕ) → b < 64 → bit v b ≡ field_bit word (64 - x % 64 - count) count bits b) → i / 64 ≡ x / 64 → bit v (63 - i % 64) ≡ cond (eqb y y && leb x i && ltb i (x + count)) (bit bits (x + count - 1 - i)) (packed_pixel stride words i y)
stored stride words x y count bits word v i read some one each same =
    let shift : ℕ = 64 - x % 64 - count in
    let now = each (63 - i % 64) (omega arith) in
    let old = ap (λ (n : ℕ). bit n (63 - i % 64)) read ∙ sym (old-word stride words x y i same) in
    let within : x % 64 + count ≤ 64 = omega arith in
    ⊎_elim
    (λ (before : i < x). now ∙ field-above word shift count bits (63 - i % 64) (omega arith) ∙ old ∙ sym (cond-false _ (bit bits (x + count - 1 - i)) (packed_pixel stride words i y) (before_field x y count i y before)))
    (λ (low : x ≤ i).
    ⊎_elim
    (λ (high : i < x + count).
    let place : 63 - i % 64 - shift ≡ x + count - 1 - i = omega arith in
    now ∙ field-inside word shift count bits (63 - i % 64) (omega arith) (omega arith) ∙ ap (λ (b : ℕ). bit bits b) place ∙ sym (cond-true _ (bit bits (x + count - 1 - i)) (packed_pixel stride words i y) (in_field x y count i y refl low high)))
    (λ (beyond : x + count ≤ i). now ∙ field-below word shift count bits (63 - i % 64) (omega arith) ∙ old ∙ sym (cond-false _ (bit bits (x + count - 1 - i)) (packed_pixel stride words i y) (after_field x y count i y beyond)))
    (cases_lt i (x + count)))
    (cases_lt i x)

pub stored-grid : (w h stride : ℕ) (words : List ℕ) (x y count bits word v : ℕ) → IsPacked w h stride words → word ≡ get_or words (y * stride + x / 64) 0 → 1 ≤ count → x + count ≤ w → y < h → x / 64 ≡ (x + count - 1) / 64 → ((b : ℕ) → b < 64 → bit v b ≡ field_bit word (64 - x % 64 - count) count bits b) → grid_of w h (packed_pixel stride (set words (y * stride + x / 64) v)) ≡ with_pixels (grid_of w h (packed_pixel stride words)) x y count bits
stored-grid w h stride words x y count bits word v packed read some columns above one each =
    written-grid w h stride words x y v (λ i j. cond (eqb j y && leb x i && ltb i (x + count)) (bit bits (x + count - 1 - i)) (pixel_at (grid_of w h (packed_pixel stride words)) i j)) packed (omega arith) above
    (λ i same right.
    stored stride words x y count bits word v i read some one each same
    ∙ ap (λ (t : Bool). cond (eqb y y && leb x i && ltb i (x + count)) (bit bits (x + count - 1 - i)) t) (sym (pixel_at-grid_of w h (packed_pixel stride words) i y right above)))
    (λ i j right below ne.
    sym (cond-false (eqb j y && leb x i && ltb i (x + count)) (bit bits (x + count - 1 - i)) (pixel_at (grid_of w h (packed_pixel stride words)) i j)
    (⊎_elim
    (λ (row : j ≡ y).
    ⊎_elim
    (λ (before : i < x). before_field x y count i j before)
    (λ (low : x ≤ i). after_field x y count i j (⊎_elim (λ (high : i < x + count). absurd (ne row (omega arith))) (λ (beyond : x + count ≤ i). beyond) (cases_lt i (x + count))))
    (cases_lt i x))
    (λ (other : j ≡ y → ⊥). other_row x y count i j other)
    (cases_eq j y))))

pub stored-packed : (w h stride : ℕ) (words : List ℕ) (x y count bits word v : ℕ) → IsPacked w h stride words → word ≡ get_or words (y * stride + x / 64) 0 → 1 ≤ count → x + count ≤ w → y < h → x / 64 ≡ (x + count - 1) / 64 → ((b : ℕ) → b < 64 → bit v b ≡ field_bit word (64 - x % 64 - count) count bits b) → IsPacked w h stride (set words (y * stride + x / 64) v)
stored-packed w h stride words x y count bits word v packed read some columns above one each =
    let wide = packed.strided in
    written-packed w h stride words x y v packed (omega arith) above
    (λ i same past.
    stored stride words x y count bits word v i read some one each same
    ∙ cond-false (eqb y y && leb x i && ltb i (x + count)) (bit bits (x + count - 1 - i)) (packed_pixel stride words i y) (after_field x y count i y (omega arith))
    ∙ packed.padded i y past (omega arith) above)
