-- Packed rows, byte by byte.
use Rattle.std.proofs.Common.{mul-le-mul_left, ⊎_elim, false, get_or, length, take, drop, replicate, Result, Ok, Err, ◌≡◌, ℕ, zero, suc, ◌+◌, ◌-◌, ◌*◌, ◌/◌, ◌%◌, ◌^◌, ◌<◌, ◌≤◌, Bool, List, ◌∷◌, map, refl, sym, ap, ◌∙◌, arith}
use Rattle.std.proofs.lemmas.Bool.{cases_lt}
use Rattle.std.proofs.lemmas.List.FromFn.{length-map-range_with_len, take-map-range_with_len}
use Rattle.std.specs.List.{range_with_len}
use Rattle.jbig2_base.specs.Results.{◌>>=◌}
use Rattle.jbig2_base.specs.declared.error.DecodeError.{DecodeError}
use Rattle.jbig2_base.specs.Grid.{Grid, pixel_at}
use Rattle.jbig2_base.specs.Bits.{bit, bit_number, value_of_bits}
use Rattle.jbig2_base.proofs.BitLemmas.{bit_number-bit, bit-shr}
use Rattle.jbig2_base.proofs.GridLemmas.{pixel_at-below, pixel_at-grid_of, pixel_at-right}
use Rattle.jbig2_page.specs.Page.{ReadPage, grid_of_page}
use Rattle.jbig2_page.specs.Image.{packed_byte, packed_of, packed_of_page, packed_part, packed_size, row_bytes}
use Rattle.jbig2_page.specs.inner.BufferBytes.{top_byte, word_byte}
use Rattle.jbig2_page.specs.inner.WholePages.{IsBlankPage}

pub map-same : {X : Type 0} (f g : ℕ → X) (a n : ℕ) → ((i : ℕ) → a ≤ i → i < a + n → f i ≡ g i) → map f (range_with_len a n) ≡ map g (range_with_len a n)
map-same f g a zero same = refl
map-same f g a (suc n) same = rw (same a (omega arith) (omega arith)) (ap (λ xs. g a ∷ xs) (map-same f g (a + 1) n (λ i above below. same i (omega arith) (omega arith))))

by_eights : (m : ℕ) → m < 256
    → m ≡ m / 2 ^ 7 % 2 * 2 ^ 7 + (m / 2 ^ 6 % 2 * 2 ^ 6 + (m / 2 ^ 5 % 2 * 2 ^ 5 + (m / 2 ^ 4 % 2 * 2 ^ 4 + (m / 2 ^ 3 % 2 * 2 ^ 3 + (m / 2 ^ 2 % 2 * 2 ^ 2 + (m / 2 ^ 1 % 2 * 2 ^ 1 + (m / 2 ^ 0 % 2 * 2 ^ 0 + 0)))))))
by_eights m small = omega (arith, small)

-- the highest byte of a word is what its bits spell
pub byte-bits : (n : ℕ) → n < 2 ^ 64 → n / 2 ^ 56 ≡ top_byte (bit n)
unfolding value_of_bits
byte-bits n small =
    let digit : (j : ℕ) → n / 2 ^ 56 / 2 ^ j % 2 ≡ bit_number (bit n (56 + j)) = λ j. sym (bit_number-bit (n / 2 ^ 56) j) ∙ ap (λ (b : Bool). bit_number b) (bit-shr n 56 j) in
    by_eights (n / 2 ^ 56) (omega (arith, small))
    ∙ rw (digit 0, digit 1, digit 2, digit 3, digit 4, digit 5, digit 6, digit 7) refl

-- byte i of a word is the highest of what is left when i bytes were taken off
pub byte-of-rest : (rest word i : ℕ) → i < 8 → ((k : ℕ) → 8 * i ≤ k → k < 64 → bit rest k ≡ bit word (k - 8 * i)) → top_byte (bit rest) ≡ word_byte (bit word) i
byte-of-rest rest word i small same =
    ap (λ (bits : List Bool). value_of_bits bits)
    (map-same (λ j. bit rest (63 - (8 * 0 + j))) (λ j. bit word (63 - (8 * i + j))) 0 8
    (λ j above below.
    let place : 63 - (8 * 0 + j) - 8 * i ≡ 63 - (8 * i + j) = omega arith in
    same (63 - (8 * 0 + j)) (omega (arith, small, below)) (omega arith) ∙ ap (λ (n : ℕ). bit word n) place))

-- it is the byte of the pixels that the word holds
pub byte-pixels : (g : Grid) (word column i y : ℕ) → i < 8 → ((j : ℕ) → j < 64 → bit word (63 - j) ≡ pixel_at g (8 * column + j) y) → word_byte (bit word) i ≡ packed_byte g (column + i) y
unfolding packed_byte
byte-pixels g word column i y small same =
    ap (λ (bits : List Bool). value_of_bits bits)
    (map-same (λ j. bit word (63 - (8 * i + j))) (λ j. pixel_at g (8 * (column + i) + j) y) 0 8
    (λ j above below.
    let place : 8 * column + (8 * i + j) ≡ 8 * (column + i) + j = omega arith in
    same (8 * i + j) (omega (arith, small, below)) ∙ ap (λ (n : ℕ). pixel_at g n y) place))

-- byte j of a word of a row that begins at byte `column` from word `first` on
pub row-word-byte : (g : Grid) (words : List ℕ) (first index column y j : ℕ) → 8 * first ≡ column → first + index < length words → j < 8
    → ((i k : ℕ) → i < length words → k < 64 → bit (get_or words i 0) (63 - k) ≡ pixel_at g (64 * i + k) y)
    → word_byte (bit (get_or words (first + index) 0)) j ≡ packed_byte g (column + (8 * index + j)) y
row-word-byte g words first index column y j at inside small loaded =
    let place : 8 * (first + index) + j ≡ column + (8 * index + j) = omega (arith, at) in
    let pixels : 64 * (first + index) ≡ 8 * (8 * (first + index)) = omega arith in
    byte-pixels g (get_or words (first + index) 0) (8 * (first + index)) j y small (λ k few. loaded (first + index) k inside few ∙ ap (λ (n : ℕ). pixel_at g (n + k) y) pixels)
    ∙ ap (λ (n : ℕ). packed_byte g n y) place

-- some bytes of a word more of them
pub words-part : (g : Grid) (words before after : List ℕ) (first index column y place part : ℕ) → part ≤ 8 → 8 * first ≡ column → first + index < length words
    → ((i k : ℕ) → i < length words → k < 64 → bit (get_or words i 0) (63 - k) ≡ pixel_at g (64 * i + k) y)
    → ((i : ℕ) → i < 8 * index → get_or before (place + i) 0 ≡ packed_byte g (column + i) y)
    → ((k : ℕ) → k < place + 8 * index → get_or after k 0 ≡ get_or before k 0)
    → ((j : ℕ) → j < part → get_or after (place + 8 * index + j) 0 ≡ word_byte (bit (get_or words (first + index) 0)) j)
    → (i : ℕ) → i < 8 * index + part → get_or after (place + i) 0 ≡ packed_byte g (column + i) y
words-part g words before after first index column y place part few at inside loaded written kept put i below =
    ⊎_elim
    (λ (early : i < 8 * index). kept (place + i) (omega (arith, early)) ∙ written i early)
    (λ (late : 8 * index ≤ i).
    let j : ℕ = i - 8 * index in
    let small : j < part = omega (arith, late, below) in
    let there : place + 8 * index + j ≡ place + i = omega (arith, late) in
    let byte : 8 * index + j ≡ i = omega (arith, late) in
    ap (λ (n : ℕ). get_or after n 0) (sym there) ∙ put j small ∙ row-word-byte g words first index column y j at inside (omega (arith, small, few)) loaded ∙ ap (λ (n : ℕ). packed_byte g (column + n) y) byte)
    (cases_lt i (8 * index))

-- a page on which nothing was drawn
white-pixel : (g : Grid) → IsBlankPage false g → (x y : ℕ) → pixel_at g x y ≡ false
white-pixel g is_blank x y =
    ⊎_elim
    (λ (left : x < g.width).
    ⊎_elim
    (λ (above : y < g.height). ap (λ (h : Grid). pixel_at h x y) is_blank.blank ∙ pixel_at-grid_of g.width g.height (λ i j. false) x y left above)
    (λ (below : g.height ≤ y). pixel_at-below g x y below)
    (cases_lt y g.height))
    (λ (right : g.width ≤ x). pixel_at-right g x y right)
    (cases_lt x g.width)

white-byte : (g : Grid) (k y : ℕ) → IsBlankPage false g → packed_byte g k y ≡ 0
unfolding packed_byte value_of_bits
white-byte g k y is_blank = ap (λ (bits : List Bool). value_of_bits bits) (map-same (λ i. pixel_at g (8 * k + i) y) (λ i. false) 0 8 (λ i above below. white-pixel g is_blank (8 * k + i) y))

zeros : (a n : ℕ) → map {B = ℕ} (λ (k : ℕ). 0) (range_with_len a n) ≡ replicate n 0
zeros a zero = refl
zeros a (suc n) = ap (λ (xs : List ℕ). 0 ∷ xs) (zeros (a + 1) n)

pub white-part : (w : ℕ) (g : Grid) (start count : ℕ) → IsBlankPage false g → packed_part w g start count ≡ replicate count 0
unfolding packed_part
white-part w g start count is_blank = map-same (λ n. packed_byte g (n % row_bytes w) (n / row_bytes w)) (λ n. 0) start count (λ n above below. white-byte g (n % row_bytes w) (n / row_bytes w) is_blank) ∙ zeros start count

-- a function's values from s on
pub values-from : (f : ℕ → ℕ) (s a n : ℕ) → map (λ k. f (s + k)) (range_with_len a n) ≡ map f (range_with_len (s + a) n)
values-from f s a zero = refl
values-from f s a (suc n) = ap (λ (xs : List ℕ). f (s + a) ∷ xs) (values-from f s (a + 1) n ∙ ap (λ (m : ℕ). map f (range_with_len m n)) (omega arith))

values-dropped : (f : ℕ → ℕ) (s a n : ℕ) → s ≤ n → drop s (map f (range_with_len a n)) ≡ map f (range_with_len (s + a) (n - s))
values-dropped f zero a n within = ap (λ (m : ℕ). map f (range_with_len m n)) (omega arith) ∙ ap (λ (m : ℕ). map f (range_with_len (0 + a) m)) (omega arith)
values-dropped f (suc s) a zero within = absurd (omega (arith, within))
values-dropped f (suc s) a (suc n) within =
    values-dropped f s (a + 1) n (omega (arith, within))
    ∙ ap (λ (m : ℕ). map f (range_with_len m (n - s))) (omega arith)
    ∙ ap (λ (m : ℕ). map f (range_with_len (suc s + a) m)) (omega arith)

pub packed-length : (w height : ℕ) (g : Grid) → length (packed_of w height g) ≡ packed_size w height
unfolding packed_of packed_part
packed-length w height g = length-map-range_with_len (λ n. packed_byte g (n % row_bytes w) (n / row_bytes w)) 0 (packed_size w height)

-- the bytes of a part are those of the whole from its place on
pub part-of-whole : (w height : ℕ) (g : Grid) (start count : ℕ) → start + count ≤ packed_size w height → packed_part w g start count ≡ take count (drop start (packed_of w height g))
unfolding packed_part packed_of
part-of-whole w height g start count within =
    let f : ℕ → ℕ = λ n. packed_byte g (n % row_bytes w) (n / row_bytes w) in
    let size : ℕ = packed_size w height in
    let place : start + 0 ≡ start = omega arith in
    sym
    (ap (λ (xs : List ℕ). take count xs) (values-dropped f start 0 size (omega (arith, within)))
    ∙ take-map-range_with_len f (start + 0) (size - start) count (omega (arith, within))
    ∙ ap (λ (m : ℕ). map f (range_with_len m count)) place)

pub rows-bounded : (w height bytes : ℕ) → height ≤ 4294967295 → bytes ≤ packed_size w height → bytes ≤ row_bytes w * 4294967295
rows-bounded w height bytes low few = omega (arith, few, mul-le-mul_left (row_bytes w) low)

-- what a page is drawn as has the size of its packed rows
drawn-size : (drawn : Result Grid DecodeError) (w height : ℕ) (bytes : List ℕ) → (drawn >>= λ g. Ok (packed_of w height g)) ≡ Ok bytes → length bytes ≡ packed_size w height
drawn-size (Ok g) w height bytes is = ap {B = ℕ} (λ (r : Result (List ℕ) DecodeError). elim r [ Ok xs ↦ length xs | Err error ↦ 0 ]) (sym is) ∙ packed-length w height g
drawn-size (Err error) w height bytes is = absurd (omega (arith, ap {B = ℕ} (λ (r : Result (List ℕ) DecodeError). elim r [ Ok xs ↦ 1 | Err e ↦ 0 ]) is))

pub page-size : (page : ReadPage) (bytes : List ℕ) → packed_of_page page ≡ Ok bytes → length bytes ≡ packed_size page.initial_page.width page.initial_page.height
page-size page bytes is = drawn-size (grid_of_page page) page.initial_page.width page.initial_page.height bytes is
