-- Bits of bytes that are joined, and rows that are written from them.
use Rattle.std.proofs.Common.{◌≡◌, ℕ, ◌+◌, ◌-◌, ◌*◌, ◌/◌, ◌%◌, ◌^◌, ◌<◌, ◌≤◌, Bool, true, false, cond, ◌||◌, nat_lt, List, get_or, min, Result, Ok, sym, ◌∙◌, ap, arith, ⊎_elim}
use Rattle.std.proofs.Math.Nat.{pow-le-pow_right, mul-le-mul_right}
use Rattle.std.proofs.lemmas.Bool.{cases_lt}
use Rattle.std.proofs.lemmas.Nat.{pow-add}
use Rattle.jbig2_base.specs.Bits.{bit}
use Rattle.jbig2_base.specs.Counts.{words_made}
use Rattle.jbig2_base.specs.Grid.{Grid, blank, blank_or_overflow, max_side}
use Rattle.jbig2_base.specs.Results.{Gives}
use Rattle.jbig2_base.specs.Writes.{with_pixels}
use Rattle.jbig2_base.specs.declared.error.DecodeError.{DecodeError}
use Rattle.jbig2_base.specs.inner.GridsBefore.{grid_before}
use Rattle.jbig2_base.proofs.BitLemmas.{bit-mod, bit-shr}
use Rattle.jbig2_base.proofs.FillLemmas.{filled-store, white-made}
use Rattle.jbig2_page.specs.Image.{row_bytes}
use Rattle.jbig2_writer.specs.Packed.{packed_pixel}

-- ---- bytes
byte-high : (n b m : ℕ) → b < 256 → bit (n * 256 + b) (8 + m) ≡ bit n m
byte-high n b m small =
    let half : (n * 256 + b) / 2 ^ 8 ≡ n = omega (arith, small) in
    sym (bit-shr (n * 256 + b) 8 m) ∙ ap (λ (k : ℕ). bit k m) half

byte-low : (n b m : ℕ) → b < 256 → m < 8 → bit (n * 256 + b) m ≡ bit b m
byte-low n b m small low =
    let rest : (n * 256 + b) % 2 ^ 8 ≡ b = omega (arith, small) in
    sym (bit-mod (n * 256 + b) 8 m low) ∙ ap (λ (k : ℕ). bit k m) rest

-- what a row's bytes have from `first` on
abbrev pub bits_from : List ℕ → ℕ → ℕ → Bool
bits_from rows first k = bit (get_or rows (first + k / 8) 0) (7 - k % 8)

pub byte-more : (rows : List ℕ) (first n b index : ℕ) → b < 256 → b ≡ get_or rows (first + index) 0 → ((k : ℕ) → k < 8 * index → bit n (8 * index - 1 - k) ≡ bits_from rows first k)
    → (k : ℕ) → k < 8 * (index + 1) → bit (n * 256 + b) (8 * (index + 1) - 1 - k) ≡ bits_from rows first k
byte-more rows first n b index small is_b before k inside = ⊎_elim
    (λ (old : k < 8 * index).
    let place : 8 * (index + 1) - 1 - k ≡ 8 + (8 * index - 1 - k) = omega (arith, old) in
    ap (λ (m : ℕ). bit (n * 256 + b) m) place ∙ byte-high n b (8 * index - 1 - k) small ∙ before k old)
    (λ (new : 8 * index ≤ k).
    let at : k / 8 ≡ index = omega (arith, new, inside) in
    let within : 8 * (index + 1) - 1 - k ≡ 7 - k % 8 = omega (arith, new, inside) in
    ap (λ (m : ℕ). bit (n * 256 + b) m) within ∙ byte-low n b (7 - k % 8) small (omega arith)
    ∙ ap (λ (m : ℕ). bit m (7 - k % 8)) is_b ∙ ap (λ (m : ℕ). bit (get_or rows (first + m) 0) (7 - k % 8)) (sym at))
    (cases_lt k (8 * index))

-- there is room for a byte more
pub byte-room : (n b index : ℕ) → n < 2 ^ (8 * index) → index < 8 → b < 256 → n * 256 + b < 2 ^ 64
byte-room n b index below few small =
    let most : 8 * index ≤ 56 = omega (arith, few) in
    let all : 2 ^ (8 * index) ≤ 2 ^ 56 = pow-le-pow_right (omega arith) most in
    omega (arith, below, all, small)

pub byte-bound : (n b index : ℕ) → n < 2 ^ (8 * index) → b < 256 → n * 256 + b < 2 ^ (8 * (index + 1))
byte-bound n b index below small =
    let next : 2 ^ (8 * (index + 1)) ≡ 2 ^ (8 * index) * 2 ^ 8 = ap (λ (k : ℕ). 2 ^ k) (let e : 8 * (index + 1) ≡ 8 * index + 8 = omega arith in e) ∙ pow-add 2 (8 * index) 8 in
    omega (arith, below, next, small)

-- the first pixels of these bytes
pub bytes-cut : (rows : List ℕ) (first n bytes count : ℕ) → count ≤ 8 * bytes → ((k : ℕ) → k < 8 * bytes → bit n (8 * bytes - 1 - k) ≡ bits_from rows first k)
    → (k : ℕ) → k < count → bit (n / 2 ^ (8 * bytes - count)) (count - 1 - k) ≡ bits_from rows first k
bytes-cut rows first n bytes count all each k inside =
    let place : 8 * bytes - count + (count - 1 - k) ≡ 8 * bytes - 1 - k = omega (arith, all, inside) in
    bit-shr n (8 * bytes - count) (count - 1 - k) ∙ ap (λ (m : ℕ). bit n m) place ∙ each k (omega (arith, all, inside))

-- ---- rows
pub word-inside : (w h y word count size : ℕ) → size ≡ row_bytes w * h → y < h → 64 * word < w → count ≡ min (w - 64 * word) 64
    → y * ((w + 7) / 8) + 8 * word + (count + 7) / 8 ≤ size
word-inside w h y word count size is_size above inside few =
    let rows : (y + 1) * row_bytes w ≤ h * row_bytes w = mul-le-mul_right (row_bytes w) (omega (arith, above)) in
    omega (arith, rows, is_size, inside, few)

pub word-written : (rows : List ℕ) (w h y word count pixels : ℕ) (before after : Grid) → y < h → 64 * word < w → count ≡ min (w - 64 * word) 64
    → ((k : ℕ) → k < count → bit pixels (count - 1 - k) ≡ bits_from rows (y * ((w + 7) / 8) + 8 * word) k)
    → before ≡ grid_before w h (packed_pixel w rows) y (min w (64 * word)) → after ≡ with_pixels before (64 * word) y count pixels
    → after ≡ grid_before w h (packed_pixel w rows) y (min w (64 * (word + 1)))
word-written rows w h y word count pixels before after above inside few reads is_filled written =
    let f : ℕ → ℕ → Bool = packed_pixel w rows in
    let at : min w (64 * word) ≡ 64 * word = omega (arith, inside) in
    let next : 64 * word + count ≡ min w (64 * (word + 1)) = omega (arith, inside, few) in
    filled-store w h f y (64 * word) count pixels before after (omega (arith, inside, few)) above
    (λ k below.
    let byte : y * ((w + 7) / 8) + 8 * word + k / 8 ≡ y * row_bytes w + (64 * word + k) / 8 = omega arith in
    let place : 7 - k % 8 ≡ 7 - (64 * word + k) % 8 = omega arith in
    reads k below ∙ (λ i. bit (get_or rows (byte i) 0) (place i)))
    (is_filled ∙ ap (λ (x : ℕ). grid_before w h f y x) at)
    written
    ∙ ap (λ (x : ℕ). grid_before w h f y x) next

pub made-white : {X : Type 0} (view : X → Grid) (r : Result X DecodeError) (x : X) (w h : ℕ) → r ≡ Ok x → Gives view r (blank_or_overflow w h false) → view x ≡ blank w h false
made-white view r x w h is given = (white-made w h false (view x) (rw is at given)).1

-- the words that a bitmap is made with
pub made-few : (w h : ℕ) → words_made w h ≤ (w + 63) / 64 * h
unfolding words_made
made-few w h = by (nat_lt max_side w || nat_lt max_side h)
  where
    by : (b : Bool) → cond b 0 ((w + 63) / 64 * h) ≤ (w + 63) / 64 * h
    by true = omega arith
    by false = omega arith
