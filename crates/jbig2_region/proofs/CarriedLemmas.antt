-- Windows out of words that are carried along a row.
use Rattle.std.proofs.Common.{pos, negsuc, ℤ, ◌-ℤ◌, ◌≡◌, ℕ, ◌+◌, ◌-◌, ◌*◌, ◌/◌, ◌%◌, ◌^◌, ◌<◌, ◌≤◌, Bool, ◌||◌, false, bit_or, refl, sym, ap, subst, ◌∙◌, ⊎_elim, arith}
use Rattle.std.proofs.lemmas.Bool.{cases_lt}
use Rattle.std.proofs.lemmas.Int.{ints}
use Rattle.std.proofs.lemmas.Nat.{shr-shr}
use Rattle.jbig2_base.specs.Grid.{Grid, pixel}
use Rattle.jbig2_base.specs.Bits.{bit}
use Rattle.jbig2_base.proofs.BitLemmas.{bit-above, bit-or, bit-shl_high, bit-shl_low, bit-shr, bit-zero, or-false}
use Rattle.jbig2_base.proofs.GridLemmas.{pixel_at-right}
use Rattle.jbig2_region.specs.declared.generic_kernel.windows.Windows.{Windows}
use Rattle.jbig2_region.proofs.WindowLemmas.{pixel-left_of_all}
use Rattle.jbig2_region.specs.inner.Windows.{IsBefore, IsWindow, Shows, ShowsBefore}

-- `(first << count) | (second >> (64 - count))`: a bit of the first, and one of the second
joined-first : (first second count b : ℕ) → second < 2 ^ 64 → count ≤ b → b < 64 → bit (bit_or (first * 2 ^ count % 2 ^ 64) (second / 2 ^ (64 - count))) b ≡ bit first (b - count)
joined-first first second count b small high inside =
    bit-or (first * 2 ^ count % 2 ^ 64) (second / 2 ^ (64 - count)) b
    ∙ or-false (bit (first * 2 ^ count % 2 ^ 64) b) (bit (second / 2 ^ (64 - count)) b) (bit-shr second (64 - count) b ∙ bit-above second 64 (64 - count + b) small (omega arith))
    ∙ bit-shl_high first count 64 b high inside

joined-second : (first second count b : ℕ) → b < count → count ≤ 64 → bit (bit_or (first * 2 ^ count % 2 ^ 64) (second / 2 ^ (64 - count))) b ≡ bit second (64 - count + b)
joined-second first second count b low few =
    bit-or (first * 2 ^ count % 2 ^ 64) (second / 2 ^ (64 - count)) b
    ∙ ap (λ (t : Bool). t || bit (second / 2 ^ (64 - count)) b) (bit-shl_low first count 64 b low (omega arith))
    ∙ bit-shr second (64 - count) b

-- about the column itself, and about the column 32 further on
pub window-first_carried : (g : Grid) (x before here : ℕ) (row : ℤ) → here < 2 ^ 64 → IsBefore g x row before → IsWindow g (x + 8) row 64 here → IsWindow g x row 64 (bit_or (before * 2 ^ 56 % 2 ^ 64) (here / 2 ^ 8))
window-first_carried g x before here row small old new = λ k inside.
    ⊎_elim
    (λ (low : k < 8).
    let place : 63 - k - 56 ≡ 7 - k = omega arith in
    joined-first before here 56 (63 - k) small (omega arith) (omega arith) ∙ ap (λ (n : ℕ). bit before n) place ∙ old k low)
    (λ (high : 8 ≤ k).
    let place : 64 - 56 + (63 - k) ≡ 63 - (k - 8) = omega arith in
    let column : x + 8 + (k - 8) ≡ x + k = omega arith in
    joined-second before here 56 (63 - k) (omega arith) (omega arith) ∙ ap (λ (n : ℕ). bit here n) place ∙ new (k - 8) (omega arith) ∙ ap (λ (n : ℕ). pixel g (pos n -ℤ pos 8) row) column)
    (cases_lt k 8)

pub window-second_carried : (g : Grid) (x here after : ℕ) (row : ℤ) → after < 2 ^ 64 → IsWindow g (x + 8) row 64 here → IsWindow g (x + 72) row 64 after → IsWindow g (x + 32) row 64 (bit_or (here * 2 ^ 24 % 2 ^ 64) (after / 2 ^ 40))
window-second_carried g x here after row small old new = λ k inside.
    ⊎_elim
    (λ (low : k < 40).
    let place : 63 - k - 24 ≡ 63 - (k + 24) = omega arith in
    let column : x + 8 + (k + 24) ≡ x + 32 + k = omega arith in
    joined-first here after 24 (63 - k) small (omega arith) (omega arith) ∙ ap (λ (n : ℕ). bit here n) place ∙ old (k + 24) (omega arith) ∙ ap (λ (n : ℕ). pixel g (pos n -ℤ pos 8) row) column)
    (λ (high : 40 ≤ k).
    let place : 64 - 24 + (63 - k) ≡ 63 - (k - 40) = omega arith in
    let column : x + 72 + (k - 40) ≡ x + 32 + k = omega arith in
    joined-second here after 24 (63 - k) (omega arith) (omega arith) ∙ ap (λ (n : ℕ). bit after n) place ∙ new (k - 40) (omega arith) ∙ ap (λ (n : ℕ). pixel g (pos n -ℤ pos 8) row) column)
    (cases_lt k 40)

-- a word, once it lies before the column
before-moved : (g : Grid) (x here : ℕ) (row : ℤ) → IsWindow g (x + 8) row 64 here → IsBefore g (x + 64) row here
before-moved g x here row shows = λ k inside.
    let place : 7 - k ≡ 63 - (k + 56) = omega arith in
    let column : x + 8 + (k + 56) ≡ x + 64 + k = omega arith in
    ap (λ (n : ℕ). bit here n) place ∙ shows (k + 56) (omega arith) ∙ ap (λ (n : ℕ). pixel g (pos n -ℤ pos 8) row) column

pub shows-before : (g : Grid) (x y : ℕ) (w : Windows) → Shows g (x + 8) y 64 w → ShowsBefore g (x + 64) y w
shows-before g x y w shows = record { above = before-moved g x w.above (pos y -ℤ pos 1) shows.above; top = before-moved g x w.top (pos y -ℤ pos 2) shows.top }

-- left of the first column
before-none : (g : Grid) (row : ℤ) → IsBefore g 0 row 0
before-none g row = λ k inside.
    let column : pos (0 + k) -ℤ pos 8 ≡ negsuc (7 - k) = omega (arith, ints) in
    bit-zero (7 - k) ∙ sym (pixel-left_of_all g (pos (0 + k) -ℤ pos 8) row (7 - k) column)

pub shows-none_before : (g : Grid) (y : ℕ) (w : Windows) → w.above ≡ 0 → w.top ≡ 0 → ShowsBefore g 0 y w
shows-none_before g y w above top = record {
  above = subst (λ (n : ℕ). IsBefore g 0 (pos y -ℤ pos 1) n) (sym above) (before-none g (pos y -ℤ pos 1));
  top = subst (λ (n : ℕ). IsBefore g 0 (pos y -ℤ pos 2) n) (sym top) (before-none g (pos y -ℤ pos 2));
}

-- right of the last column
pixel-right : (g : Grid) (i : ℕ) (row : ℤ) → g.width ≤ i → pixel g (pos i) row ≡ false
pixel-right g i (pos j) past = pixel_at-right g i j past
pixel-right g i (negsuc j) past = refl

window-right : (g : Grid) (x : ℕ) (row : ℤ) → g.width ≤ x + 64 → IsWindow g (x + 72) row 64 0
window-right g x row past = λ k inside.
    let column : pos (x + 72 + k) -ℤ pos 8 ≡ pos (x + 64 + k) = omega (arith, ints) in
    bit-zero (63 - k) ∙ sym (ap (λ (z : ℤ). pixel g z row) column ∙ pixel-right g (x + 64 + k) row (omega arith))

pub shows-right : (g : Grid) (x y : ℕ) (w : Windows) → g.width ≤ x + 64 → w.above ≡ 0 → w.top ≡ 0 → Shows g (x + 72) y 64 w
shows-right g x y w past above top = record {
  above = subst (λ (n : ℕ). IsWindow g (x + 72) (pos y -ℤ pos 1) 64 n) (sym above) (window-right g x (pos y -ℤ pos 1) past);
  top = subst (λ (n : ℕ). IsWindow g (x + 72) (pos y -ℤ pos 2) 64 n) (sym top) (window-right g x (pos y -ℤ pos 2) past);
}

-- ---- the windows of the last byte
-- about a column of two words that stand side by side
cut-window : (g : Grid) (x word next by : ℕ) (row : ℤ) → next < 2 ^ 64 → by ≤ 56 → IsWindow g x row 64 word → IsWindow g (x + 64) row 64 next → IsWindow g (x + by) row 64 (bit_or (word * 2 ^ by % 2 ^ 64) (next / 2 ^ (64 - by)))
cut-window g x word next by row small few old new = λ k inside.
    ⊎_elim
    (λ (low : k + by < 64).
    let place : 63 - k - by ≡ 63 - (k + by) = omega arith in
    let column : x + (k + by) ≡ x + by + k = omega arith in
    joined-first word next by (63 - k) small (omega arith) (omega arith) ∙ ap (λ (n : ℕ). bit word n) place ∙ old (k + by) low ∙ ap (λ (n : ℕ). pixel g (pos n -ℤ pos 8) row) column)
    (λ (high : 64 ≤ k + by).
    let place : 64 - by + (63 - k) ≡ 63 - (k + by - 64) = omega arith in
    let column : x + 64 + (k + by - 64) ≡ x + by + k = omega arith in
    joined-second word next by (63 - k) (omega arith) (omega arith) ∙ ap (λ (n : ℕ). bit next n) place ∙ new (k + by - 64) (omega arith) ∙ ap (λ (n : ℕ). pixel g (pos n -ℤ pos 8) row) column)
    (cases_lt (k + by) 64)

-- `(word << by) | (next >> (64 - by))`
abbrev pub cut_of_words : ℕ → ℕ → ℕ → ℕ
cut_of_words word next by = bit_or (word * 2 ^ by % 2 ^ 64) (next / 2 ^ (64 - by))

pub shows-cut : (g : Grid) (x y by : ℕ) (w v r : Windows) → v.above < 2 ^ 64 → v.top < 2 ^ 64 → by ≤ 56 → r.above ≡ cut_of_words w.above v.above by → r.top ≡ cut_of_words w.top v.top by → Shows g x y 64 w → Shows g (x + 64) y 64 v → Shows g (x + by) y 64 r
shows-cut g x y by w v r a b few above top old new = record {
  above = subst (λ (n : ℕ). IsWindow g (x + by) (pos y -ℤ pos 1) 64 n) (sym above) (cut-window g x w.above v.above by (pos y -ℤ pos 1) a few old.above new.above);
  top = subst (λ (n : ℕ). IsWindow g (x + by) (pos y -ℤ pos 2) 64 n) (sym top) (cut-window g x w.top v.top by (pos y -ℤ pos 2) b few old.top new.top);
}

-- of a row of one byte
pub shows-alone : (g : Grid) (y by : ℕ) (w v r : Windows) → v.above < 2 ^ 64 → v.top < 2 ^ 64 → by ≡ 56 → r.above ≡ cut_of_words w.above v.above by → r.top ≡ cut_of_words w.top v.top by → ShowsBefore g 0 y w → Shows g 8 y 64 v → Shows g 0 y 64 r
shows-alone g y by w v r a b all above top old new = record {
  above = subst (λ (n : ℕ). IsWindow g 0 (pos y -ℤ pos 1) 64 n) (sym (above ∙ ap (λ (n : ℕ). cut_of_words w.above v.above n) all)) (window-first_carried g 0 w.above v.above (pos y -ℤ pos 1) a old.above new.above);
  top = subst (λ (n : ℕ). IsWindow g 0 (pos y -ℤ pos 2) 64 n) (sym (top ∙ ap (λ (n : ℕ). cut_of_words w.top v.top n) all)) (window-first_carried g 0 w.top v.top (pos y -ℤ pos 2) b old.top new.top);
}

-- `(next >> 8) >> (56 - by)`
pub shr-twice : (next by : ℕ) → by ≤ 56 → next / 2 ^ 8 / 2 ^ (56 - by) ≡ next / 2 ^ (64 - by)
shr-twice next by few =
    let sum : 8 + (56 - by) ≡ 64 - by = omega arith in
    shr-shr next 8 (56 - by) ∙ ap (λ (n : ℕ). next / 2 ^ n) sum
