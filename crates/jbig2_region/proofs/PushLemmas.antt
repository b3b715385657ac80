-- Pixels that are decoded into a number and then stored.
use Rattle.std.proofs.Common.{subst, pos, negsuc, ℤ, ◌-ℤ◌, ◌<ℤ◌, ◌≡◌, ℕ, ◌+◌, ◌-◌, ◌*◌, ◌%◌, ◌^◌, ◌<◌, ◌≤◌, false, ◌&&◌, cond, eqb, ltb, leb, min, List, None, refl, sym, ap, ◌∙◌, ⊎_elim, arith}
use Rattle.std.proofs.lemmas.Bool.{cases_eq, cases_lt, cond-true, cond-false}
use Rattle.std.proofs.lemmas.Int.{ints}
use Rattle.std.proofs.Math.Nat.{pow-le-pow_right}
use Rattle.std.proofs.lemmas.Nat.{mul-add-lt, pow-add, pow_pos}
use Rattle.jbig2_base.specs.Grid.{Grid, pixel, pixel_at}
use Rattle.jbig2_base.specs.Bits.{bit}
use Rattle.jbig2_base.specs.Writes.{with_pixels}
use Rattle.jbig2_base.proofs.BitLemmas.{bit-shl_high, bit-shl_low}
use Rattle.jbig2_base.proofs.GridLemmas.{grid_of-ext, pixel_at-right}
use Rattle.jbig2_base.proofs.WriteLemmas.{in_field, before_field, after_field, other_row}
use Rattle.jbig2_coder.specs.Coder.{Coder, Context}
use Rattle.jbig2_region.specs.Raster.{Region, after_ltp}
use Rattle.jbig2_region.specs.inner.RegionStates.{BeginsRow, HasDecoded, region_state}
use Rattle.jbig2_region.specs.inner.PushedPixels.{IsAtPixels, IsAtRow}
use Rattle.jbig2_region.specs.inner.Neighbours.{SameAbove}
use Rattle.jbig2_region.specs.declared.generic_kernel.windows.Windows.{Windows}
use Rattle.jbig2_region.proofs.RegisterLemmas.{bit-low, bit-placed, left-few}
use Rattle.jbig2_region.proofs.StoreLemmas.{left-none, stored-above, stored-before, stored-inside, stored-outside}
use Rattle.jbig2_region.proofs.WindowLemmas.{pixel-inside, same-above, shows-less, shows-same, window-first, window-none}
use Rattle.jbig2_region.specs.inner.Windows.{IsLeft, Shows, ShowsRun}

-- n pixels and m more are n + m pixels
pub stored-then : (g : Grid) (x y n m a b : ℕ) → b < 2 ^ m → x + n ≤ g.width → y < g.height → with_pixels (with_pixels g x y n a) (x + n) y m b ≡ with_pixels g x y (n + m) (a * 2 ^ m + b)
stored-then g x y n m a b small wide above =
    let old : Grid = with_pixels g x y n a in
    let order : a * 2 ^ m + b ≡ b + a * 2 ^ m = omega arith in
    grid_of-ext g.width g.height (λ i j. cond (eqb j y && leb (x + n) i && ltb i (x + n + m)) (bit b (x + n + m - 1 - i)) (pixel_at old i j)) (λ i j. cond (eqb j y && leb x i && ltb i (x + (n + m))) (bit (a * 2 ^ m + b) (x + (n + m) - 1 - i)) (pixel_at g i j))
    (λ i j il jl.
    ⊎_elim
    (λ (row : j ≡ y).
    rw row (
    ⊎_elim
    (λ (before : i < x + n).
    cond-false _ (bit b (x + n + m - 1 - i)) (pixel_at old i y) (before_field (x + n) y m i y before)
    ∙ ⊎_elim
    (λ (out : i < x). stored-before g x y n a i out ∙ sym (cond-false _ (bit (a * 2 ^ m + b) (x + (n + m) - 1 - i)) (pixel_at g i y) (before_field x y (n + m) i y out)))
    (λ (low : x ≤ i).
    let place : x + (n + m) - 1 - i ≡ m + (x + n - 1 - i) = omega arith in
    stored-inside g x y n a i low before wide above
    ∙ sym (cond-true _ (bit (a * 2 ^ m + b) (x + (n + m) - 1 - i)) (pixel_at g i y) (in_field x y (n + m) i y refl low (omega arith))
    ∙ ap (λ (k : ℕ). bit (a * 2 ^ m + b) k) place ∙ ap (λ (k : ℕ). bit k (m + (x + n - 1 - i))) order ∙ bit-placed b a m (x + n - 1 - i) small))
    (cases_lt i x))
    (λ (more : x + n ≤ i).
    ⊎_elim
    (λ (inside : i < x + n + m).
    let place : x + (n + m) - 1 - i ≡ x + n + m - 1 - i = omega arith in
    cond-true _ (bit b (x + n + m - 1 - i)) (pixel_at old i y) (in_field (x + n) y m i y refl more inside)
    ∙ sym (cond-true _ (bit (a * 2 ^ m + b) (x + (n + m) - 1 - i)) (pixel_at g i y) (in_field x y (n + m) i y refl (omega arith) (omega arith))
    ∙ ap (λ (k : ℕ). bit (a * 2 ^ m + b) k) place ∙ ap (λ (k : ℕ). bit k (x + n + m - 1 - i)) order ∙ bit-low b a m (x + n + m - 1 - i) (omega arith)))
    (λ (past : x + n + m ≤ i).
    cond-false _ (bit b (x + n + m - 1 - i)) (pixel_at old i y) (after_field (x + n) y m i y past) ∙ stored-outside g x y n a i y (after_field x y n i y (omega arith))
    ∙ sym (cond-false _ (bit (a * 2 ^ m + b) (x + (n + m) - 1 - i)) (pixel_at g i y) (after_field x y (n + m) i y (omega arith))))
    (cases_lt i (x + n + m)))
    (cases_lt i (x + n))
    ))
    (λ (other : j ≡ y → ⊥).
    cond-false _ (bit b (x + n + m - 1 - i)) (pixel_at old i j) (other_row (x + n) y m i j other) ∙ stored-outside g x y n a i j (other_row x y n i j other)
    ∙ sym (cond-false _ (bit (a * 2 ^ m + b) (x + (n + m) - 1 - i)) (pixel_at g i j) (other_row x y (n + m) i j other)))
    (cases_eq j y))

-- the same of a row
pub stored-next : (g : Grid) (y n m k a b : ℕ) → b < 2 ^ m → k ≡ n + m → k ≤ g.width → y < g.height → with_pixels (with_pixels g 0 y n a) n y m b ≡ with_pixels g 0 y k (a * 2 ^ m + b)
stored-next g y n m k a b small sum wide above =
    let place : 0 + n ≡ n = omega arith in
    ap (λ (x : ℕ). with_pixels (with_pixels g 0 y n a) x y m b) (sym place) ∙ stored-then g 0 y n m a b small (omega arith) above ∙ ap (λ (i : ℕ). with_pixels g 0 y i (a * 2 ^ m + b)) (sym sum)

-- the same of bytes
pub stored-bytes : (g : Grid) (x y done n a b : ℕ) → b < 2 ^ (8 * n) → x + 8 * done ≤ g.width → y < g.height → with_pixels (with_pixels g x y (8 * done) a) (x + 8 * done) y (8 * n) b ≡ with_pixels g x y (8 * (done + n)) (a * 2 ^ (8 * n) + b)
stored-bytes g x y done n a b small wide above =
    let sum : 8 * done + 8 * n ≡ 8 * (done + n) = omega arith in
    stored-then g x y (8 * done) (8 * n) a b small wide above ∙ ap (λ (i : ℕ). with_pixels g x y i (a * 2 ^ (8 * n) + b)) sum

pub few-next : (a b n m k : ℕ) → a < 2 ^ n → b < 2 ^ m → k ≡ n + m → a * 2 ^ m + b < 2 ^ k
few-next a b n m k few small sum =
    let all : 2 ^ m * 2 ^ n ≡ 2 ^ k = omega (arith, pow-add 2 n m, ap (λ (i : ℕ). 2 ^ i) sum) in
    let below : a * 2 ^ m + b < 2 ^ m * 2 ^ n = mul-add-lt a (2 ^ m) b (2 ^ n) few small in
    omega arith

-- `1 << count`
pub one-shifted : (count : ℕ) → count ≤ 16 → 1 * 2 ^ count % 2 ^ 64 ≡ 2 ^ count
one-shifted count few =
    let small : 2 ^ count ≤ 2 ^ 16 = pow-le-pow_right (omega arith) few in
    omega arith

-- a row's number fits a word
pub row-fits : (a b n m k : ℕ) → a < 2 ^ n → b < 2 ^ m → k ≡ n + m → m ≤ 16 → k ≤ 48 → a * (1 * 2 ^ m % 2 ^ 64) + b < 2 ^ 48
row-fits a b n m k few small sum low within =
    let below : a * 2 ^ m + b < 2 ^ k = few-next a b n m k few small sum in
    let most : 2 ^ k ≤ 2 ^ 48 = pow-le-pow_right (omega arith) within in
    rw (one-shifted m low) (omega arith)

-- ---- the pixels at the left
-- the columns before a field are as they were, also left of all
same-before : (g : Grid) (x y m b : ℕ) (X : ℤ) → X <ℤ pos x → pixel (with_pixels g x y m b) X (pos y) ≡ pixel g X (pos y)
same-before g x y m b (pos i) less = stored-before g x y m b i (omega (arith, ints))
same-before g x y m b (negsuc i) less = refl

-- the pixels left of the next column are those that were stored last
stored-bit : (g : Grid) (x y m b k : ℕ) → k < m → x + m ≤ g.width → y < g.height → bit b k ≡ pixel (with_pixels g x y m b) (pos (x + m) -ℤ pos (k + 1)) (pos y)
stored-bit g x y m b k new wide above =
    let column : pos (x + m) -ℤ pos (k + 1) ≡ pos (x + (m - 1 - k)) = omega (arith, ints) in
    let place : x + m - 1 - (x + (m - 1 - k)) ≡ k = omega arith in
    sym (pixel-inside (with_pixels g x y m b) (pos (x + m) -ℤ pos (k + 1)) (pos y) (x + (m - 1 - k)) y column refl
    ∙ stored-inside g x y m b (x + (m - 1 - k)) (omega arith) (omega arith) wide above ∙ ap (λ (n : ℕ). bit b n) place)

pub left-stored : (g : Grid) (x y m b : ℕ) → 4 ≤ m → x + m ≤ g.width → y < g.height → IsLeft (with_pixels g x y m b) (x + m) y (b % 16)
left-stored g x y m b some wide above = left-few (with_pixels g x y m b) (x + m) y b (λ k inside. stored-bit g x y m b k (omega arith) wide above)

-- m pixels more, after those that were at the left
left-after : (g : Grid) (x y m left b : ℕ) → b < 2 ^ m → x + m ≤ g.width → y < g.height → IsLeft g x y left → IsLeft (with_pixels g x y m b) (x + m) y (left * 2 ^ m + b)
left-after g x y m left b small wide above before = λ k inside.
    let order : left * 2 ^ m + b ≡ b + left * 2 ^ m = omega arith in
    ap (λ (n : ℕ). bit n k) order
    ∙ ⊎_elim
    (λ (new : k < m). bit-low b left m k new ∙ stored-bit g x y m b k new wide above)
    (λ (old : m ≤ k).
    let place : m + (k - m) ≡ k = omega arith in
    let column : pos (x + m) -ℤ pos (k + 1) ≡ pos x -ℤ pos (k - m + 1) = omega (arith, ints) in
    ap (λ (n : ℕ). bit (b + left * 2 ^ m) n) (sym place) ∙ bit-placed b left m (k - m) small ∙ before (k - m) (omega arith)
    ∙ sym (same-before g x y m b (pos x -ℤ pos (k - m + 1)) (omega (arith, ints)))
    ∙ ap (λ (X : ℤ). pixel (with_pixels g x y m b) X (pos y)) (sym column))
    (cases_lt k m)

-- after this many bytes of a row
left-bytes : (g : Grid) (y done b : ℕ) → b < 2 ^ (8 * done) → 8 * done ≤ g.width → y < g.height → IsLeft (with_pixels g 0 y (8 * done) b) (8 * done) y b
left-bytes g y done b small wide above =
    let column : 0 + 8 * done ≡ 8 * done = omega arith in
    let number : 0 * 2 ^ (8 * done) + b ≡ b = omega arith in
    subst (λ (n : ℕ). IsLeft (with_pixels g 0 y (8 * done) b) (8 * done) y n) number
    (subst (λ (n : ℕ). IsLeft (with_pixels g 0 y (8 * done) b) n y (0 * 2 ^ (8 * done) + b)) column
    (left-after g 0 y (8 * done) 0 b small (omega arith) above (left-none g y)))

-- at a place of a row, the next byte is the next of its pixels
pub at_pixels-next : (g : Grid) (y width done count b : ℕ) (w v : Windows) → IsAtRow g y width w → b < 2 ^ (8 * done) → 8 * done + count ≤ width → done ≤ 5
    → Shows g (8 * done) y (64 - 8 * done) v → IsAtPixels (with_pixels g 0 y (8 * done) b) (8 * done) y count (b % 16) v
at_pixels-next g y width done count b w v row small within few shows = record {
  columns = omega (arith, row.wide);
  row = row.row;
  shows = shows-same g (with_pixels g 0 y (8 * done) b) (8 * done) y 20 v (stored-above g 0 y (8 * done) b) (shows-less g (8 * done) y (64 - 8 * done) 20 v (omega arith) shows);
  beside = left-few (with_pixels g 0 y (8 * done) b) (8 * done) y b (left-bytes g y done b small (omega (arith, row.wide)) row.row);
}

-- ---- windows from row to row
pub shows-first : (g : Grid) (w : Windows) → w.above ≡ 0 → w.top ≡ 0 → Shows g 0 0 64 w
shows-first g w above top = record {
  above = rw above (window-none g 0 0 1 64 (omega arith));
  top = rw top (window-none g 0 0 2 64 (omega arith));
}

pub shows-lowered : (g g' : Grid) (y width pixels : ℕ) (w v : Windows) → 1 ≤ width → width ≤ 48 → pixels < 2 ^ width → v.above ≡ pixels * 2 ^ (56 - width) % 2 ^ 64 → v.top ≡ w.above → g'.width ≡ width → SameAbove g g' y
    → ((k : ℕ) → k < width → bit pixels (width - 1 - k) ≡ pixel_at g' k y) → Shows g 0 y 64 w → Shows g' 0 (y + 1) 64 v
shows-lowered g g' y width pixels w v some few small is_above is_top wide same bits shows = record {
  above =
      rw is_above
      (window-first g' (pixels * 2 ^ (56 - width) % 2 ^ 64) (pos (y + 1) -ℤ pos 1) (λ k inside.
      let row : pos (y + 1) -ℤ pos 1 ≡ pos y = omega (arith, ints) in
      let here : bit (pixels * 2 ^ (56 - width) % 2 ^ 64) (56 - 1 - k) ≡ pixel_at g' (0 + k) y =
      ⊎_elim
      (λ (left : k < width).
      let place : 56 - 1 - k - (56 - width) ≡ width - 1 - k = omega arith in
      let column : k ≡ 0 + k = omega arith in
      bit-shl_high pixels (56 - width) 64 (56 - 1 - k) (omega arith) (omega arith) ∙ ap (λ (n : ℕ). bit pixels n) place ∙ bits k left ∙ ap (λ (n : ℕ). pixel_at g' n y) column)
      (λ (right : width ≤ k).
      bit-shl_low pixels (56 - width) 64 (56 - 1 - k) (omega arith) (omega arith) ∙ sym (pixel_at-right g' (0 + k) y (omega (arith, wide))))
      (cases_lt k width) in
      here ∙ sym (pixel-inside g' (pos (0 + k)) (pos (y + 1) -ℤ pos 1) (0 + k) y refl row))
      fits);
  top =
      rw is_top (λ k inside.
      let row : pos y -ℤ pos 1 ≡ pos (y + 1) -ℤ pos 2 = omega (arith, ints) in
      shows.above k inside ∙ same-above g g' (pos (0 + k) -ℤ pos 8) y 1 (omega arith) same ∙ ap (λ (z : ℤ). pixel g' (pos (0 + k) -ℤ pos 8) z) row);
}
  where
    fits : pixels * 2 ^ (56 - width) % 2 ^ 64 < 2 ^ 56
    fits =
        let sum : 56 - width + width ≡ 56 = omega arith in
        let all : 2 ^ (56 - width) * 2 ^ width ≡ 2 ^ 56 = sym (pow-add 2 (56 - width) width) ∙ ap (λ (n : ℕ). 2 ^ n) sum in
        let below : pixels * 2 ^ (56 - width) + 0 < 2 ^ (56 - width) * 2 ^ width = mul-add-lt pixels (2 ^ (56 - width)) 0 (2 ^ width) small (pow_pos (56 - width)) in
        omega arith

-- windows about one column serve a test of one byte
pub shows-run : (g : Grid) (x y : ℕ) (w : Windows) → Shows g x y 20 w → ShowsRun g x y 1 (record { first = w; second = w })
shows-run g x y w shows = record { first = shows-less g x y 20 (8 * min 1 4 + 12) w (omega arith) shows; second = λ more. absurd (omega arith) }

-- a test that takes nothing leaves the coder as it is
pub no-run : (d d' : Coder) (n qe : ℕ) → n ≡ 0 → d' ≡ record d { registers = record d.registers { a = d.registers.a - 8 * n * qe } } → d' ≡ d
no-run d d' n qe none is =
    let same : d.registers.a - 8 * n * qe ≡ d.registers.a = rw none (omega arith) in
    is ∙ ap (λ (a : ℕ). let made : Coder = record d { registers = record d.registers { a = a } } in made) same

-- a row that no decision begins
pub begins-plain : (w h : ℕ) (g : Grid) (r : Region) (c : Coder) (s : List Context) → r.predicted ≡ false → HasDecoded w h c.bytes r (region_state g c s) → BeginsRow w h None r false c (region_state g c s)
unfolding after_ltp
begins-plain w h g r c s is has_decoded = record { has_decoded = has_decoded; predicted = is }
