-- Contexts of refinements and their predicted colours out of windows.
use Rattle.std.proofs.Common.{pos, negsuc, ℤ, ◌+ℤ◌, ◌-ℤ◌, ◌<ℤ◌, ◌≤ℤ◌, ◌≡◌, ℕ, ◌+◌, ◌-◌, ◌*◌, ◌/◌, ◌%◌, ◌^◌, ◌<◌, ◌≤◌, Bool, true, false, cond, None, [], ◌∷◌, ◌++◌, map, refl, sym, ap, ◌∙◌, ⊎_elim, arith}
use Rattle.std.proofs.lemmas.Bool.{cases_eq, cases_lt, eq-eqb, ne_eqb}
use Rattle.std.proofs.lemmas.Int.{ints}
use Rattle.std.proofs.lemmas.Nat.{shr-shr}
use Rattle.jbig2_base.specs.Grid.{Grid, pixel, pixel_at}
use Rattle.jbig2_base.specs.Bits.{bit, bit_number, number_of}
use Rattle.jbig2_base.proofs.BitLemmas.{bit-above, bit-shl_high, bit-shl_low, bit-shr, bit-zero, bit_number-bit}
use Rattle.jbig2_base.proofs.GridLemmas.{pixel_at-right}
use Rattle.jbig2_region.specs.Generic.{region_pixel}
use Rattle.jbig2_region.specs.Refinement.{Reference, reference_pixel, refined_context, nine, common_colour}
use Rattle.jbig2_region.specs.RefinementTemplates.{at_xy, reference_pixels, region_pixels}
use Rattle.jbig2_region.specs.inner.Neighbours.{SameAbove}
use Rattle.jbig2_region.specs.inner.RefinementWindows.{Sees, SeesRows, colour_of, context_made, corners, four_of, known_of, nine_of, three_of}
use Rattle.jbig2_region.specs.declared.refinement_kernel.windows.RefinementWindows.{RefinementWindows}
use Rattle.jbig2_region.specs.declared.template.RefinementTemplate.{RefinementTemplate}
use Rattle.jbig2_region.specs.declared.template.RefinementTemplate.TheVariants.{Template0, Template1}
use Rattle.jbig2_region.proofs.RefinementLemmas.{common-black, common-white, common-none}
use Rattle.jbig2_region.proofs.WindowLemmas.{pixel-row_negative, pixel-inside, pixel-left_of_all, same-above}
use Rattle.jbig2_region.specs.inner.Windows.{IsLeft}

-- ---- windows
pub sees-none_above : (g : Grid) (column row : ℤ) → row <ℤ pos 0 → Sees g column row 0
sees-none_above g column (pos n) less = absurd (omega (arith, ints, less))
sees-none_above g column (negsuc m) less = λ k inside. bit-zero (63 - k) ∙ sym (pixel-row_negative g (column +ℤ pos k) m)

pub sees-none_left : (g : Grid) (column row : ℤ) → column <ℤ negsuc 62 → Sees g column row 0
sees-none_left g (pos n) row less = absurd (omega (arith, ints, less))
sees-none_left g (negsuc c) row less = λ k inside.
    let place : negsuc c +ℤ pos k ≡ negsuc (c - k) = omega (arith, ints, less) in
    bit-zero (63 - k) ∙ sym (pixel-left_of_all g (negsuc c +ℤ pos k) row (c - k) place)

-- a window that begins left of the bitmap
pub sees-left : (g : Grid) (column row : ℤ) (word count r : ℕ) → column <ℤ pos 0 → negsuc 62 ≤ℤ column → pos count ≡ pos 64 +ℤ column → pos r ≡ row → ((k : ℕ) → k < count → bit word (count - 1 - k) ≡ pixel_at g (0 + k) r) → word < 2 ^ count → Sees g column row word
sees-left g (pos n) row word count r left near is_count is_row bits small = absurd (omega (arith, ints, left))
sees-left g (negsuc c) row word count r left near is_count is_row bits small = λ k inside.
    ⊎_elim
    (λ (outside : k < c + 1).
    let place : negsuc c +ℤ pos k ≡ negsuc (c - k) = omega (arith, ints) in
    bit-above word count (63 - k) small (omega (arith, ints, is_count)) ∙ sym (pixel-left_of_all g (negsuc c +ℤ pos k) row (c - k) place))
    (λ (within : c + 1 ≤ k).
    let column : negsuc c +ℤ pos k ≡ pos (0 + (k - (c + 1))) = omega (arith, ints) in
    let place : 63 - k ≡ count - 1 - (k - (c + 1)) = omega (arith, ints, is_count) in
    ap (λ (n : ℕ). bit word n) place ∙ bits (k - (c + 1)) (omega (arith, ints, is_count)) ∙ sym (pixel-inside g (negsuc c +ℤ pos k) row (0 + (k - (c + 1))) r column (sym is_row)))
    (cases_lt k (c + 1))

pub sees-inside : (g : Grid) (column row : ℤ) (word c r : ℕ) → pos c ≡ column → pos r ≡ row → ((k : ℕ) → k < 64 → bit word (64 - 1 - k) ≡ pixel_at g (c + k) r) → Sees g column row word
sees-inside g column row word c r is_column is_row bits = λ k inside.
    let place : column +ℤ pos k ≡ pos (c + k) = omega (arith, ints, is_column) in
    bits k inside ∙ sym (pixel-inside g (column +ℤ pos k) row (c + k) r place (sym is_row))

pub sees-at : (g : Grid) (column column' row row' : ℤ) (word : ℕ) → Sees g column row word → column ≡ column' → row ≡ row' → Sees g column' row' word
sees-at g column column' row row' word sees is_column is_row = λ k inside.
    sees k inside ∙ ap (λ (z : ℤ). pixel g (z +ℤ pos k) row) is_column ∙ ap (λ (z : ℤ). pixel g (column' +ℤ pos k) z) is_row

-- the window on a row whose pixels are the lowest bits of a number
pub sees-row : (g : Grid) (y width pixels : ℕ) → 1 ≤ width → width ≤ 32 → g.width ≡ width → ((k : ℕ) → k < width → bit pixels (width - 1 - k) ≡ pixel_at g k y) → Sees g (negsuc 0) (pos y) (pixels * 2 ^ (64 - width) % 2 ^ 64 / 2 ^ 1)
sees-row g y width pixels some few all bits = λ k inside.
    bit-shr (pixels * 2 ^ (64 - width) % 2 ^ 64) 1 (63 - k)
    ∙ ⊎_elim
    (λ (first : k < 1).
    let column : negsuc 0 +ℤ pos k ≡ negsuc 0 = omega (arith, ints) in
    bit-above (pixels * 2 ^ (64 - width) % 2 ^ 64) 64 (1 + (63 - k)) (omega arith) (omega arith) ∙ sym (pixel-left_of_all g (negsuc 0 +ℤ pos k) (pos y) 0 column))
    (λ (later : 1 ≤ k).
    let column : negsuc 0 +ℤ pos k ≡ pos (k - 1) = omega (arith, ints) in
    ⊎_elim
    (λ (within : k - 1 < width).
    let place : 1 + (63 - k) - (64 - width) ≡ width - 1 - (k - 1) = omega arith in
    bit-shl_high pixels (64 - width) 64 (1 + (63 - k)) (omega arith) (omega arith) ∙ ap (λ (n : ℕ). bit pixels n) place ∙ bits (k - 1) within
    ∙ sym (pixel-inside g (negsuc 0 +ℤ pos k) (pos y) (k - 1) y column refl))
    (λ (after : width ≤ k - 1).
    bit-shl_low pixels (64 - width) 64 (1 + (63 - k)) (omega arith) (omega arith)
    ∙ sym (pixel-inside g (negsuc 0 +ℤ pos k) (pos y) (k - 1) y column refl ∙ pixel_at-right g (k - 1) y (omega arith)))
    (cases_lt (k - 1) width))
    (cases_lt k 1)

-- ---- three pixels of a window
pub three-bits : (n j : ℕ) → n / 2 ^ j % 8 ≡ bit_number (bit n j) + bit_number (bit n (j + 1)) * 2 + bit_number (bit n (j + 2)) * 4
three-bits n j =
    let one : n / 2 ^ (j + 1) ≡ n / 2 ^ j / 2 ^ 1 = sym (shr-shr n j 1) in
    let two : n / 2 ^ (j + 2) ≡ n / 2 ^ j / 2 ^ 2 = sym (shr-shr n j 2) in
    rw (bit_number-bit n j, bit_number-bit n (j + 1), bit_number-bit n (j + 2), one, two) (omega arith)

-- the three about the pixel that lies k columns after the second one of a window
pub three-pixels : (g : Grid) (column row : ℤ) (word k : ℕ) (l m r : Bool) → Sees g column row word → k < 32 → l ≡ pixel g (column +ℤ pos k) row → m ≡ pixel g (column +ℤ pos (k + 1)) row → r ≡ pixel g (column +ℤ pos (k + 2)) row
    → three_of word k ≡ bit_number r + bit_number m * 2 + bit_number l * 4
three-pixels g column row word k l m r sees few is_l is_m is_r =
    let at_r : 61 - k ≡ 63 - (k + 2) = omega arith in
    let at_m : 61 - k + 1 ≡ 63 - (k + 1) = omega arith in
    let at_l : 61 - k + 2 ≡ 63 - k = omega arith in
    three-bits word (61 - k)
    ∙ rw (
      ap (λ (n : ℕ). bit word n) at_r ∙ sees (k + 2) (omega arith) ∙ sym is_r,
      ap (λ (n : ℕ). bit word n) at_m ∙ sees (k + 1) (omega arith) ∙ sym is_m,
      ap (λ (n : ℕ). bit word n) at_l ∙ sees k (omega arith) ∙ sym is_l,
    )
    refl

-- three of the reference's pixels in a row
three-referred : (r : Reference) (x y word k : ℕ) (dy : ℤ) → k < 32 → Sees r.grid (pos x -ℤ r.dx +ℤ negsuc 0) (pos y -ℤ r.dy +ℤ dy) word
    → three_of word k ≡ bit_number (reference_pixel r (x + k) y (at_xy (pos 1) dy)) + bit_number (reference_pixel r (x + k) y (at_xy (pos 0) dy)) * 2 + bit_number (reference_pixel r (x + k) y (at_xy (negsuc 0) dy)) * 4
three-referred r x y word k dy few sees =
    let row : ℤ = pos y -ℤ r.dy +ℤ dy in
    let at_l : pos (x + k) -ℤ r.dx +ℤ negsuc 0 ≡ pos x -ℤ r.dx +ℤ negsuc 0 +ℤ pos k = omega (arith, ints) in
    let at_m : pos (x + k) -ℤ r.dx +ℤ pos 0 ≡ pos x -ℤ r.dx +ℤ negsuc 0 +ℤ pos (k + 1) = omega (arith, ints) in
    let at_r : pos (x + k) -ℤ r.dx +ℤ pos 1 ≡ pos x -ℤ r.dx +ℤ negsuc 0 +ℤ pos (k + 2) = omega (arith, ints) in
    three-pixels r.grid (pos x -ℤ r.dx +ℤ negsuc 0) row word k _ _ _ sees few (ap (λ (z : ℤ). pixel r.grid z row) at_l) (ap (λ (z : ℤ). pixel r.grid z row) at_m) (ap (λ (z : ℤ). pixel r.grid z row) at_r)

-- three of the region's, in the row above, which later pixels leave alone
three-above : (g g' : Grid) (x y word k : ℕ) → k < 32 → SameAbove g g' y → Sees g (pos x +ℤ negsuc 0) (pos y +ℤ negsuc 0) word
    → three_of word k ≡ bit_number (region_pixel g' (x + k) y (at_xy (pos 1) (negsuc 0))) + bit_number (region_pixel g' (x + k) y (at_xy (pos 0) (negsuc 0))) * 2 + bit_number (region_pixel g' (x + k) y (at_xy (negsuc 0) (negsuc 0))) * 4
three-above g g' x y word k few same sees =
    let row : pos y +ℤ negsuc 0 ≡ pos y -ℤ pos 1 = omega (arith, ints) in
    let at_l : pos (x + k) +ℤ negsuc 0 ≡ pos x +ℤ negsuc 0 +ℤ pos k = omega (arith, ints) in
    let at_m : pos (x + k) +ℤ pos 0 ≡ pos x +ℤ negsuc 0 +ℤ pos (k + 1) = omega (arith, ints) in
    let at_r : pos (x + k) +ℤ pos 1 ≡ pos x +ℤ negsuc 0 +ℤ pos (k + 2) = omega (arith, ints) in
    three-pixels g (pos x +ℤ negsuc 0) (pos y +ℤ negsuc 0) word k _ _ _ sees few (there _ _ at_l row) (there _ _ at_m row) (there _ _ at_r row)
  where
    there : (X Z : ℤ) → X ≡ Z → pos y +ℤ negsuc 0 ≡ pos y -ℤ pos 1 → pixel g' X (pos y +ℤ negsuc 0) ≡ pixel g Z (pos y +ℤ negsuc 0)
    there X Z column row =
        ap (λ (z : ℤ). pixel g' X z) row ∙ sym (same-above g g' X y 1 (omega arith) same) ∙ ap (λ (z : ℤ). pixel g X z) (sym row) ∙ ap (λ (z : ℤ). pixel g z (pos y +ℤ negsuc 0)) column

left-pixel : (g : Grid) (x y left : ℕ) → IsLeft g x y left → left % 2 ≡ bit_number (region_pixel g x y (at_xy (negsuc 0) (pos 0)))
left-pixel g x y left is =
    let column : pos x -ℤ pos (0 + 1) ≡ pos x +ℤ negsuc 0 = omega (arith, ints) in
    let row : pos y ≡ pos y +ℤ pos 0 = omega (arith, ints) in
    let low : bit_number (bit left 0) ≡ left % 2 = bit_number-bit left 0 ∙ omega arith in
    sym low ∙ ap bit_number (is 0 (omega arith) ∙ ap (λ (z : ℤ). pixel g z (pos y)) column ∙ ap (λ (z : ℤ). pixel g (pos x +ℤ negsuc 0) z) row)

-- ---- the context
-- thirteen bits in three numbers of three, one, and one of three
context-0 : (b0 b1 b2 b3 b4 b5 b6 b7 b8 c0 c1 c2 c3 : Bool) (below here above left region : ℕ)
    → below ≡ bit_number b0 + bit_number b1 * 2 + bit_number b2 * 4 → here ≡ bit_number b3 + bit_number b4 * 2 + bit_number b5 * 4 → above ≡ bit_number b6 + bit_number b7 * 2 + bit_number b8 * 4
    → left ≡ bit_number c0 → region ≡ bit_number c1 + bit_number c2 * 2 + bit_number c3 * 4
    → below + here * 8 + above * 64 + (left + region * 2) * 512 ≡ number_of (b0 ∷ b1 ∷ b2 ∷ b3 ∷ b4 ∷ b5 ∷ b6 ∷ b7 ∷ b8 ∷ c0 ∷ c1 ∷ c2 ∷ c3 ∷ [])
context-0 b0 b1 b2 b3 b4 b5 b6 b7 b8 c0 c1 c2 c3 below here above left region is_below is_here is_above is_left is_region = omega arith

digit : (b : Bool) → bit_number b < 2
digit true = omega arith
digit false = omega arith

-- the ten that template 1 takes of them
cut-1 : (n0 n1 n2 n3 n4 n5 n6 n7 n8 four below here above : ℕ) → n0 < 2 → n1 < 2 → n2 < 2 → n3 < 2 → n4 < 2 → n5 < 2 → n6 < 2 → n7 < 2 → n8 < 2
    → below ≡ n0 + n1 * 2 + n2 * 4 → here ≡ n3 + n4 * 2 + n5 * 4 → above ≡ n6 + n7 * 2 + n8 * 4
    → (below + here * 8 + above * 64) % 4 + (below + here * 8 + above * 64) / 8 % 8 * 4 + (below + here * 8 + above * 64) / 128 % 2 * 32 + four * 64 ≡ n0 + n1 * 2 + n3 * 4 + n4 * 8 + n5 * 16 + n7 * 32 + four * 64
cut-1 n0 n1 n2 n3 n4 n5 n6 n7 n8 four below here above i0 i1 i2 i3 i4 i5 i6 i7 i8 is_below is_here is_above =
    let low : (below + here * 8 + above * 64) % 4 ≡ n0 + n1 * 2 = omega arith in
    let middle : (below + here * 8 + above * 64) / 8 % 8 ≡ here = omega arith in
    let high : (below + here * 8 + above * 64) / 128 % 2 ≡ n7 = omega arith in
    rw (low, middle, high) (omega arith)

context-1 : (b0 b1 b2 b3 b4 b5 b6 b7 b8 c0 c1 c2 c3 : Bool) (below here above left region : ℕ)
    → below ≡ bit_number b0 + bit_number b1 * 2 + bit_number b2 * 4 → here ≡ bit_number b3 + bit_number b4 * 2 + bit_number b5 * 4 → above ≡ bit_number b6 + bit_number b7 * 2 + bit_number b8 * 4
    → left ≡ bit_number c0 → region ≡ bit_number c1 + bit_number c2 * 2 + bit_number c3 * 4
    → (below + here * 8 + above * 64) % 4 + (below + here * 8 + above * 64) / 8 % 8 * 4 + (below + here * 8 + above * 64) / 128 % 2 * 32 + (left + region * 2) * 64 ≡ number_of (b0 ∷ b1 ∷ b3 ∷ b4 ∷ b5 ∷ b7 ∷ c0 ∷ c1 ∷ c2 ∷ c3 ∷ [])
context-1 b0 b1 b2 b3 b4 b5 b6 b7 b8 c0 c1 c2 c3 below here above left region is_below is_here is_above is_left is_region =
    cut-1 (bit_number b0) (bit_number b1) (bit_number b2) (bit_number b3) (bit_number b4) (bit_number b5) (bit_number b6) (bit_number b7) (bit_number b8) (left + region * 2) below here above
    (digit b0) (digit b1) (digit b2) (digit b3) (digit b4) (digit b5) (digit b6) (digit b7) (digit b8) is_below is_here is_above
    ∙ omega arith

-- the context at the pixel k columns after the windows' column
pub windows-context : (template : RefinementTemplate) (r : Reference) (g g' : Grid) (x y k left : ℕ) (w : RefinementWindows) → k < 32 → SameAbove g g' y → SeesRows g r x y w → IsLeft g' (x + k) y left
    → context_made template (nine_of w k) (four_of w left k) ≡ refined_context r (reference_pixels template corners) (region_pixels template corners) g' (x + k) y
unfolding refined_context
windows-context Template0 r g g' x y k left w few same sees is =
    context-0 _ _ _ _ _ _ _ _ _ _ _ _ _ (three_of w.below k) (three_of w.here k) (three_of w.above k) (left % 2) (three_of w.region k)
    (three-referred r x y w.below k (pos 1) few sees.below) (three-referred r x y w.here k (pos 0) few sees.here) (three-referred r x y w.above k (negsuc 0) few sees.above) (left-pixel g' (x + k) y left is) (three-above g g' x y w.region k few same sees.region)
windows-context Template1 r g g' x y k left w few same sees is =
    context-1 _ _ _ _ _ _ _ _ _ _ _ _ _ (three_of w.below k) (three_of w.here k) (three_of w.above k) (left % 2) (three_of w.region k)
    (three-referred r x y w.below k (pos 1) few sees.below) (three-referred r x y w.here k (pos 0) few sees.here) (three-referred r x y w.above k (negsuc 0) few sees.above) (left-pixel g' (x + k) y left is) (three-above g g' x y w.region k few same sees.region)

-- ---- nine pixels of one colour
-- the number of the nine in the other order
turned : (b0 b1 b2 b3 b4 b5 b6 b7 b8 : Bool) (below here above n : ℕ)
    → below ≡ bit_number b0 + bit_number b1 * 2 + bit_number b2 * 4 → here ≡ bit_number b3 + bit_number b4 * 2 + bit_number b5 * 4 → above ≡ bit_number b6 + bit_number b7 * 2 + bit_number b8 * 4
    → n ≡ below + here * 8 + above * 64
    → (n ≡ 511 → number_of (b8 ∷ b7 ∷ b6 ∷ b5 ∷ b4 ∷ b3 ∷ b2 ∷ b1 ∷ b0 ∷ []) ≡ 511) × (number_of (b8 ∷ b7 ∷ b6 ∷ b5 ∷ b4 ∷ b3 ∷ b2 ∷ b1 ∷ b0 ∷ []) ≡ 511 → n ≡ 511)
    × (n ≡ 0 → number_of (b8 ∷ b7 ∷ b6 ∷ b5 ∷ b4 ∷ b3 ∷ b2 ∷ b1 ∷ b0 ∷ []) ≡ 0) × (number_of (b8 ∷ b7 ∷ b6 ∷ b5 ∷ b4 ∷ b3 ∷ b2 ∷ b1 ∷ b0 ∷ []) ≡ 0 → n ≡ 0)
turned b0 b1 b2 b3 b4 b5 b6 b7 b8 below here above n is_below is_here is_above is_n =
    let i0 = digit b0 in
    let i1 = digit b1 in
    let i2 = digit b2 in
    let i3 = digit b3 in
    let i4 = digit b4 in
    let i5 = digit b5 in
    let i6 = digit b6 in
    let i7 = digit b7 in
    let i8 = digit b8 in
    ((λ full. omega arith), (λ full. omega arith), (λ none. omega arith), (λ none. omega arith))

colour-by : (r : Reference) (x y n : ℕ) (number : ℕ) → number ≡ number_of (map (reference_pixel r x y) nine ++ []) → (n ≡ 511 → number ≡ 511) × (number ≡ 511 → n ≡ 511) × (n ≡ 0 → number ≡ 0) × (number ≡ 0 → n ≡ 0) → colour_of n ≡ common_colour r x y
colour-by r x y n number is order =
    ⊎_elim
    (λ (full : n ≡ 511). rw (eq-eqb n 511 full) (common-black r x y number is (order.0 full)))
    (λ (some : n ≡ 511 → ⊥).
    rw (ne_eqb n 511 some)
    (⊎_elim
    (λ (none : n ≡ 0). rw (eq-eqb n 0 none) (common-white r x y number is (order.2 none)))
    (λ (other : n ≡ 0 → ⊥). rw (ne_eqb n 0 other) (common-none r x y number is (λ e. some (order.1 e)) (λ e. other (order.3 e))))
    (cases_eq n 0)))
    (cases_eq n 511)

pub windows-colour : (predicted : Bool) (r : Reference) (g : Grid) (x y k : ℕ) (w : RefinementWindows) → k < 32 → SeesRows g r x y w → known_of predicted (nine_of w k) ≡ cond predicted (common_colour r (x + k) y) None
windows-colour false r g x y k w few sees = refl
windows-colour true r g x y k w few sees =
    colour-by r (x + k) y (nine_of w k) (number_of (map (reference_pixel r (x + k) y) nine ++ [])) refl
    (turned _ _ _ _ _ _ _ _ _ (three_of w.below k) (three_of w.here k) (three_of w.above k) (nine_of w k)
    (three-referred r x y w.below k (pos 1) few sees.below) (three-referred r x y w.here k (pos 0) few sees.here) (three-referred r x y w.above k (negsuc 0) few sees.above) refl)
