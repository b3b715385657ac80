-- Contexts out of windows on the rows above and the pixels at the left.
use Rattle.std.proofs.Common.{pos, negsuc, ℤ, ◌+ℤ◌, ◌-ℤ◌, ◌≡◌, ℕ, ◌+◌, ◌-◌, ◌*◌, ◌/◌, ◌%◌, ◌^◌, ◌<◌, ◌≤◌, false, ◌++◌, length, refl, subst, sym, ap, ◌∙◌, ⊎_elim, arith}
use Rattle.std.proofs.lemmas.Bool.{cases_lt}
use Rattle.std.proofs.lemmas.Int.{ints}
use Rattle.jbig2_base.specs.Grid.{Grid, pixel, pixel_at}
use Rattle.jbig2_base.specs.Bits.{bit}
use Rattle.jbig2_base.proofs.BitLemmas.{bit-above, bit-shl_high, bit-zero}
use Rattle.jbig2_region.specs.Generic.{context_at}
use Rattle.jbig2_region.specs.inner.Neighbours.{left_pixels, stretch_pixels, mixed_pixels, IsNear, SameAbove, stretch_bits}
use Rattle.jbig2_region.specs.declared.template.layouts.Adaptives.{Adaptives}
use Rattle.jbig2_region.specs.declared.template.neighbours.Neighbours.{Neighbours}
use Rattle.jbig2_region.specs.declared.template.neighbours.Stretch.{Stretch}
use Rattle.jbig2_region.specs.declared.generic_kernel.windows.Windows.{Windows}
use Rattle.jbig2_region.proofs.ContextBits.{context-append, side-context, length-side}
use Rattle.jbig2_region.specs.inner.Windows.{IsLeft, IsWindow, Shows}

-- ---- pixels at whole numbers
pub pixel-row_negative : (g : Grid) (X : ℤ) (m : ℕ) → pixel g X (negsuc m) ≡ false
pixel-row_negative g (pos x) m = refl
pixel-row_negative g (negsuc x) m = refl

pub pixel-above_all : (g : Grid) (X : ℤ) (y back : ℕ) → y < back → pixel g X (pos y -ℤ pos back) ≡ false
pixel-above_all g X y back less =
    let row : pos y -ℤ pos back ≡ negsuc (back - y - 1) = omega (arith, ints) in
    ap (λ (z : ℤ). pixel g X z) row ∙ pixel-row_negative g X (back - y - 1)

pub pixel-inside : (g : Grid) (X Y : ℤ) (i j : ℕ) → X ≡ pos i → Y ≡ pos j → pixel g X Y ≡ pixel_at g i j
pixel-inside g X Y i j column row = rw (column, row) refl

pub pixel-left_of_all : (g : Grid) (X Y : ℤ) (m : ℕ) → X ≡ negsuc m → pixel g X Y ≡ false
pixel-left_of_all g X Y m column = rw column refl

-- ---- windows
pub window-none : (g : Grid) (x y back seen : ℕ) → y < back → IsWindow g x (pos y -ℤ pos back) seen 0
window-none g x y back seen less = λ k inside. bit-zero (63 - k) ∙ sym (pixel-above_all g (pos (x + k) -ℤ pos 8) y back less)

pub window-first : (g : Grid) (word : ℕ) (row : ℤ) → ((k : ℕ) → k < 56 → bit word (56 - 1 - k) ≡ pixel g (pos (0 + k)) row) → word < 2 ^ 56 → IsWindow g 0 row 64 word
window-first g word row bits small = λ k inside.
    ⊎_elim
    (λ (outside : k < 8).
    let column : pos (0 + k) -ℤ pos 8 ≡ negsuc (7 - k) = omega (arith, ints) in
    bit-above word 56 (63 - k) small (omega arith) ∙ sym (pixel-left_of_all g (pos (0 + k) -ℤ pos 8) row (7 - k) column))
    (λ (within : 8 ≤ k).
    let column : pos (0 + k) -ℤ pos 8 ≡ pos (0 + (k - 8)) = omega (arith, ints) in
    let place : 63 - k ≡ 56 - 1 - (k - 8) = omega arith in
    ap (λ (n : ℕ). bit word n) place ∙ bits (k - 8) (omega arith) ∙ sym (ap (λ (z : ℤ). pixel g z row) column))
    (cases_lt k 8)

-- of the pixels from a column on
pub window-word : (g : Grid) (x word : ℕ) (row : ℤ) → ((k : ℕ) → k < 64 → bit word (64 - 1 - k) ≡ pixel g (pos (x + k)) row) → IsWindow g (x + 8) row 64 word
window-word g x word row bits = λ k inside.
    let place : 63 - k ≡ 64 - 1 - k = omega arith in
    let column : pos (x + 8 + k) -ℤ pos 8 ≡ pos (x + k) = omega (arith, ints) in
    ap (λ (n : ℕ). bit word n) place ∙ bits k inside ∙ sym (ap (λ (z : ℤ). pixel g z row) column)

-- the window this many columns further on
pub window-moved : (g : Grid) (x seen word by : ℕ) (row : ℤ) → seen ≤ 64 → IsWindow g x row seen word → IsWindow g (x + by) row (seen - by) (word * 2 ^ by % 2 ^ 64)
window-moved g x seen word by row few shows = λ k inside.
    let place : 63 - k - by ≡ 63 - (k + by) = omega arith in
    let column : x + (k + by) ≡ x + by + k = omega arith in
    bit-shl_high word by 64 (63 - k) (omega arith) (omega arith) ∙ ap (λ (n : ℕ). bit word n) place ∙ shows (k + by) (omega arith) ∙ ap (λ (n : ℕ). pixel g (pos n -ℤ pos 8) row) column

pub shows-moved : (g : Grid) (x y seen by : ℕ) (v w : Windows) → seen ≤ 64 → v.above ≡ w.above * 2 ^ by % 2 ^ 64 → v.top ≡ w.top * 2 ^ by % 2 ^ 64 → Shows g x y seen w → Shows g (x + by) y (seen - by) v
shows-moved g x y seen by v w few above top shows = record {
  above = subst (λ (n : ℕ). IsWindow g (x + by) (pos y -ℤ pos 1) (seen - by) n) (sym above) (window-moved g x seen w.above by (pos y -ℤ pos 1) few shows.above);
  top = subst (λ (n : ℕ). IsWindow g (x + by) (pos y -ℤ pos 2) (seen - by) n) (sym top) (window-moved g x seen w.top by (pos y -ℤ pos 2) few shows.top);
}

pub shows-less : (g : Grid) (x y seen less : ℕ) (w : Windows) → less ≤ seen → Shows g x y seen w → Shows g x y less w
shows-less g x y seen less w few shows = record { above = λ k inside. shows.above k (omega arith); top = λ k inside. shows.top k (omega arith) }

-- ---- what the rows above have in common
pub same-above : (g g' : Grid) (X : ℤ) (y back : ℕ) → 1 ≤ back → SameAbove g g' y → pixel g X (pos y -ℤ pos back) ≡ pixel g' X (pos y -ℤ pos back)
same-above g g' (pos i) y back some same =
    ⊎_elim
    (λ (less : y < back). pixel-above_all g (pos i) y back less ∙ sym (pixel-above_all g' (pos i) y back less))
    (λ (more : back ≤ y).
    let row : pos y -ℤ pos back ≡ pos (y - back) = omega (arith, ints) in
    pixel-inside g (pos i) (pos y -ℤ pos back) i (y - back) refl row ∙ same i (y - back) (omega arith) ∙ sym (pixel-inside g' (pos i) (pos y -ℤ pos back) i (y - back) refl row))
    (cases_lt y back)
same-above g g' (negsuc i) y back some same = refl

pub shows-same : (g g' : Grid) (x y seen : ℕ) (w : Windows) → SameAbove g g' y → Shows g x y seen w → Shows g' x y seen w
shows-same g g' x y seen w same shows = record {
  above = λ k inside. shows.above k inside ∙ same-above g g' (pos (x + k) -ℤ pos 8) y 1 (omega arith) same;
  top = λ k inside. shows.top k inside ∙ same-above g g' (pos (x + k) -ℤ pos 8) y 2 (omega arith) same;
}

-- ---- the parts of a context
pub stretch-context : (s : Stretch) (g g' : Grid) (x y k rows word : ℕ) → s.reach ≤ 3 → s.count ≤ 7 → k < 32 → 1 ≤ rows → SameAbove g g' y → IsWindow g x (pos y -ℤ pos rows) 64 word → stretch_bits s word k ≡ context_at (stretch_pixels s rows) g' (x + k) y
stretch-context s g g' x y k rows word reach few near some same shows =
    side-context g' (x + k) y rows s.count word (55 - k - s.reach) (pos s.reach) (λ i inside.
    let place : 55 - k - s.reach + i ≡ 63 - (8 + k + s.reach - i) = omega arith in
    let column : pos (x + (8 + k + s.reach - i)) -ℤ pos 8 ≡ pos (x + k) +ℤ (pos s.reach -ℤ pos i) = omega (arith, ints) in
    let row : pos y -ℤ pos rows ≡ pos y +ℤ (pos 0 -ℤ pos rows) = omega (arith, ints) in
    ap (λ (n : ℕ). bit word n) place ∙ shows (8 + k + s.reach - i) (omega arith) ∙ same-above g g' (pos (x + (8 + k + s.reach - i)) -ℤ pos 8) y rows some same
    ∙ ap (λ (z : ℤ). pixel g' z (pos y -ℤ pos rows)) column ∙ ap (λ (z : ℤ). pixel g' (pos (x + k) +ℤ (pos s.reach -ℤ pos i)) z) row)

pub left-context : (n : Neighbours) (g : Grid) (x y left : ℕ) → n.left ≤ 4 → IsLeft g x y left → left % 2 ^ n.left ≡ context_at (left_pixels n) g x y
left-context n g x y left few is =
    whole left n.left ∙ side-context g x y 0 n.left left 0 (negsuc 0) (λ i inside.
    let column : pos x -ℤ pos (i + 1) ≡ pos x +ℤ (negsuc 0 -ℤ pos i) = omega (arith, ints) in
    let row : pos y ≡ pos y +ℤ (pos 0 -ℤ pos 0) = omega (arith, ints) in
    let place : 0 + i ≡ i = omega arith in
    ap (λ (m : ℕ). bit left m) place ∙ is i (omega arith) ∙ ap (λ (z : ℤ). pixel g z (pos y)) column ∙ ap (λ (z : ℤ). pixel g (pos x +ℤ (negsuc 0 -ℤ pos i)) z) row)
  where
    whole : (a m : ℕ) → a % 2 ^ m ≡ a / 2 ^ 0 % 2 ^ m
    whole a m = ap (λ (b : ℕ). b % 2 ^ m) (omega arith)

pub mixed-context : (n : Neighbours) (a : Adaptives) (g g' : Grid) (x y k left : ℕ) (w : Windows) → IsNear n → k < 32 → SameAbove g g' y → Shows g x y 64 w → IsLeft g' (x + k) y left
    → left % 2 ^ n.left + (context_at a.first.now g' (x + k) y + (stretch_bits n.above w.above k + (context_at a.middle.now g' (x + k) y + (stretch_bits n.top w.top k + context_at a.last.now g' (x + k) y * 2 ^ n.top.count) * 2 ^ length a.middle.now) * 2 ^ n.above.count) * 2 ^ length a.first.now) * 2 ^ n.left
    ≡ context_at (mixed_pixels n a) g' (x + k) y
mixed-context n a g g' x y k left w near few same shows is =
    rw (left-context n g' (x + k) y left near.left is, stretch-context n.above g g' x y k 1 w.above near.above_reach near.above_count few (omega arith) same shows.above, stretch-context n.top g g' x y k 2 w.top near.top_reach near.top_count few (omega arith) same shows.top)
    (sym (
    rw (
      context-append (left_pixels n) (a.first.now ++ (stretch_pixels n.above 1 ++ (a.middle.now ++ (stretch_pixels n.top 2 ++ a.last.now)))) g' (x + k) y,
      context-append a.first.now (stretch_pixels n.above 1 ++ (a.middle.now ++ (stretch_pixels n.top 2 ++ a.last.now))) g' (x + k) y,
      context-append (stretch_pixels n.above 1) (a.middle.now ++ (stretch_pixels n.top 2 ++ a.last.now)) g' (x + k) y,
      context-append a.middle.now (stretch_pixels n.top 2 ++ a.last.now) g' (x + k) y,
      context-append (stretch_pixels n.top 2) a.last.now g' (x + k) y,
      length-side (negsuc 0) 0 n.left,
      length-side (pos n.above.reach) 1 n.above.count,
      length-side (pos n.top.reach) 2 n.top.count,
    )
    refl
    ))
