-- Run bytes: the kernel's test is the definition's.
use Rattle.std.proofs.Common.{length-append, subst, pos, negsuc, ℤ, ◌+ℤ◌, ◌-ℤ◌, ◌≡◌, ℕ, zero, suc, ◌+◌, ◌-◌, ◌*◌, ◌%◌, ◌^◌, ◌<◌, ◌≤◌, Bool, true, false, ◌&&◌, cond, eqb, List, ◌++◌, length, get_or, replicate, refl, sym, ap, ◌∙◌, ⊎_elim, arith}
use Rattle.std.proofs.lemmas.Bool.{cases_eq, cases_lt, eq-eqb, eqb-true, ne_eqb, cond-true, cond-false, and_from, and_left, and_parts}
use Rattle.std.proofs.lemmas.Int.{ints}
use Rattle.std.proofs.lemmas.List.{append-nil, length-replicate, get_or-replicate, get_or_append_left, get_or-append-add}
use Rattle.std.proofs.Math.Nat.{mul-le-mul_left}
use Rattle.std.proofs.lemmas.Nat.{mod-mul-add, div-mul-add}
use Rattle.jbig2_base.specs.Grid.{Grid, pixel, pixel_at, same_colour}
use Rattle.jbig2_base.specs.Bits.{bit}
use Rattle.jbig2_base.proofs.GridLemmas.{pixel_at-grid_of, pixel_at-right, pixel_at-below}
use Rattle.jbig2_region.specs.Generic.{context_at}
use Rattle.jbig2_region.specs.inner.Neighbours.{left_pixels, stretch_pixels, nominal_pixels, neighbours_stay, stretch_stays, is_field, neighbour_count, IsNear, SameAbove}
use Rattle.jbig2_coder.specs.Coder.{Coder, Context, Registers, fresh, all_quiet}
use Rattle.jbig2_region.specs.inner.RegionStates.{HasDecoded, region_state}
use Rattle.jbig2_region.specs.Raster.{Region, so_far}
use Rattle.jbig2_region.specs.Steps.{all_of, has_all, keeps_context, is_run_of}
use Rattle.jbig2_region.specs.inner.LongRuns.{is_run_for}
use Rattle.jbig2_region.specs.declared.template.neighbours.Neighbours.{Neighbours}
use Rattle.jbig2_region.specs.declared.template.neighbours.Stretch.{Stretch}
use Rattle.jbig2_region.specs.declared.generic_kernel.windows.Windows.{Windows}
use Rattle.jbig2_region.specs.declared.template.AdaptiveTemplatePixel.{AdaptiveTemplatePixel}
use Rattle.jbig2_region.proofs.ContextBits.{context-append, context-lt_few, length-side}
use Rattle.jbig2_region.proofs.UniformLemmas.{full, full-lt, full-add, full-black, full-white, field-gives, field-all, side-pixel, side-all, side-gives, same-parts}
use Rattle.jbig2_region.proofs.WindowLemmas.{same-above, pixel-inside, pixel-left_of_all}
use Rattle.jbig2_region.specs.inner.Windows.{IsLeft, IsWindow, Shows}

pub eq_from : (a b : Bool) → (a ≡ true → b ≡ true) → (b ≡ true → a ≡ true) → a ≡ b
eq_from true b f g = sym (f refl)
eq_from false true f g = g refl
eq_from false false f g = refl

-- ---- pixels of longer lists
pub more-pixels : (w h : ℕ) (bits more : List Bool) (i j : ℕ) → j * w + i < length bits → pixel_at (so_far w h (bits ++ more)) i j ≡ pixel_at (so_far w h bits) i j
unfolding so_far pixel_at
more-pixels w h bits more i j less =
    ⊎_elim
    (λ (left : i < w).
    ⊎_elim
    (λ (above : j < h).
    pixel_at-grid_of w h (λ x y. get_or (bits ++ more) (y * w + x) false) i j left above ∙ get_or_append_left bits more false (j * w + i) less ∙ sym (pixel_at-grid_of w h (λ x y. get_or bits (y * w + x) false) i j left above))
    (λ (below : h ≤ j). pixel_at-below (so_far w h (bits ++ more)) i j below ∙ sym (pixel_at-below (so_far w h bits) i j below))
    (cases_lt j h))
    (λ (right : w ≤ i). pixel_at-right (so_far w h (bits ++ more)) i j right ∙ sym (pixel_at-right (so_far w h bits) i j right))
    (cases_lt i w)

pub more-above : (w h : ℕ) (bits more : List Bool) (x y : ℕ) → length bits ≡ y * w + x → SameAbove (so_far w h bits) (so_far w h (bits ++ more)) y
unfolding so_far pixel_at
more-above w h bits more x y len = λ i j less.
    ⊎_elim
    (λ (left : i < w). sym (more-pixels w h bits more i j (below i j left less)))
    (λ (right : w ≤ i). pixel_at-right (so_far w h bits) i j right ∙ sym (pixel_at-right (so_far w h (bits ++ more)) i j right))
    (cases_lt i w)
  where
    below : (i j : ℕ) → i < w → j < y → j * w + i < length bits
    below i j left less =
        let next : j + 1 ≤ y = omega arith in
        let rows : w * (j + 1) ≤ w * y = mul-le-mul_left w next in
        omega arith

pub new-pixel : (w h : ℕ) (bits : List Bool) (c : Bool) (x y k i : ℕ) → length bits ≡ y * w + x → x + k < w + 1 → y < h → i < k → pixel_at (so_far w h (bits ++ replicate k c)) (x + i) y ≡ c
unfolding so_far
new-pixel w h bits c x y k i len left above inside =
    let place : y * w + (x + i) ≡ length bits + i = omega arith in
    pixel_at-grid_of w h (λ x y. get_or (bits ++ replicate k c) (y * w + x) false) (x + i) y (omega arith) above
    ∙ ap (λ (n : ℕ). get_or (bits ++ replicate k c) n false) place ∙ get_or-append-add bits (replicate k c) i false ∙ get_or-replicate k i c false inside

-- ---- the pixels round about, of one colour
-- those of the template at column X of row y
pub record Uniform (n : Neighbours) (g : Grid) (X y : ℕ) (c : Bool) : Type 0 where
  pub left : (i : ℕ) → i < n.left → side-pixel g X y (negsuc 0) 0 i ≡ c
  pub above : (i : ℕ) → i < n.above.count → side-pixel g X y (pos n.above.reach) 1 i ≡ c
  pub top : (i : ℕ) → i < n.top.count → side-pixel g X y (pos n.top.reach) 2 i ≡ c

pub nominal-length : (n : Neighbours) → length (nominal_pixels n) ≡ neighbour_count n
nominal-length n =
    length-append (left_pixels n) (stretch_pixels n.above 1 ++ stretch_pixels n.top 2)
    ∙ rw (length-append (stretch_pixels n.above 1) (stretch_pixels n.top 2), length-side (negsuc 0) 0 n.left, length-side (pos n.above.reach) 1 n.above.count, length-side (pos n.top.reach) 2 n.top.count) refl

nominal-parts : (n : Neighbours) (g : Grid) (X y : ℕ) → context_at (nominal_pixels n) g X y ≡ context_at (left_pixels n) g X y + (context_at (stretch_pixels n.above 1) g X y + context_at (stretch_pixels n.top 2) g X y * 2 ^ n.above.count) * 2 ^ n.left
nominal-parts n g X y =
    context-append (left_pixels n) (stretch_pixels n.above 1 ++ stretch_pixels n.top 2) g X y
    ∙ rw (context-append (stretch_pixels n.above 1) (stretch_pixels n.top 2) g X y, length-side (negsuc 0) 0 n.left, length-side (pos n.above.reach) 1 n.above.count) refl

all-parts : (n : Neighbours) (c : Bool) → all_of (nominal_pixels n) c ≡ full n.left c + (full n.above.count c + full n.top.count c * 2 ^ n.above.count) * 2 ^ n.left
all-parts n c =
    ap (λ (k : ℕ). full k c) (nominal-length n) ∙ full-add n.left (n.above.count + n.top.count) c ∙ ap (λ (k : ℕ). full n.left c + k * 2 ^ n.left) (full-add n.above.count n.top.count c)

uniform-context : (n : Neighbours) (g : Grid) (X y : ℕ) (c : Bool) → Uniform n g X y c → context_at (nominal_pixels n) g X y ≡ all_of (nominal_pixels n) c
uniform-context n g X y c same =
    nominal-parts n g X y
    ∙ rw (side-all g X y 0 n.left (negsuc 0) c same.left, side-all g X y 1 n.above.count (pos n.above.reach) c same.above, side-all g X y 2 n.top.count (pos n.top.reach) c same.top) refl
    ∙ sym (all-parts n c)

context-uniform : (n : Neighbours) (g : Grid) (X y : ℕ) (c : Bool) → context_at (nominal_pixels n) g X y ≡ all_of (nominal_pixels n) c → Uniform n g X y c
context-uniform n g X y c is =
    let parts =
    same-parts (context_at (left_pixels n) g X y) (context_at (stretch_pixels n.above 1) g X y) (context_at (stretch_pixels n.top 2) g X y) (full n.left c) (full n.above.count c) (full n.top.count c) n.left n.above.count
    (context-lt_few (left_pixels n) g X y n.left (length-side (negsuc 0) 0 n.left)) (full-lt n.left c) (context-lt_few (stretch_pixels n.above 1) g X y n.above.count (length-side (pos n.above.reach) 1 n.above.count)) (full-lt n.above.count c)
    (sym (nominal-parts n g X y) ∙ is ∙ all-parts n c) in
    record {
      left = λ i inside. side-gives g X y 0 n.left i (negsuc 0) c parts.0 inside;
      above = λ i inside. side-gives g X y 1 n.above.count i (pos n.above.reach) c parts.1.0 inside;
      top = λ i inside. side-gives g X y 2 n.top.count i (pos n.top.reach) c parts.1.1 inside;
    }

-- ---- the next pixels of one colour, and the contexts
-- left of column x nothing changes
old-column : (w h : ℕ) (bits more : List Bool) (x y m : ℕ) → length bits ≡ y * w + x → pixel (so_far w h (bits ++ more)) (pos x -ℤ pos (m + 1)) (pos y) ≡ pixel (so_far w h bits) (pos x -ℤ pos (m + 1)) (pos y)
old-column w h bits more x y m len =
    ⊎_elim
    (λ (less : m < x).
    let column : pos x -ℤ pos (m + 1) ≡ pos (x - 1 - m) = omega (arith, ints) in
    pixel-inside (so_far w h (bits ++ more)) (pos x -ℤ pos (m + 1)) (pos y) (x - 1 - m) y column refl ∙ more-pixels w h bits more (x - 1 - m) y (omega arith) ∙ sym (pixel-inside (so_far w h bits) (pos x -ℤ pos (m + 1)) (pos y) (x - 1 - m) y column refl))
    (λ (more-left : x ≤ m).
    let column : pos x -ℤ pos (m + 1) ≡ negsuc (m - x) = omega (arith, ints) in
    pixel-left_of_all (so_far w h (bits ++ more)) (pos x -ℤ pos (m + 1)) (pos y) (m - x) column ∙ sym (pixel-left_of_all (so_far w h bits) (pos x -ℤ pos (m + 1)) (pos y) (m - x) column))
    (cases_lt m x)

stretch-field : (s : Stretch) (m : ℕ) (c : Bool) (word : ℕ) → stretch_stays s m c word ≡ true → 1 ≤ s.count → is_field word (55 - m - s.reach) (s.count + m) c ≡ true
stretch-field s m c word is some =
    let none : eqb s.count 0 ≡ false = ne_eqb s.count 0 (λ e. omega arith) in
    sym (cond-false (eqb s.count 0) true (is_field word (55 - m - s.reach) (s.count + m) c) none) ∙ is

stretch-forward : (s : Stretch) (m : ℕ) (c : Bool) (word : ℕ) (g g' : Grid) (x y k rows i seen : ℕ) → s.reach ≤ 3 → s.count ≤ 7 → 1 ≤ rows → k ≤ m → m ≤ 32 → m + 12 ≤ seen → SameAbove g g' y → IsWindow g x (pos y -ℤ pos rows) seen word → stretch_stays s m c word ≡ true → i < s.count → side-pixel g' (x + k) y (pos s.reach) rows i ≡ c
stretch-forward s m c word g g' x y k rows i seen near few some within most wide same shows is inside =
    let place : 55 - m - s.reach + (m - k + i) ≡ 63 - (8 + k + s.reach - i) = omega arith in
    let column : pos (x + (8 + k + s.reach - i)) -ℤ pos 8 ≡ pos (x + k) +ℤ (pos s.reach -ℤ pos i) = omega (arith, ints) in
    let row : pos y -ℤ pos rows ≡ pos y +ℤ (pos 0 -ℤ pos rows) = omega (arith, ints) in
    sym (
    sym (field-gives word (55 - m - s.reach) (s.count + m) (m - k + i) c (stretch-field s m c word is (omega arith)) (omega arith))
    ∙ ap (λ (n : ℕ). bit word n) place ∙ shows (8 + k + s.reach - i) (omega arith) ∙ same-above g g' (pos (x + (8 + k + s.reach - i)) -ℤ pos 8) y rows some same
    ∙ ap (λ (z : ℤ). pixel g' z (pos y -ℤ pos rows)) column ∙ ap (λ (z : ℤ). pixel g' (pos (x + k) +ℤ (pos s.reach -ℤ pos i)) z) row
    )

-- a bit of the window is a pixel of one of the contexts
stretch-back : (s : Stretch) (m : ℕ) (c : Bool) (word : ℕ) (g g' : Grid) (x y k rows i j seen : ℕ) → s.reach ≤ 3 → s.count ≤ 7 → 1 ≤ rows → k ≤ m → m ≤ 32 → m + 12 ≤ seen → SameAbove g g' y → IsWindow g x (pos y -ℤ pos rows) seen word → i < s.count → j ≡ m - k + i → side-pixel g' (x + k) y (pos s.reach) rows i ≡ c → bit word (55 - m - s.reach + j) ≡ c
stretch-back s m c word g g' x y k rows i j seen near few some within most wide same shows inside is_place is =
    let place : 55 - m - s.reach + j ≡ 63 - (8 + k + s.reach - i) = omega arith in
    let column : pos (x + (8 + k + s.reach - i)) -ℤ pos 8 ≡ pos (x + k) +ℤ (pos s.reach -ℤ pos i) = omega (arith, ints) in
    let row : pos y -ℤ pos rows ≡ pos y +ℤ (pos 0 -ℤ pos rows) = omega (arith, ints) in
    ap (λ (n : ℕ). bit word n) place ∙ shows (8 + k + s.reach - i) (omega arith) ∙ same-above g g' (pos (x + (8 + k + s.reach - i)) -ℤ pos 8) y rows some same
    ∙ ap (λ (z : ℤ). pixel g' z (pos y -ℤ pos rows)) column ∙ ap (λ (z : ℤ). pixel g' (pos (x + k) +ℤ (pos s.reach -ℤ pos i)) z) row ∙ is

-- Of each of the contexts: the pixels of a stretch.
abbrev StretchAll : Stretch → ℕ → ℕ → (ℕ → Grid) → ℕ → ℕ → Bool → Type 0
StretchAll s m rows grids x y c = (k i : ℕ) → k ≤ m → i < s.count → side-pixel (grids k) (x + k) y (pos s.reach) rows i ≡ c

stretch-all : (s : Stretch) (m : ℕ) (c : Bool) (word : ℕ) (g : Grid) (grids : ℕ → Grid) (x y rows seen : ℕ) → s.reach ≤ 3 → s.count ≤ 7 → 1 ≤ rows → m ≤ 32 → m + 12 ≤ seen → ((k : ℕ) → SameAbove g (grids k) y) → IsWindow g x (pos y -ℤ pos rows) seen word → StretchAll s m rows grids x y c → stretch_stays s m c word ≡ true
stretch-all s m c word g grids x y rows seen near few some most wide same shows all =
    ⊎_elim
    (λ (none : s.count ≡ 0). cond-true (eqb s.count 0) true (is_field word (55 - m - s.reach) (s.count + m) c) (eq-eqb s.count 0 none))
    (λ (other : s.count ≡ 0 → ⊥).
    cond-false (eqb s.count 0) true (is_field word (55 - m - s.reach) (s.count + m) c) (ne_eqb s.count 0 other)
    ∙ field-all word (55 - m - s.reach) (s.count + m) c (λ j inside.
    ⊎_elim
    (λ (low : j < m). stretch-back s m c word g (grids (m - j)) x y (m - j) rows 0 j seen near few some (omega arith) most wide (same (m - j)) shows (omega (arith, other)) (omega arith) (all (m - j) 0 (omega arith) (omega (arith, other))))
    (λ (high : m ≤ j). stretch-back s m c word g (grids 0) x y 0 rows (j - m) j seen near few some (omega arith) most wide (same 0) shows (omega arith) (omega arith) (all 0 (j - m) (omega arith) (omega arith)))
    (cases_lt j m)))
    (cases_eq s.count 0)

left-forward : (count : ℕ) (c : Bool) (left w h : ℕ) (bits : List Bool) (x y k i : ℕ) → count ≤ 4 → length bits ≡ y * w + x → x + k < w + 1 → y < h → IsLeft (so_far w h bits) x y left → is_field left 0 count c ≡ true → i < count → side-pixel (so_far w h (bits ++ replicate k c)) (x + k) y (negsuc 0) 0 i ≡ c
left-forward count c left w h bits x y k i few len within above before is inside =
    let g : Grid = so_far w h (bits ++ replicate k c) in
    let row : pos y +ℤ (pos 0 -ℤ pos 0) ≡ pos y = omega (arith, ints) in
    ⊎_elim
    (λ (new : i < k).
    let column : pos (x + k) +ℤ (negsuc 0 -ℤ pos i) ≡ pos (x + (k - 1 - i)) = omega (arith, ints) in
    pixel-inside g (pos (x + k) +ℤ (negsuc 0 -ℤ pos i)) (pos y +ℤ (pos 0 -ℤ pos 0)) (x + (k - 1 - i)) y column row ∙ new-pixel w h bits c x y k (k - 1 - i) len within above (omega arith))
    (λ (old : k ≤ i).
    let column : pos (x + k) +ℤ (negsuc 0 -ℤ pos i) ≡ pos x -ℤ pos (i - k + 1) = omega (arith, ints) in
    let place : 0 + (i - k) ≡ i - k = omega arith in
    ap (λ (z : ℤ). pixel g z (pos y +ℤ (pos 0 -ℤ pos 0))) column ∙ ap (λ (z : ℤ). pixel g (pos x -ℤ pos (i - k + 1)) z) row
    ∙ old-column w h bits (replicate k c) x y (i - k) len ∙ sym (before (i - k) (omega arith)) ∙ ap (λ (n : ℕ). bit left n) (sym place) ∙ field-gives left 0 count (i - k) c is (omega arith))
    (cases_lt i k)

left-back : (count : ℕ) (c : Bool) (left w h : ℕ) (bits : List Bool) (x y i : ℕ) → count ≤ 4 → length bits ≡ y * w + x → IsLeft (so_far w h bits) x y left → side-pixel (so_far w h (bits ++ replicate 0 c)) (x + 0) y (negsuc 0) 0 i ≡ c → i < count → bit left (0 + i) ≡ c
left-back count c left w h bits x y i few len before is inside =
    let g : Grid = so_far w h (bits ++ replicate 0 c) in
    let row : pos y ≡ pos y +ℤ (pos 0 -ℤ pos 0) = omega (arith, ints) in
    let column : pos x -ℤ pos (i + 1) ≡ pos (x + 0) +ℤ (negsuc 0 -ℤ pos i) = omega (arith, ints) in
    let place : 0 + i ≡ i = omega arith in
    ap (λ (n : ℕ). bit left n) place ∙ before i (omega arith) ∙ sym (old-column w h bits (replicate 0 c) x y i len)
    ∙ ap (λ (z : ℤ). pixel g z (pos y)) column ∙ ap (λ (z : ℤ). pixel g (pos (x + 0) +ℤ (negsuc 0 -ℤ pos i)) z) row ∙ is

-- ---- the definition's test, context by context
pub has_all-is : (template : List AdaptiveTemplatePixel) (w h : ℕ) (bits : List Bool) (c : Bool) (x y k : ℕ) → length bits ≡ y * w + x → x + k < w → has_all template w h c (bits ++ replicate k c) ≡ eqb (context_at template (so_far w h (bits ++ replicate k c)) (x + k) y) (all_of template c)
unfolding has_all
has_all-is template w h bits c x y k len left =
    let size : length (bits ++ replicate k c) ≡ y * w + (x + k) = length-append bits (replicate k c) ∙ rw (length-replicate k c, len) (omega arith) in
    rw (size, mod-mul-add y w (x + k) left, div-mul-add y w (x + k) left) refl

pub stays-from : (template : List AdaptiveTemplatePixel) (w h : ℕ) (c : Bool) (n : ℕ) (bits : List Bool) → ((k : ℕ) → k ≤ n → has_all template w h c (bits ++ replicate k c) ≡ true) → keeps_context template w h c n bits ≡ true
unfolding keeps_context
stays-from template w h c zero bits each = ap (λ (l : List Bool). has_all template w h c l) (sym (append-nil bits)) ∙ each 0 (omega arith)
stays-from template w h c (suc n) bits each = and_from _ _ (stays-from template w h c n bits (λ k le. each k (omega arith))) (each (suc n) (omega arith))

pub stays-gives : (template : List AdaptiveTemplatePixel) (w h : ℕ) (c : Bool) (n : ℕ) (bits : List Bool) (k : ℕ) → keeps_context template w h c n bits ≡ true → k ≤ n → has_all template w h c (bits ++ replicate k c) ≡ true
unfolding keeps_context
stays-gives template w h c zero bits k is le =
    let none : k ≡ 0 = omega arith in
    rw none (ap (λ (l : List Bool). has_all template w h c l) (append-nil bits) ∙ is)
stays-gives template w h c (suc n) bits k is le =
    let parts = and_parts _ _ is in
    ⊎_elim
    (λ (last : k ≡ suc n). rw last parts.1)
    (λ (other : k ≡ suc n → ⊥). stays-gives template w h c n bits k parts.0 (omega arith))
    (cases_eq k (suc n))

-- the context of pixel k of a run
pub stays-context : (template : List AdaptiveTemplatePixel) (w h : ℕ) (c : Bool) (bits : List Bool) (x y k m : ℕ) → length bits ≡ y * w + x → x + m < w → k ≤ m → keeps_context template w h c m bits ≡ true → context_at template (so_far w h (bits ++ replicate k c)) (x + k) y ≡ all_of template c
stays-context template w h c bits x y k m len left le is = eqb-true _ _ (sym (has_all-is template w h bits c x y k len (omega arith)) ∙ stays-gives template w h c m bits k is le)

-- the kernel's test is the definition's
pub stays-is : (n : Neighbours) (m : ℕ) (c : Bool) (left : ℕ) (v : Windows) (w h x y seen : ℕ) (bits : List Bool) → IsNear n → m ≤ 32 → m + 12 ≤ seen → length bits ≡ y * w + x → x + m < w → y < h → Shows (so_far w h bits) x y seen v → IsLeft (so_far w h bits) x y left → neighbours_stay n m c left v ≡ keeps_context (nominal_pixels n) w h c m bits
stays-is n m c left v w h x y seen bits near most wide len within above shows before =
    let template : List AdaptiveTemplatePixel = nominal_pixels n in
    let g : Grid = so_far w h bits in
    let grids : ℕ → Grid = λ k. so_far w h (bits ++ replicate k c) in
    eq_from (neighbours_stay n m c left v) (keeps_context template w h c m bits)
    (λ is.
    let one = and_parts _ _ is in
    let two = and_parts _ _ one.1 in
    stays-from template w h c m bits (λ k le.
    has_all-is template w h bits c x y k len (omega arith)
    ∙ eq-eqb _ _ (uniform-context n (grids k) (x + k) y c (record {
      left = λ i inside. left-forward n.left c left w h bits x y k i near.left len (omega arith) above before one.0 inside;
      above = λ i inside. stretch-forward n.above m c v.above g (grids k) x y k 1 i seen near.above_reach near.above_count (omega arith) le most wide (more-above w h bits (replicate k c) x y len) shows.above two.0 inside;
      top = λ i inside. stretch-forward n.top m c v.top g (grids k) x y k 2 i seen near.top_reach near.top_count (omega arith) le most wide (more-above w h bits (replicate k c) x y len) shows.top two.1 inside;
    }))))
    (λ is.
    let each : (k : ℕ) → k ≤ m → Uniform n (grids k) (x + k) y c = λ k le. context-uniform n (grids k) (x + k) y c (stays-context template w h c bits x y k m len within le is) in
    and_from _ _ (field-all left 0 n.left c (λ i inside. left-back n.left c left w h bits x y i near.left len before ((each 0 (omega arith)).left i inside) inside))
    (and_from _ _
    (stretch-all n.above m c v.above g grids x y 1 seen near.above_reach near.above_count (omega arith) most wide (λ k. more-above w h bits (replicate k c) x y len) shows.above (λ k i le inside. (each k le).above i inside))
    (stretch-all n.top m c v.top g grids x y 2 seen near.top_reach near.top_count (omega arith) most wide (λ k. more-above w h bits (replicate k c) x y len) shows.top (λ k i le inside. (each k le).top i inside))))

-- a run, by what the kernel knows of it
pub run-parts : (n : Neighbours) (m : ℕ) (c : Bool) (left : ℕ) (v : Windows) (w h x y seen : ℕ) (r : Region) (grid : Grid) (d : Coder) (s : List Context) → IsNear n → m ≤ 32 → m + 12 ≤ seen → length r.pixels ≡ y * w + x → x + m < w → y < h → Shows grid x y seen v → IsLeft grid x y left → HasDecoded w h d.bytes r (region_state grid d s)
    → is_run_for (nominal_pixels n) w h d.bytes r c m ≡ (neighbours_stay n m c left v && (same_colour c (get_or s (all_of (nominal_pixels n) c) fresh).likely && all_quiet m d.bytes d.registers (get_or s (all_of (nominal_pixels n) c) fresh)))
unfolding is_run_for
run-parts n m c left v w h x y seen r grid d s near most wide len within above shows before has_decoded =
    let now : Shows (so_far w h r.pixels) x y seen v = subst (λ (g : Grid). Shows g x y seen v) has_decoded.pixels shows in
    let then : IsLeft (so_far w h r.pixels) x y left = subst (λ (g : Grid). IsLeft g x y left) has_decoded.pixels before in
    rw (has_decoded.registers, has_decoded.contexts, stays-is n m c left v w h x y seen r.pixels near most wide len within above now then) refl

-- a run byte's run is one of eight pixels
pub run-of : (template : List AdaptiveTemplatePixel) (w h : ℕ) (input : List ℕ) (r : Region) (c : Bool) → is_run_of template w h input r c ≡ is_run_for template w h input r c 8
unfolding is_run_of is_run_for
run-of template w h input r c = refl

-- a run as long as the next contexts stay, or shorter
pub run-made : (n : Neighbours) (m all : ℕ) (c : Bool) (w h : ℕ) (r : Region) (grid : Grid) (d : Coder) (s : List Context) → m ≤ all → HasDecoded w h d.bytes r (region_state grid d s) → keeps_context (nominal_pixels n) w h c all r.pixels ≡ true
    → same_colour c (get_or s (all_of (nominal_pixels n) c) fresh).likely ≡ true → all_quiet m d.bytes d.registers (get_or s (all_of (nominal_pixels n) c) fresh) ≡ true → is_run_for (nominal_pixels n) w h d.bytes r c m ≡ true
unfolding is_run_for
run-made n m all c w h r grid d s few has_decoded whole colour quiet =
    let template : List AdaptiveTemplatePixel = nominal_pixels n in
    let quiet_here : all_quiet m d.bytes r.registers (get_or s (all_of template c) fresh) ≡ true = subst (λ (q : Registers). all_quiet m d.bytes q (get_or s (all_of template c) fresh) ≡ true) has_decoded.registers quiet in
    and_from _ _ (stays-from template w h c m r.pixels (λ k le. stays-gives template w h c all r.pixels k whole (omega arith)))
    (and_from _ _ (subst (λ (l : List Context). same_colour c (get_or l (all_of template c) fresh).likely ≡ true) has_decoded.contexts colour)
    (subst (λ (l : List Context). all_quiet m d.bytes r.registers (get_or l (all_of template c) fresh) ≡ true) has_decoded.contexts quiet_here))

-- the context that is all of a colour
pub context-black : (n : Neighbours) (size : ℕ) → size ≡ 2 ^ neighbour_count n → size - 1 ≡ all_of (nominal_pixels n) true
context-black n size all = rw all (sym (ap (λ (k : ℕ). full k true) (nominal-length n) ∙ full-black (neighbour_count n)))

pub context-white : (n : Neighbours) → 0 ≡ all_of (nominal_pixels n) false
context-white n = sym (full-white (length (nominal_pixels n)))

-- the colour of a run is that of the pixel at the left
pub run-colour : (n : Neighbours) (m : ℕ) (c b : Bool) (left : ℕ) (v : Windows) → IsNear n → bit left 0 ≡ b → (c ≡ b → ⊥) → neighbours_stay n m c left v ≡ false
run-colour n m c b left v near is other =
    and_left _ _ (is-false (is_field left 0 n.left c) (λ same. other (sym (field-gives left 0 n.left 0 c same near.some) ∙ is)))
  where
    is-false : (t : Bool) → (t ≡ true → ⊥) → t ≡ false
    is-false true f = absurd (f refl)
    is-false false f = refl

pub uniform-number : (n : Neighbours) (size : ℕ) (c : Bool) → size ≡ 2 ^ neighbour_count n → cond c (size - 1) 0 ≡ all_of (nominal_pixels n) c
uniform-number n size true all = context-black n size all
uniform-number n size false all = context-white n

pub not-staying : (n : Neighbours) (c : Bool) (left : ℕ) (v : Windows) (w h x y seen : ℕ) (r : Region) (grid : Grid) (d : Coder) (s : List Context) → neighbours_stay n 8 c left v ≡ false → IsNear n → 20 ≤ seen → length r.pixels ≡ y * w + x → x + 8 < w → y < h → Shows grid x y seen v → IsLeft grid x y left → HasDecoded w h d.bytes r (region_state grid d s)
    → is_run_of (nominal_pixels n) w h d.bytes r c ≡ false
not-staying n c left v w h x y seen r grid d s other near wide len within above shows before has_decoded =
    run-of (nominal_pixels n) w h d.bytes r c ∙ run-parts n 8 c left v w h x y seen r grid d s near (omega arith) (omega arith) len within above shows before has_decoded ∙ and_left _ _ other

pub and-last : (a b q : Bool) → a ≡ true → b ≡ true → (a && (b && q)) ≡ q
and-last a b q one two = rw (one, two) refl

pub and-middle : (a b q : Bool) → b ≡ false → (a && (b && q)) ≡ false
and-middle true b q none = rw none refl
and-middle false b q none = refl

-- the pixel at the left
pub lowest-bit : (left : ℕ) → bit left 0 ≡ eqb (left % 2) 1
unfolding bit
lowest-bit left = ap (λ (n : ℕ). eqb (n % 2) 1) (omega arith)
