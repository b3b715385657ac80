-- The block of a page that a source lies on, against the combination at any whole numbers.
use Rattle.std.proofs.Common.{◌≡◌, ℕ, ◌+◌, ◌-◌, ◌*◌, ◌<◌, ◌≤◌, min, zero, suc, true, false, ◌&&◌, eqb, ℤ, pos, negsuc, ◌-ℤ◌, refl, sym, ap, subst, ◌∙◌, ◌⊎◌, inl, inr, ⊎_elim, arith}
use Rattle.std.proofs.lemmas.Bool.{cases_eq, cases_lt, cond-true, cond-false, eq-eqb, ne_eqb, and_from, and_left, and_right, lt-ltb, le-ltb}
use Rattle.std.proofs.lemmas.Int.{ints, to_z-of_z}
use Rattle.std.specs.Prelude.{int_le, nat_abs}
use mir.Syntax.{w32}
use mir.Val.{SFits, to_z, of_z}
use Rattle.jbig2_base.specs.declared.bitmap.operator.CombinationOperator.{CombinationOperator}
use Rattle.jbig2_base.specs.Counts.{Counts}
use Rattle.jbig2_base.specs.Grid.{Grid, pixel_at, pixel, IsTable}
use Rattle.jbig2_base.specs.{Combination.{combined_pixel, is_below, drawn_pixel, combined_grid}, Counts.{overlap, most_words, first_under, first_shown, rows_combined, source_combined, WritesWithin}}
use Rattle.jbig2_base.specs.inner.Blocks.{LiesOn, block_pixel, with_block}
use Rattle.jbig2_base.specs.inner.Combines.{block_of}
use Rattle.jbig2_base.proofs.CountLemmas.{rows-none, within-rows}
use Rattle.jbig2_base.proofs.GridLemmas.{grid_of-ext}
use Rattle.jbig2_base.proofs.BlockLemmas.{block-in, block-out, block-none}

-- ---- one axis
-- Where a source of size s that begins at x lies on a page of size p: on its n places from `start` on,
-- the first of which has the source's place `from`.
pub record Axis (x : ℤ) (p s start from n : ℕ) : Type 0 where
  pub difference : x ≡ pos start -ℤ pos from
  pub one : min start from ≡ 0
  pub size : n ≡ min (s - from) (p - start)

-- the same of a parameter of 32 bits
pub axis-at : (x : ℤ) (p s start from n : ℕ) → SFits w32 x → to_z w32 (of_z w32 x) ≡ pos start -ℤ pos from → min start from ≡ 0 → n ≡ min (s - from) (p - start) → Axis x p s start from n
axis-at x p s start from n fits difference one size = record { difference = sym (to_z-of_z w32 x fits) ∙ difference; one = one; size = size }

axis-place : (x : ℤ) (start from i : ℕ) → x ≡ pos start -ℤ pos from → start ≤ i → (pos i -ℤ x) ≡ pos (from + (i - start))
axis-place x start from i e reached = ap (λ (z : ℤ). pos i -ℤ z) e ∙ omega (arith, ints)

axis-before : (x : ℤ) (start from i : ℕ) → x ≡ pos start -ℤ pos from → from ≡ 0 → i < start → (pos i -ℤ x) ≡ negsuc (start - i - 1)
axis-before x start from i e none before = ap (λ (z : ℤ). pos i -ℤ z) e ∙ omega (arith, ints)

axis_cases : (x : ℤ) (p s start from n i : ℕ) → Axis x p s start from n → i < p → ((start ≤ i) × (i < start + n) × ((pos i -ℤ x) ≡ pos (from + (i - start))) × (from + (i - start) < s)) ⊎ ((start ≤ i → i < start + n → ⊥) × (is_below s (pos i -ℤ x) ≡ false))
axis_cases x p s start from n i axis inside =
    let size = axis.size in
    let one = axis.one in
    ⊎_elim
    (λ (before : i < start). inr ((λ a b. omega arith), ap (λ (z : ℤ). is_below s z) (axis-before x start from i axis.difference (omega arith) before)))
    (λ (reached : start ≤ i).
    let place = axis-place x start from i axis.difference reached in
    ⊎_elim
    (λ (within : i < start + n). inl (reached, within, place, omega arith))
    (λ (past : start + n ≤ i). inr ((λ a b. omega arith), ap (λ (z : ℤ). is_below s z) place ∙ le-ltb (from + (i - start)) s (omega arith)))
    (cases_lt i (start + n)))
    (cases_lt i start)

pub overlap-is : (x : ℤ) (p s start from n : ℕ) → Axis x p s start from n → overlap p s x ≡ n
overlap-is x p s start zero n axis =
    let size = axis.size in
    let here : x ≡ pos start = axis.difference ∙ omega (arith, ints) in
    ap (λ (z : ℤ). overlap p s z) here ∙ omega arith
overlap-is x p s start (suc from) n axis =
    let size = axis.size in
    let one = axis.one in
    let left : start ≡ 0 = omega arith in
    let here : x ≡ negsuc from = axis.difference ∙ omega (arith, ints, left) in
    ap (λ (z : ℤ). overlap p s z) here ∙ omega arith

-- ---- both
drawn-in : (operator : CombinationOperator) (page source : Grid) (x y : ℤ) (i j : ℕ) → is_below source.width (pos i -ℤ x) ≡ true → is_below source.height (pos j -ℤ y) ≡ true → drawn_pixel operator page source x y i j ≡ combined_pixel operator (pixel_at page i j) (pixel source (pos i -ℤ x) (pos j -ℤ y))
unfolding drawn_pixel
drawn-in operator page source x y i j a b = cond-true (is_below source.width (pos i -ℤ x) && is_below source.height (pos j -ℤ y)) (combined_pixel operator (pixel_at page i j) (pixel source (pos i -ℤ x) (pos j -ℤ y))) (pixel_at page i j) (and_from _ _ a b)

drawn-out : (operator : CombinationOperator) (page source : Grid) (x y : ℤ) (i j : ℕ) → (is_below source.width (pos i -ℤ x) && is_below source.height (pos j -ℤ y)) ≡ false → drawn_pixel operator page source x y i j ≡ pixel_at page i j
unfolding drawn_pixel
drawn-out operator page source x y i j a = cond-false (is_below source.width (pos i -ℤ x) && is_below source.height (pos j -ℤ y)) (combined_pixel operator (pixel_at page i j) (pixel source (pos i -ℤ x) (pos j -ℤ y))) (pixel_at page i j) a

block-combined : (operator : CombinationOperator) (page source : Grid) (x y : ℤ) (left from columns top from_row rows : ℕ) → Axis x page.width source.width left from columns → Axis y page.height source.height top from_row rows → with_block operator page source left (left + columns) top (top + rows) from from_row ≡ combined_grid operator page source x y
block-combined operator page source x y left from columns top from_row rows across down =
    grid_of-ext page.width page.height (block_pixel operator page source left (left + columns) top (top + rows) from from_row) (drawn_pixel operator page source x y)
    (λ i j inside below.
    ⊎_elim
    (λ (a : (left ≤ i) × (i < left + columns) × ((pos i -ℤ x) ≡ pos (from + (i - left))) × (from + (i - left) < source.width)).
    ⊎_elim
    (λ (b : (top ≤ j) × (j < top + rows) × ((pos j -ℤ y) ≡ pos (from_row + (j - top))) × (from_row + (j - top) < source.height)).
    block-in operator page source left (left + columns) top (top + rows) from from_row i j a.0 a.1 b.0 b.1
    ∙ ap (λ (z : ℤ). combined_pixel operator (pixel_at page i j) (pixel source (pos (from + (i - left))) z)) (sym b.2)
    ∙ ap (λ (z : ℤ). combined_pixel operator (pixel_at page i j) (pixel source z (pos j -ℤ y))) (sym a.2)
    ∙ sym (drawn-in operator page source x y i j (ap (λ (z : ℤ). is_below source.width z) a.2 ∙ lt-ltb (from + (i - left)) source.width a.3) (ap (λ (z : ℤ). is_below source.height z) b.2 ∙ lt-ltb (from_row + (j - top)) source.height b.3)))
    (λ (b : (top ≤ j → j < top + rows → ⊥) × (is_below source.height (pos j -ℤ y) ≡ false)).
    block-out operator page source left (left + columns) top (top + rows) from from_row i j (λ p q r s. b.0 r s)
    ∙ sym (drawn-out operator page source x y i j (and_right (is_below source.width (pos i -ℤ x)) _ b.1)))
    (axis_cases y page.height source.height top from_row rows j down below))
    (λ (a : (left ≤ i → i < left + columns → ⊥) × (is_below source.width (pos i -ℤ x) ≡ false)).
    block-out operator page source left (left + columns) top (top + rows) from from_row i j (λ p q r s. a.0 p q)
    ∙ sym (drawn-out operator page source x y i j (and_left _ (is_below source.height (pos j -ℤ y)) a.1)))
    (axis_cases x page.width source.width left from columns i across inside))

-- all rows are drawn
pub rows-combined : (operator : CombinationOperator) (page source after : Grid) (x y : ℤ) (left from columns top from_row rows done : ℕ) → Axis x page.width source.width left from columns → Axis y page.height source.height top from_row rows → done ≡ rows → after ≡ with_block operator page source left (left + columns) top (top + done) from from_row → after ≡ combined_grid operator page source x y
rows-combined operator page source after x y left from columns top from_row rows done across down all drawn =
    drawn
    ∙ ap (λ (n : ℕ). with_block operator page source left (left + columns) top (top + n) from from_row) all
    ∙ block-combined operator page source x y left from columns top from_row rows across down

-- there is nothing to draw
pub none-combined : (operator : CombinationOperator) (page source : Grid) (x y : ℤ) (left from columns top from_row rows : ℕ) → Axis x page.width source.width left from columns → Axis y page.height source.height top from_row rows → IsTable page → (columns ≡ 0) ⊎ (rows ≡ 0) → page ≡ combined_grid operator page source x y
none-combined operator page source x y left from columns top from_row rows across down known none =
    rows-combined operator page source page x y left from columns top from_row rows rows across down refl
    (block-none operator page source left (left + columns) top (top + rows) from from_row known (⊎_elim (λ (e : columns ≡ 0). inl (omega arith)) (λ (e : rows ≡ 0). inr (omega arith)) none))

pub within-overlap : (page source : Grid) (x y : ℤ) (left from columns top from_row rows done : ℕ) (s t : Counts) → Axis x page.width source.width left from columns → Axis y page.height source.height top from_row rows → done ≡ rows → WritesWithin (done * most_words columns) s t → WritesWithin (overlap page.height source.height y * most_words (overlap page.width source.width x)) s t
within-overlap page source x y left from columns top from_row rows done s t across down all within =
    let high : done ≡ overlap page.height source.height y = all ∙ sym (overlap-is y page.height source.height top from_row rows down) in
    let wide : columns ≡ overlap page.width source.width x = sym (overlap-is x page.width source.width left from columns across) in
    subst (λ (n : ℕ). WritesWithin n s t)
    (ap (λ (r : ℕ). r * most_words columns) high ∙ ap (λ (w : ℕ). overlap page.height source.height y * most_words w) wide)
    within

-- ---- counts
axis-first : (x : ℤ) (p s start from n : ℕ) → Axis x p s start from n → (first_under x ≡ start) × (first_shown x ≡ from)
axis-first x p s start zero n axis =
    let here : x ≡ pos start = axis.difference ∙ omega (arith, ints) in
    (ap first_under here, ap first_shown here)
axis-first x p s start (suc from) n axis =
    let one = axis.one in
    let left : start ≡ 0 = omega arith in
    let here : x ≡ negsuc from = axis.difference ∙ omega (arith, ints, left) in
    (ap first_under here ∙ sym left, ap first_shown here ∙ omega arith)

pub all-counts : (page source : Grid) (x y : ℤ) (left from columns top from_row rows : ℕ) (s t : Counts) → Axis x page.width source.width left from columns → Axis y page.height source.height top from_row rows → 0 < columns → t ≡ rows_combined rows left columns from s → t ≡ source_combined page source x y s
all-counts page source x y left from columns top from_row rows s t across down some e =
    let h : ℕ = overlap page.height source.height y in
    let w : ℕ = overlap page.width source.width x in
    let high : h ≡ rows = overlap-is y page.height source.height top from_row rows down in
    let wide : w ≡ columns = overlap-is x page.width source.width left from columns across in
    let first = axis-first x page.width source.width left from columns across in
    e
    ∙ ap (λ (r : ℕ). rows_combined r left columns from s) (sym high)
    ∙ ap (λ (l : ℕ). rows_combined h l columns from s) (sym first.0)
    ∙ ap (λ (c : ℕ). rows_combined h (first_under x) c from s) (sym wide)
    ∙ ap (λ (f : ℕ). rows_combined h (first_under x) w f s) (sym first.1)
    ∙ sym (cond-false (eqb w 0) s (rows_combined h (first_under x) w (first_shown x) s) (ne_eqb w 0 (λ none. omega (arith, none, wide, some))))

pub no-counts : (page source : Grid) (x y : ℤ) (left from columns top from_row rows : ℕ) (s : Counts) → Axis x page.width source.width left from columns → Axis y page.height source.height top from_row rows → (columns ≡ 0) ⊎ (rows ≡ 0) → s ≡ source_combined page source x y s
no-counts page source x y left from columns top from_row rows s across down none =
    let h : ℕ = overlap page.height source.height y in
    let w : ℕ = overlap page.width source.width x in
    let high : h ≡ rows = overlap-is y page.height source.height top from_row rows down in
    let wide : w ≡ columns = overlap-is x page.width source.width left from columns across in
    ⊎_elim
    (λ (nothing : w ≡ 0). sym (cond-true (eqb w 0) s (rows_combined h (first_under x) w (first_shown x) s) (eq-eqb w 0 nothing)))
    (λ (some : w ≡ 0 → ⊥).
    let no_rows : h ≡ 0 = ⊎_elim (λ (e : columns ≡ 0). absurd (some (wide ∙ e))) (λ (e : rows ≡ 0). high ∙ e) none in
    rows-none (first_under x) w (first_shown x) h s no_rows
    ∙ sym (cond-false (eqb w 0) s (rows_combined h (first_under x) w (first_shown x) s) (ne_eqb w 0 some)))
    (cases_eq w 0)

-- a source that lies wholly on the page
whole-axis : (x : ℤ) (p s start : ℕ) → x ≡ pos start → start + s ≤ p → Axis x p s start 0 s
whole-axis x p s start e fits = record { difference = e ∙ omega (arith, ints); one = omega arith; size = omega arith }

pub stamp-within : (page source : Grid) (x y : ℤ) (left top : ℕ) (s t : Counts) → x ≡ pos left → y ≡ pos top → LiesOn page source (block_of source left top) → t ≡ rows_combined source.height left source.width 0 s → WritesWithin (overlap page.height source.height y * most_words (overlap page.width source.width x)) s t
stamp-within page source x y left top s t column row inside e =
    within-overlap page source x y left 0 source.width top 0 source.height source.height s t (whole-axis x page.width source.width left column inside.right) (whole-axis y page.height source.height top row inside.bottom) refl (within-rows left source.width 0 source.height s t inside.some e)

pub stamp-counts : (page source : Grid) (x y : ℤ) (left top : ℕ) (s t : Counts) → x ≡ pos left → y ≡ pos top → LiesOn page source (block_of source left top) → t ≡ rows_combined source.height left source.width 0 s → t ≡ source_combined page source x y s
stamp-counts page source x y left top s t column row inside e =
    all-counts page source x y left 0 source.width top 0 source.height s t (whole-axis x page.width source.width left column inside.right) (whole-axis y page.height source.height top row inside.bottom) inside.some e

pub stamp-combined : (operator : CombinationOperator) (page source after : Grid) (x y : ℤ) (left top : ℕ) → x ≡ pos left → y ≡ pos top → left + source.width ≤ page.width → top + source.height ≤ page.height → after ≡ with_block operator page source left (left + source.width) top (top + source.height) 0 0 → after ≡ combined_grid operator page source x y
stamp-combined operator page source after x y left top column row right bottom drawn =
    rows-combined operator page source after x y left 0 source.width top 0 source.height source.height (whole-axis x page.width source.width left column right) (whole-axis y page.height source.height top row bottom) refl drawn

-- a place that is not negative, as a number without a sign
pub as-natural : (x : ℤ) → SFits w32 x → int_le (pos 0) (to_z w32 (of_z w32 x)) ≡ true → x ≡ pos (nat_abs (to_z w32 (of_z w32 x)))
as-natural x fits reached = subst (λ (z : ℤ). x ≡ pos (nat_abs z)) (sym (to_z-of_z w32 x fits)) (plain x (subst (λ (z : ℤ). int_le (pos 0) z ≡ true) (to_z-of_z w32 x fits) reached))
  where
    plain : (z : ℤ) → int_le (pos 0) z ≡ true → z ≡ pos (nat_abs z)
    plain (pos n) e = refl
    plain (negsuc n) e = grind (arith, ints)
