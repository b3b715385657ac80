-- Places of cells, and the number of a value's bits.
use Rattle.std.proofs.Common.{◌≡◌, ℕ, suc, ◌+◌, ◌*◌, ◌/◌, ◌^◌, ◌<◌, ◌≤◌, Bool, true, false, ◌&&◌, ◌||◌, length, take, drop, Ok, Err, List, [], ◌∷◌, ◌++◌, map, get_or, ◌%◌, ℤ, pos, negsuc, ◌+ℤ◌, ◌-ℤ◌, refl, sym, ap, ◌∙◌, add-mul, ⊎_elim, arith}
use Rattle.std.proofs.lemmas.Bool.{and_left, and_right, cond-false, le-ltb, or_cases}
use Rattle.std.proofs.lemmas.Int.{ints}
use Rattle.std.proofs.Math.Nat.{mul-le-mul_left}
use Rattle.std.specs.Int.{int_shr, w32, w64}
use mir.Val.{SFits}
use Rattle.std.specs.List.{range_with_len}
use Rattle.std.proofs.lemmas.List.FromFn.{get_or-map-range_with_len, length-map-range_with_len, map-range_with_len_more}
use Rattle.std.proofs.lemmas.List.{drop-take, drop_all, take-append-drop, take-take, take_all}
use Rattle.std.proofs.lemmas.Nat.{mul-add-lt, div-mul-add, mod-mul-add}
use Rattle.std.proofs.Math.Seq.{drop-cons}
use Rattle.jbig2_base.specs.Grid.{Grid, grid_of, blank, pixel, pixel_at, IsTable}
use Rattle.jbig2_base.specs.declared.error.DecodeError.{DecodeError}
use Rattle.jbig2_base.specs.Combination.{combined_grid, drawn_pixel, is_below, combined_pixel}
use Rattle.jbig2_base.specs.Writes.{with_pixel}
use Rattle.jbig2_base.proofs.GridLemmas.{grid_of-ext}
use Rattle.jbig2_region.specs.Raster.{so_far}
use Rattle.jbig2_region.proofs.RasterLemmas.{so_far-push, blank-so_far}
use Rattle.jbig2_halftone.specs.Halftone.{column_of, row_of, is_beyond, pattern_for, with_cell, cells_drawn}
use Rattle.jbig2_halftone.specs.HalftoneHeader.{HalftoneHeader}
use Rattle.jbig2_halftone.specs.Patterns.{Patterns}
use Rattle.jbig2_halftone.specs.inner.CellPlaces.{x_of, y_of}
use Rattle.jbig2_halftone.specs.inner.FunctionResults.{lies_outside, skip_grid}
use Rattle.jbig2_halftone.proofs.RowLemmas.{take-some}
use Rattle.jbig2_base.specs.Results.{◌>>=◌}
use Rattle.std.specs.Prelude.{Result, int_le}
use Rattle.jbig2_base.specs.declared.bitmap.operator.CombinationOperator.{CombinationOperator}

-- a place of a cell fits 32 bits once it is in whole pixels
place-fits : (z o : ℤ) (a b : ℕ) → SFits w32 o → a < 2 ^ 32 → b < 2 ^ 32 → z ≡ o +ℤ pos a -ℤ pos b → SFits w32 (int_shr z 8)
place-fits (pos n) o a b fits first second e = record { sfits = within n (omega (arith, ints)) }
  where
    within : (n : ℕ) → n < 2 ^ 39 → n / 256 < 2 ^ 31
    within n small = omega arith
place-fits (negsuc n) o a b fits first second e = record { sfits = within n (omega (arith, ints)) }
  where
    within : (n : ℕ) → n < 2 ^ 39 → n / 256 < 2 ^ 31
    within n small = omega arith

sum-fits : (z o : ℤ) (a b : ℕ) → SFits w32 o → a < 2 ^ 32 → b < 2 ^ 32 → z ≡ o +ℤ pos a +ℤ pos b → SFits w32 (int_shr z 8)
sum-fits (pos n) o a b fits first second e = record { sfits = within n (omega (arith, ints)) }
  where
    within : (n : ℕ) → n < 2 ^ 39 → n / 256 < 2 ^ 31
    within n small = omega arith
sum-fits (negsuc n) o a b fits first second e = record { sfits = within n (omega (arith, ints)) }
  where
    within : (n : ℕ) → n < 2 ^ 39 → n / 256 < 2 ^ 31
    within n small = omega arith

product-small : (m v : ℕ) → m < 65536 → v < 65536 → m * v < 2 ^ 32
product-small m v few small = omega (arith, mul-le-mul_left {m = v} {n = 65535} m (omega arith))

-- each place fits, also in whole pixels
pub x-fits : (o : ℤ) (m n v u : ℕ) → SFits w32 o → m < 65536 → n < 65536 → v < 65536 → u < 65536 → SFits w32 (int_shr (o +ℤ pos (m * v) +ℤ pos (n * u)) 8)
x-fits o m n v u fits rows columns first second =
    let one : m * v < 2 ^ 32 = product-small m v rows first in
    let two : n * u < 2 ^ 32 = product-small n u columns second in
    sum-fits (o +ℤ pos (m * v) +ℤ pos (n * u)) o (m * v) (n * u) fits one two refl

pub y-fits : (o : ℤ) (m n v u : ℕ) → SFits w32 o → m < 65536 → n < 65536 → v < 65536 → u < 65536 → SFits w32 (int_shr (o +ℤ pos (m * v) -ℤ pos (n * u)) 8)
y-fits o m n v u fits rows columns first second = place-fits (o +ℤ pos (m * v) -ℤ pos (n * u)) o (m * v) (n * u) fits (product-small m v rows first) (product-small n u columns second) refl

-- and one step further in 64 bits
pub x-further : (o x : ℤ) (m n v u w : ℕ) → SFits w32 o → m < 65536 → n < 65536 → v < 65536 → u < 65536 → w < 65536 → x ≡ o +ℤ pos (m * v) +ℤ pos (n * u) → SFits w64 (x +ℤ pos w)
x-further o x m n v u w fits rows columns first second step e =
    let one : m * v < 2 ^ 32 = product-small m v rows first in
    let two : n * u < 2 ^ 32 = product-small n u columns second in
    rw e (sums o (m * v) (n * u) fits one two)
  where
    sums : (o : ℤ) (a b : ℕ) → SFits w32 o → a < 2 ^ 32 → b < 2 ^ 32 → SFits w64 (o +ℤ pos a +ℤ pos b +ℤ pos w)
    sums o a b fits one two = omega (arith, ints)

pub y-further : (o y : ℤ) (m n v u w : ℕ) → SFits w32 o → m < 65536 → n < 65536 → v < 65536 → u < 65536 → w < 65536 → y ≡ o +ℤ pos (m * v) -ℤ pos (n * u) → SFits w64 (y -ℤ pos w) × SFits w64 (y +ℤ pos w)
y-further o y m n v u w fits rows columns first second step e =
    let one : m * v < 2 ^ 32 = product-small m v rows first in
    let two : n * u < 2 ^ 32 = product-small n u columns second in
    rw e (sums o (m * v) (n * u) fits one two)
  where
    sums : (o : ℤ) (a b : ℕ) → SFits w32 o → a < 2 ^ 32 → b < 2 ^ 32 → SFits w64 (o +ℤ pos a -ℤ pos b -ℤ pos w) × SFits w64 (o +ℤ pos a -ℤ pos b +ℤ pos w)
    sums o a b fits one two = (omega (arith, ints), omega (arith, ints))

-- the next cell of a row
pub right-x : (o x new : ℤ) (m n v u : ℕ) → x ≡ o +ℤ pos (m * v) +ℤ pos (n * u) → new ≡ x +ℤ pos u → new ≡ o +ℤ pos (m * v) +ℤ pos ((n + 1) * u)
right-x o x new m n v u e step =
    let more : (n + 1) * u ≡ n * u + u = omega arith in
    rw (step, e, more) (sums o (m * v) (n * u) u)
  where
    sums : (o : ℤ) (a b c : ℕ) → o +ℤ pos a +ℤ pos b +ℤ pos c ≡ o +ℤ pos a +ℤ pos (b + c)
    sums o a b c = omega (arith, ints)

pub right-y : (o y new : ℤ) (m n v u : ℕ) → y ≡ o +ℤ pos (m * v) -ℤ pos (n * u) → new ≡ y -ℤ pos u → new ≡ o +ℤ pos (m * v) -ℤ pos ((n + 1) * u)
right-y o y new m n v u e step =
    let more : (n + 1) * u ≡ n * u + u = omega arith in
    rw (step, e, more) (sums o (m * v) (n * u) u)
  where
    sums : (o : ℤ) (a b c : ℕ) → o +ℤ pos a -ℤ pos b -ℤ pos c ≡ o +ℤ pos a -ℤ pos (b + c)
    sums o a b c = omega (arith, ints)

-- the first cell of the next row
pub below-x : (o x new : ℤ) (m v u : ℕ) → x ≡ o +ℤ pos (m * v) +ℤ pos (0 * u) → new ≡ x +ℤ pos v → new ≡ o +ℤ pos ((m + 1) * v) +ℤ pos (0 * u)
below-x o x new m v u e step =
    let more : (m + 1) * v ≡ m * v + v = omega arith in
    rw (step, e, more) (sums o (m * v) (0 * u) v)
  where
    sums : (o : ℤ) (a b c : ℕ) → o +ℤ pos a +ℤ pos b +ℤ pos c ≡ o +ℤ pos (a + c) +ℤ pos b
    sums o a b c = omega (arith, ints)

pub below-y : (o y new : ℤ) (m v u : ℕ) → y ≡ o +ℤ pos (m * v) -ℤ pos (0 * u) → new ≡ y +ℤ pos v → new ≡ o +ℤ pos ((m + 1) * v) -ℤ pos (0 * u)
below-y o y new m v u e step =
    let more : (m + 1) * v ≡ m * v + v = omega arith in
    rw (step, e, more) (sums o (m * v) (0 * u) v)
  where
    sums : (o : ℤ) (a b c : ℕ) → o +ℤ pos a -ℤ pos b +ℤ pos c ≡ o +ℤ pos (a + c) -ℤ pos b
    sums o a b c = omega (arith, ints)

-- ---- cells that lie outside
-- no pixel of a region lies on a source that is apart from it
apart-below : (x z : ℤ) (s p i : ℕ) → z ≡ pos i -ℤ x → is_beyond x s p ≡ true → i < p → is_below s z ≡ false
apart-below x (negsuc n) s p i e apart inside = refl
apart-below x (pos n) s p i e apart inside =
    le-ltb n s
    (⊎_elim
    (λ (before : int_le (x +ℤ pos s) (pos 0) ≡ true). grind (arith, ints))
    (λ (beyond : int_le (pos p) x ≡ true). grind (arith, ints))
    (or_cases (int_le (x +ℤ pos s) (pos 0)) (int_le (pos p) x) apart))

outside-pixel : (operator : CombinationOperator) (page source : Grid) (x y : ℤ) (i j : ℕ) → (is_beyond x source.width page.width || is_beyond y source.height page.height) ≡ true → i < page.width → j < page.height → drawn_pixel operator page source x y i j ≡ pixel_at page i j
unfolding drawn_pixel
outside-pixel operator page source x y i j outside inside below =
    cond-false (is_below source.width (pos i -ℤ x) && is_below source.height (pos j -ℤ y)) (combined_pixel operator (pixel_at page i j) (pixel source (pos i -ℤ x) (pos j -ℤ y))) (pixel_at page i j)
    (⊎_elim
    (λ (apart : is_beyond x source.width page.width ≡ true). and_left _ _ (apart-below x (pos i -ℤ x) source.width page.width i refl apart inside))
    (λ (apart : is_beyond y source.height page.height ≡ true). and_right (is_below source.width (pos i -ℤ x)) _ (apart-below y (pos j -ℤ y) source.height page.height j refl apart below))
    (or_cases (is_beyond x source.width page.width) (is_beyond y source.height page.height) outside))

-- so drawing it changes nothing
outside-combined : (operator : CombinationOperator) (page source : Grid) (x y : ℤ) → IsTable page → (is_beyond x source.width page.width || is_beyond y source.height page.height) ≡ true → page ≡ combined_grid operator page source x y
outside-combined operator page source x y known outside =
    known ∙ grid_of-ext page.width page.height (pixel_at page) (drawn_pixel operator page source x y) (λ i j inside below. sym (outside-pixel operator page source x y i j outside inside below))

pub outside-at : (operator : CombinationOperator) (page source : Grid) (x y : ℤ) (width height columns rows : ℕ) (outside : Bool) → IsTable page → width ≡ source.width → height ≡ source.height → columns ≡ page.width → rows ≡ page.height
    → outside ≡ (is_beyond x width columns || is_beyond y height rows) → outside ≡ true → page ≡ combined_grid operator page source x y
outside-at operator page source x y width height columns rows outside known wide high right bottom e off =
    outside-combined operator page source x y known (rw (sym wide, sym high, sym right, sym bottom) (sym e ∙ off))

-- ---- the cells that are skipped
-- of the first k cells, row by row, whether each is skipped
unfoldable pub skips : HalftoneHeader → Patterns → ℕ → ℕ → List Bool
skips h d w k = map (λ i. lies_outside h d (i / w) (i % w)) (range_with_len 0 k)

pub skips-start : (h : HalftoneHeader) (d : Patterns) (w rows : ℕ) (skip : Grid) → skip ≡ blank w rows false → skip ≡ so_far w rows (skips h d w (0 * w))
unfolding skips
skips-start h d w rows skip white =
    let none : 0 * w ≡ 0 = omega arith in
    rw none (white ∙ blank-so_far w rows)

pub skips-next : (h : HalftoneHeader) (d : Patterns) (w rows m n : ℕ) (old new : Grid) (outside : Bool) → n < w → m < rows → old ≡ so_far w rows (skips h d w (m * w + n)) → outside ≡ lies_outside h d m n → new ≡ with_pixel old n m outside → new ≡ so_far w rows (skips h d w (m * w + (n + 1)))
unfolding skips
skips-next h d w rows m n old new outside left above before is_outside written =
    let f : ℕ → Bool = λ i. lies_outside h d (i / w) (i % w) in
    let here : outside ≡ f (m * w + n) = is_outside ∙ sym (ap (λ (k : ℕ). lies_outside h d k ((m * w + n) % w)) (div-mul-add m w n left) ∙ ap (λ (k : ℕ). lies_outside h d m k) (mod-mul-add m w n left)) in
    let one : m * w + (n + 1) ≡ m * w + n + 1 = omega arith in
    written
    ∙ ap (λ (g : Grid). with_pixel g n m outside) before
    ∙ so_far-push w rows (map f (range_with_len 0 (m * w + n))) n m outside (length-map-range_with_len f 0 (m * w + n)) left above
    ∙ ap (λ (b : Bool). so_far w rows (map f (range_with_len 0 (m * w + n)) ++ b ∷ [])) here
    ∙ ap (λ (bits : List Bool). so_far w rows bits) (sym (map-range_with_len_more f 0 (m * w + n) (m * w + n) (omega arith)))
    ∙ ap (λ (k : ℕ). so_far w rows (map f (range_with_len 0 k))) (sym one)

pub skips-all : (h : HalftoneHeader) (d : Patterns) (m : ℕ) (skip : Grid) → m ≡ h.grid_position_and_size.height → skip ≡ so_far h.grid_position_and_size.width h.grid_position_and_size.height (skips h d h.grid_position_and_size.width (m * h.grid_position_and_size.width)) → skip_grid h d ≡ skip
unfolding skips so_far
skips-all h d m skip whole e =
    let w : ℕ = h.grid_position_and_size.width in
    let rows : ℕ = h.grid_position_and_size.height in
    sym
    (e ∙ ap (λ (k : ℕ). grid_of w rows (λ x y. get_or (map (λ i. lies_outside h d (i / w) (i % w)) (range_with_len 0 (k * w))) (y * w + x) false)) whole
    ∙ grid_of-ext w rows (λ x y. get_or (map (λ i. lies_outside h d (i / w) (i % w)) (range_with_len 0 (rows * w))) (y * w + x) false) (λ n m. lies_outside h d m n)
    (λ x y left above.
    get_or-map-range_with_len (λ i. lies_outside h d (i / w) (i % w)) 0 (rows * w) (y * w + x) (y * w + x) false (inside y w x rows above left) (omega arith)
    ∙ ap (λ (k : ℕ). lies_outside h d k ((y * w + x) % w)) (div-mul-add y w x left)
    ∙ ap (λ (k : ℕ). lies_outside h d y k) (mod-mul-add y w x left)))
  where
    inside : (y w x rows : ℕ) → y < rows → x < w → y * w + x < rows * w
    inside y w x rows above left = omega (arith, mul-add-lt y w x rows above left)

-- ---- the cells that are drawn
pub cells-next : (h : HalftoneHeader) (d : Patterns) (k n : ℕ) (values : List ℕ) (region pattern : Grid) → n < length values → pattern_for h.strict d.grids (get_or values n 0) ≡ Ok pattern → cells_drawn h d k (drop n values) region ≡ cells_drawn h d (k + 1) (drop (n + 1) values) (with_cell h k pattern region)
unfolding cells_drawn
cells-next h d k n values region pattern inside e =
    let one : suc n ≡ n + 1 = omega arith in
    rw (drop-cons values n 0 inside, e) (ap (λ (m : ℕ). cells_drawn h d (k + 1) (drop m values) (with_cell h k pattern region)) one)

pub cells-fault : (h : HalftoneHeader) (d : Patterns) (k n : ℕ) (values : List ℕ) (region : Grid) (error : DecodeError) → n < length values → pattern_for h.strict d.grids (get_or values n 0) ≡ Err error → cells_drawn h d k (drop n values) region ≡ Err error
unfolding cells_drawn
cells-fault h d k n values region error inside e = rw (drop-cons values n 0 inside, e)

pub cells-all : (h : HalftoneHeader) (d : Patterns) (k n : ℕ) (values : List ℕ) (region : Grid) → length values ≤ n → cells_drawn h d k (drop n values) region ≡ Ok region
unfolding cells_drawn
cells-all h d k n values region all = rw (drop_all n values all)

-- cell n of row m
pub cell-made : (h : HalftoneHeader) (m n : ℕ) (region pattern new : Grid) (x y : ℤ) → n < h.grid_position_and_size.width → x ≡ x_of h m n → y ≡ y_of h m n
    → new ≡ combined_grid h.flags.combination_operator region pattern (int_shr x 8) (int_shr y 8) → new ≡ with_cell h (m * h.grid_position_and_size.width + n) pattern region
cell-made h m n region pattern new x y inside column row drawn =
    let w : ℕ = h.grid_position_and_size.width in
    let k : ℕ = m * w + n in
    let at : column_of h m n ≡ column_of h (k / w) (k % w) = sym (ap (λ (i : ℕ). column_of h i (k % w)) (div-mul-add m w n inside) ∙ ap (λ (i : ℕ). column_of h m i) (mod-mul-add m w n inside)) in
    let above : row_of h m n ≡ row_of h (k / w) (k % w) = sym (ap (λ (i : ℕ). row_of h i (k % w)) (div-mul-add m w n inside) ∙ ap (λ (i : ℕ). row_of h m i) (mod-mul-add m w n inside)) in
    drawn
    ∙ ap (λ (z : ℤ). combined_grid h.flags.combination_operator region pattern z (int_shr y 8)) (ap (λ (z : ℤ). int_shr z 8) column ∙ at)
    ∙ ap (λ (z : ℤ). combined_grid h.flags.combination_operator region pattern (column_of h (k / w) (k % w)) z) (ap (λ (z : ℤ). int_shr z 8) row ∙ above)

-- a cell that is skipped
pub outside-known : (h : HalftoneHeader) (d : Patterns) (m n : ℕ) (x y : ℤ) (outside : Bool) → x ≡ x_of h m n → y ≡ y_of h m n → outside ≡ (is_beyond (int_shr x 8) d.width h.region_info.width || is_beyond (int_shr y 8) d.height h.region_info.height) → outside ≡ lies_outside h d m n
outside-known h d m n x y outside column row e =
    e
    ∙ ap (λ (z : ℤ). is_beyond (int_shr z 8) d.width h.region_info.width || is_beyond (int_shr y 8) d.height h.region_info.height) column
    ∙ ap (λ (z : ℤ). is_beyond (column_of h m n) d.width h.region_info.width || is_beyond (int_shr z 8) d.height h.region_info.height) row

-- cells, and those after them
pub cells-append : (h : HalftoneHeader) (d : Patterns) (k : ℕ) (values others : List ℕ) (region : Grid) → cells_drawn h d k (values ++ others) region ≡ (cells_drawn h d k values region >>= λ drawn. cells_drawn h d (k + length values) others drawn)
unfolding cells_drawn
cells-append h d k [] others region =
    let none : k + 0 ≡ k = omega arith in
    rw none refl
cells-append h d k (value ∷ values) others region = next (pattern_for h.strict d.grids value) (λ pattern. cells-append h d (k + 1) values others (with_cell h k pattern region))
  where
    more : k + 1 + length values ≡ k + length (value ∷ values)
    more = omega arith

    next : (r : Result Grid DecodeError)
        → ((pattern : Grid) → cells_drawn h d (k + 1) (values ++ others) (with_cell h k pattern region) ≡ (cells_drawn h d (k + 1) values (with_cell h k pattern region) >>= λ drawn. cells_drawn h d (k + 1 + length values) others drawn))
        → (r >>= λ pattern. cells_drawn h d (k + 1) (values ++ others) (with_cell h k pattern region)) ≡ ((r >>= λ pattern. cells_drawn h d (k + 1) values (with_cell h k pattern region)) >>= λ drawn. cells_drawn h d (k + length (value ∷ values)) others drawn)
    next (Err e) each = refl
    next (Ok pattern) each = each pattern ∙ ap (λ (n : ℕ). cells_drawn h d (k + 1) values (with_cell h k pattern region) >>= λ drawn. cells_drawn h d n others drawn) more

-- a row more
pub rows-drawn : (h : HalftoneHeader) (d : Patterns) (w m n : ℕ) (values row : List ℕ) (start region : Grid) → n ≡ w → m * w + w ≤ length values → row ≡ take n (drop (m * w) values) → cells_drawn h d 0 (take (m * w) values) start ≡ Ok region
    → cells_drawn h d 0 (take ((m + 1) * w) values) start ≡ cells_drawn h d (m * w) row region
rows-drawn h d w m n values row start region wide inside is before =
    let sum : (m + 1) * w ≡ m * w + w = omega (arith, add-mul m 1 w) in
    let place : 0 + length (take (m * w) values) ≡ m * w = omega (arith, take-some (m * w) values (omega arith)) in
    ap (λ (k : ℕ). cells_drawn h d 0 (take k values) start) sum
    ∙ ap (λ (vs : List ℕ). cells_drawn h d 0 vs start) (take-then (m * w) w values ∙ ap (λ (k : ℕ). take (m * w) values ++ take k (drop (m * w) values)) (sym wide) ∙ ap (λ (vs : List ℕ). take (m * w) values ++ vs) (sym is))
    ∙ cells-append h d 0 (take (m * w) values) row start
    ∙ rw (before, place) refl
  where
    take-then : (a b : ℕ) (xs : List ℕ) → take (a + b) xs ≡ take a xs ++ take b (drop a xs)
    take-then a b xs = sym (take-append-drop a (take (a + b) xs)) ∙ ap (λ (vs : List ℕ). vs ++ drop a (take (a + b) xs)) (take-take a (a + b) xs (omega arith)) ∙ ap (λ (vs : List ℕ). take a xs ++ vs) (drop-take a b xs)

-- a fault in a row is the region's
pub rows-fault : (h : HalftoneHeader) (d : Patterns) (k : ℕ) (values : List ℕ) (start : Grid) (error : DecodeError) → cells_drawn h d 0 (take k values) start ≡ Err error → cells_drawn h d 0 values start ≡ Err error
rows-fault h d k values start error fault =
    ap (λ (vs : List ℕ). cells_drawn h d 0 vs start) (sym (take-append-drop k values))
    ∙ cells-append h d 0 (take k values) (drop k values) start
    ∙ rw fault refl

pub cells-first : (h : HalftoneHeader) (d : Patterns) (m : ℕ) (values : List ℕ) (region : Grid) → cells_drawn h d (m * h.grid_position_and_size.width + 0) (drop 0 values) region ≡ cells_drawn h d (m * h.grid_position_and_size.width) values region
cells-first h d m values region =
    let first : m * h.grid_position_and_size.width + 0 ≡ m * h.grid_position_and_size.width = omega arith in
    rw first refl

pub rows-none : (h : HalftoneHeader) (d : Patterns) (w : ℕ) (values : List ℕ) (region : Grid) → cells_drawn h d 0 (take (0 * w) values) region ≡ Ok region
unfolding cells_drawn
rows-none h d w values region =
    let none : 0 * w ≡ 0 = omega arith in
    rw none refl

-- all rows
pub rows-whole : (h : HalftoneHeader) (d : Patterns) (k : ℕ) (values : List ℕ) (start region : Grid) → length values ≤ k → cells_drawn h d 0 (take k values) start ≡ Ok region → cells_drawn h d 0 values start ≡ Ok region
rows-whole h d k values start region all drawn = sym (ap (λ (vs : List ℕ). cells_drawn h d 0 vs start) (take_all k values all)) ∙ drawn
