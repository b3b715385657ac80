-- A bitmap that is filled from the top, each row from the left, some pixels of a row at a time; and so a part that is cut
-- out of another.
use Rattle.std.proofs.Common.{◌≡◌, ℕ, ◌+◌, ◌-◌, ◌*◌, min, ◌<◌, ◌≤◌, Bool, Ok, true, false, ◌&&◌, ◌||◌, cond, eqb, ltb, leb, refl, sym, ap, ◌∙◌, ⊎_elim, arith}
use Rattle.std.proofs.lemmas.Bool.{cases_lt, cond-true, cond-false, and_from, and_left, and_right, or_from, or_left, or_right, lt-ltb, le-ltb, eq-eqb, ne_eqb}
use Rattle.jbig2_base.specs.Grid.{Grid, grid_of, blank, pixel_at, part_of, part_or_overflow, blank_or_overflow}
use Rattle.jbig2_base.specs.Bits.{bit}
use Rattle.jbig2_base.specs.Writes.{with_pixels}
use Rattle.jbig2_base.specs.inner.GridsBefore.{pixel_of_part, is_before, grid_before}
use Rattle.jbig2_base.specs.declared.bitmap.part.Area.{Area}
use Rattle.std.specs.Prelude.{nat_lt}
use Rattle.jbig2_base.specs.Results.{◌>>=◌, refuse_if}
use Rattle.jbig2_base.specs.declared.error.DecodeError.TheVariants.{Overflow}
use Rattle.jbig2_base.specs.declared.error.OverflowError.TheVariants.{BitmapDimension}
use Rattle.jbig2_base.proofs.GridLemmas.{grid_of-ext, pixel_at-grid_of}
use Rattle.jbig2_base.proofs.WriteLemmas.{in_field, before_field, after_field, other_row}

before-row : (y x i j : ℕ) → j < y → is_before y x i j ≡ true
unfolding is_before
before-row y x i j above = or_left _ _ (lt-ltb j y above)

before-column : (y x i j : ℕ) → j ≡ y → i < x → is_before y x i j ≡ true
unfolding is_before
before-column y x i j here left = or_right _ _ (and_from _ _ (eq-eqb j y here) (lt-ltb i x left))

after-column : (y x i j : ℕ) → j ≡ y → x ≤ i → is_before y x i j ≡ false
unfolding is_before
after-column y x i j here right = or_from _ _ (le-ltb j y (omega arith)) (and_right _ _ (le-ltb i x right))

after-row : (y x i j : ℕ) → y < j → is_before y x i j ≡ false
unfolding is_before
after-row y x i j below = or_from _ _ (le-ltb j y (omega arith)) (and_left _ _ (ne_eqb j y (λ e. omega arith)))

before-none : (i j : ℕ) → is_before 0 0 i j ≡ false
unfolding is_before
before-none i j = or_from _ _ (le-ltb j 0 (omega arith)) (and_right _ _ (le-ltb i 0 (omega arith)))

-- ---- a bitmap that is filled
pub filled-none : (w h : ℕ) (f : ℕ → ℕ → Bool) → blank w h false ≡ grid_before w h f 0 0
filled-none w h f = grid_of-ext w h (λ _ _. false) (λ i j. is_before 0 0 i j && f i j) (λ i j _ _. sym (and_left _ _ (before-none i j)))

row-whole : (w y i j : ℕ) → i < w → is_before y w i j ≡ is_before (y + 1) 0 i j
row-whole w y i j left =
    ⊎_elim (λ (old : j < y). before-row y w i j old ∙ sym (before-row (y + 1) 0 i j (omega arith)))
    (λ (rest : y ≤ j).
    ⊎_elim (λ (here : j < y + 1). before-column y w i j (omega arith) left ∙ sym (before-row (y + 1) 0 i j here))
    (λ (below : y + 1 ≤ j).
    after-row y w i j (omega arith)
    ∙ sym (⊎_elim (λ (far : y + 1 < j). after-row (y + 1) 0 i j far) (λ (near : j ≤ y + 1). after-column (y + 1) 0 i j (omega arith) (omega arith)) (cases_lt (y + 1) j)))
    (cases_lt j (y + 1)))
    (cases_lt j y)

pub filled-row : (w h : ℕ) (f : ℕ → ℕ → Bool) (y : ℕ) → grid_before w h f y w ≡ grid_before w h f (y + 1) 0
filled-row w h f y = grid_of-ext w h (λ i j. is_before y w i j && f i j) (λ i j. is_before (y + 1) 0 i j && f i j) (λ i j left above. ap (λ (b : Bool). b && f i j) (row-whole w y i j left))

pub filled-all : (w h : ℕ) (f : ℕ → ℕ → Bool) → grid_before w h f h 0 ≡ grid_of w h f
filled-all w h f = grid_of-ext w h (λ i j. is_before h 0 i j && f i j) f (λ i j _ above. ap (λ (b : Bool). b && f i j) (before-row h 0 i j above))

-- some pixels of row y are written
pub filled-store : (w h : ℕ) (f : ℕ → ℕ → Bool) (y x count bits : ℕ) (before after : Grid) → x + count ≤ w → y < h → ((k : ℕ) → k < count → bit bits (count - 1 - k) ≡ f (x + k) y) → before ≡ grid_before w h f y x → after ≡ with_pixels before x y count bits → after ≡ grid_before w h f y (x + count)
filled-store w h f y x count bits before after within above reads is_filled written =
    written
    ∙ ap (λ (g : Grid). with_pixels g x y count bits) is_filled
    ∙ grid_of-ext w h (λ i j. cond (eqb j y && leb x i && ltb i (x + count)) (bit bits (x + count - 1 - i)) (pixel_at (grid_before w h f y x) i j)) (λ i j. is_before y (x + count) i j && f i j) same
  where
    old : (i j : ℕ) → i < w → j < h → (eqb j y && leb x i && ltb i (x + count)) ≡ false → is_before y x i j ≡ is_before y (x + count) i j → cond (eqb j y && leb x i && ltb i (x + count)) (bit bits (x + count - 1 - i)) (pixel_at (grid_before w h f y x) i j) ≡ (is_before y (x + count) i j && f i j)
    old i j left up outside kept =
        cond-false (eqb j y && leb x i && ltb i (x + count)) (bit bits (x + count - 1 - i)) (pixel_at (grid_before w h f y x) i j) outside
        ∙ pixel_at-grid_of w h (λ i j. is_before y x i j && f i j) i j left up
        ∙ ap (λ (b : Bool). b && f i j) kept

    here : (i : ℕ) → i < w → cond (eqb y y && leb x i && ltb i (x + count)) (bit bits (x + count - 1 - i)) (pixel_at (grid_before w h f y x) i y) ≡ (is_before y (x + count) i y && f i y)
    here i left =
        ⊎_elim
        (λ (done : i < x). old i y left above (before_field x y count i y done) (before-column y x i y refl done ∙ sym (before-column y (x + count) i y refl (omega arith))))
        (λ (reached : x ≤ i).
        ⊎_elim
        (λ (new : i < x + count).
        let place : count - 1 - (i - x) ≡ x + count - 1 - i = omega arith in
        let column : x + (i - x) ≡ i = omega arith in
        cond-true (eqb y y && leb x i && ltb i (x + count)) (bit bits (x + count - 1 - i)) (pixel_at (grid_before w h f y x) i y) (in_field x y count i y refl reached new)
        ∙ ap (λ (k : ℕ). bit bits k) (sym place)
        ∙ reads (i - x) (omega arith)
        ∙ ap (λ (k : ℕ). f k y) column
        ∙ ap (λ (b : Bool). b && f i y) (sym (before-column y (x + count) i y refl new)))
        (λ (out : x + count ≤ i). old i y left above (after_field x y count i y out) (after-column y x i y refl (omega arith) ∙ sym (after-column y (x + count) i y refl out)))
        (cases_lt i (x + count)))
        (cases_lt i x)

    same : (i j : ℕ) → i < w → j < h → cond (eqb j y && leb x i && ltb i (x + count)) (bit bits (x + count - 1 - i)) (pixel_at (grid_before w h f y x) i j) ≡ (is_before y (x + count) i j && f i j)
    same i j left up =
        ⊎_elim (λ (over : j < y). old i j left up (other_row x y count i j (λ e. omega arith)) (before-row y x i j over ∙ sym (before-row y (x + count) i j over)))
        (λ (rest : y ≤ j).
        ⊎_elim
        (λ (below : y < j). old i j left up (other_row x y count i j (λ e. omega arith)) (after-row y x i j below ∙ sym (after-row y (x + count) i j below)))
        (λ (equal : j ≤ y). let is : j ≡ y = omega arith in rw is (here i left))
        (cases_lt y j))
        (cases_lt j y)

-- the next 64 pixels of a row, copied from another bitmap
pub copied : (from before after : Grid) (area : Area) (y word count bits : ℕ) → y < area.height → 64 * word < area.width → count ≡ min (area.width - 64 * word) 64
    → ((k : ℕ) → k < count → bit bits (count - 1 - k) ≡ pixel_at from (area.left + 64 * word + k) (area.top + y))
    → before ≡ grid_before area.width area.height (pixel_of_part from area) y (min area.width (64 * word))
    → after ≡ with_pixels before (64 * word) y count bits
    → after ≡ grid_before area.width area.height (pixel_of_part from area) y (min area.width (64 * (word + 1)))
copied from before after area y word count bits above inside few reads is_filled written =
    let w : ℕ = area.width in
    let f : ℕ → ℕ → Bool = pixel_of_part from area in
    let at : min w (64 * word) ≡ 64 * word = omega arith in
    let next : 64 * word + count ≡ min w (64 * (word + 1)) = omega arith in
    filled-store w area.height f y (64 * word) count bits before after (omega arith) above
    (λ k below. let column : area.left + 64 * word + k ≡ area.left + (64 * word + k) = omega arith in reads k below ∙ ap (λ (i : ℕ). pixel_at from i (area.top + y)) column)
    (is_filled ∙ ap (λ (x : ℕ). grid_before w area.height f y x) at)
    written
    ∙ ap (λ (x : ℕ). grid_before w area.height f y x) next

-- a row is full
pub row-filled : (g : Grid) (w h : ℕ) (f : ℕ → ℕ → Bool) (y x : ℕ) → w ≤ x → g ≡ grid_before w h f y (min w x) → g ≡ grid_before w h f (y + 1) 0
row-filled g w h f y x whole e =
    let all : min w x ≡ w = omega arith in
    e ∙ ap (λ (n : ℕ). grid_before w h f y n) all ∙ filled-row w h f y

-- all rows are
pub all-filled : (g : Grid) (w h : ℕ) (f : ℕ → ℕ → Bool) (y : ℕ) → y ≡ h → g ≡ grid_before w h f y 0 → g ≡ grid_of w h f
all-filled g w h f y whole e = e ∙ ap (λ (n : ℕ). grid_before w h f n 0) whole ∙ filled-all w h f

pub blank-filled : (g : Grid) (w h : ℕ) (f : ℕ → ℕ → Bool) → g ≡ blank w h false → g ≡ grid_before w h f 0 0
blank-filled g w h f e = e ∙ filled-none w h f

-- a bitmap that a size made is white
pub white-made : (w h : ℕ) (black : Bool) (g : Grid) → blank_or_overflow w h black ≡ Ok g → (refuse_if (nat_lt 65535 w || nat_lt 65535 h) (Overflow BitmapDimension) ≡ Ok tt) × (g ≡ blank w h black)
white-made w h black g e = one (nat_lt 65535 w || nat_lt 65535 h) (blank w h black) g e
  where
    one : (large : Bool) (made g : Grid) → (refuse_if large (Overflow BitmapDimension) >>= λ _. Ok made) ≡ Ok g → (refuse_if large (Overflow BitmapDimension) ≡ Ok tt) × (g ≡ made)
    one true made g e = cc
    one false made g e = (refl, cc)

-- a part that is copied
pub part-made : (from white g : Grid) (area : Area) (y : ℕ) → blank_or_overflow area.width area.height false ≡ Ok white → y ≡ area.height → g ≡ grid_before area.width area.height (pixel_of_part from area) y 0 → part_or_overflow from area ≡ Ok g
part-made from white g area y made whole e =
    rw (white-made area.width area.height false white made).0 (ap (λ (k : Grid). Ok k) (sym (all-filled g area.width area.height (pixel_of_part from area) y whole e)))

-- a part of no longer sides than a bitmap may have
pub part-fits : (from : Grid) (area : Area) → area.width ≤ 65535 → area.height ≤ 65535 → part_or_overflow from area ≡ Ok (part_of from area)
part-fits from area columns rows = rw (le-ltb 65535 area.width columns, le-ltb 65535 area.height rows) refl
