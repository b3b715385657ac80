-- All rows of a bitmap.
use Rattle.std.proofs.Common.{◌≡◌, ℕ, zero, suc, ◌+◌, ◌-◌, ◌/◌, ◌<◌, ◌≤◌, Bool, true, false, not, ◌&&◌, eqb, ltb, List, [], ◌∷◌, ◌++◌, length, drop, get_or, Option, Some, None, Result, Ok, Err, refl, sym, ap, ◌∙◌, ⊎_elim, add-one, arith}
use Rattle.std.specs.Prelude.{◌||◌}
use Rattle.std.proofs.lemmas.List.{get_or_append_left, get_or_push, get_or_past, length_push}
use Rattle.std.proofs.lemmas.Bool.{cases_eq, cases_lt, cond-true, cond-false, lt-ltb, le-ltb, ne_eqb, or_from}
use Rattle.jbig2_base.specs.Grid.{Grid, grid_of, blank, pixel_at, IsTable}
use Rattle.jbig2_base.specs.declared.error.DecodeError.{DecodeError}
use Rattle.jbig2_base.specs.declared.error.DecodeError.TheVariants.{Region}
use Rattle.jbig2_base.specs.declared.error.RegionError.TheVariants.{InvalidMmrData}
use Rattle.jbig2_base.proofs.GridLemmas.{grid_of-ext, pixel_at-grid_of, pixel_at-right, pixel_at-below}
use Rattle.jbig2_mmr.specs.T6.{row, pixel_of, black_at, ends_block, Rows, rows_from, rows_of, bits_of, grid_of_rows, DecodedRows, mmr_rows}
use Rattle.jbig2_mmr.specs.inner.T6Reading.{after_end, row_above, IsRow}
use Rattle.jbig2_mmr.specs.inner.T6Calls.{ReadRow}
use Rattle.jbig2_mmr.proofs.T6Rows.{change-none}

-- the rows after one that may be a fault
abbrev pub or_fault : List (List ℕ) → Option (List ℕ × List ℕ) → (List ℕ × List ℕ → Rows) → Rows
or_fault done o f =
    elim o [
      | None ↦ record { rows = done; whole = false; left = [] }
      | Some r ↦ f r
    ]

pub record RowsReading (w h y : ℕ) (bits : List ℕ) (new : Grid) (meant : Rows) : Type 0 where
  pub done : List (List ℕ)
  pub above : List ℕ
  pub count : length done ≡ y
  pub same : rows_from (h - y) w above done bits ≡ meant
  pub width : new.width ≡ w
  pub height : new.height ≡ h
  pub table : IsTable new
  pub drawn : (x j : ℕ) → x < w → j < y → pixel_at new x j ≡ black_at (get_or done j []) x
  pub rest : (x j : ℕ) → y ≤ j → pixel_at new x j ≡ false
  pub last : (x : ℕ) → row_above new y x ≡ pixel_of w above x

white-pixel : (g : Grid) (x j : ℕ) → g ≡ blank g.width g.height false → pixel_at g x j ≡ false
white-pixel g x j white =
    ⊎_elim
    (λ (right : x < g.width).
    ⊎_elim (λ (lower : j < g.height). ap (λ (m : Grid). pixel_at m x j) white ∙ pixel_at-grid_of g.width g.height (λ _ _. false) x j right lower) (λ (below : g.height ≤ j). pixel_at-below g x j below) (cases_lt j g.height))
    (λ (past : g.width ≤ x). pixel_at-right g x j past)
    (cases_lt x g.width)

white-row : (w x : ℕ) → false ≡ pixel_of w [] x
white-row w x = sym (and-false (ltb x w) (black_at [] x) (change-none x))
  where
    and-false : (a b : Bool) → b ≡ false → (a && b) ≡ false
    and-false true b e = e
    and-false false b e = refl

pub rows-start : (g : Grid) (bytes : List ℕ) → g ≡ blank g.width g.height false → IsTable g → (g.width ≡ 0 → ⊥) → (g.height ≡ 0 → ⊥) → RowsReading g.width g.height 0 (bits_of bytes) g (rows_of g.width g.height bytes)
unfolding rows_of
rows-start g bytes white known wide high = record {
  done = [];
  above = [];
  count = refl;
  same = let all : g.height - 0 ≡ g.height = omega arith in
      ap (λ (n : ℕ). rows_from n g.width [] [] (bits_of bytes)) all
      ∙ sym (cond-false (eqb g.width 0 || eqb g.height 0) (record { rows = []; whole = true; left = bits_of bytes }) (rows_from g.height g.width [] [] (bits_of bytes)) (or_from (eqb g.width 0) (eqb g.height 0) (ne_eqb g.width 0 wide) (ne_eqb g.height 0 high)));
  width = refl;
  height = refl;
  table = known;
  drawn = λ x j a b. absurd (omega arith);
  rest = λ x j a. white-pixel g x j white;
  last = λ x. white-row g.width x;
}

-- the rows so far are the bitmap
pub rows-grid : (w h y : ℕ) (bits : List ℕ) (new : Grid) (meant : Rows) → (reading : RowsReading w h y bits new meant) → new ≡ grid_of_rows w h reading.done
rows-grid w h y bits new meant reading =
    reading.table
    ∙ ap (λ (n : ℕ). grid_of n new.height (pixel_at new)) reading.width
    ∙ ap (λ (n : ℕ). grid_of w n (pixel_at new)) reading.height
    ∙ grid_of-ext w h (pixel_at new) (λ x j. black_at (get_or reading.done j []) x)
    (λ x j right lower.
    ⊎_elim (λ (above : j < y). reading.drawn x j right above)
    (λ (below : y ≤ j). reading.rest x j below ∙ sym (ap (λ (cs : List ℕ). black_at cs x) (get_or_past reading.done j [] (omega (arith, reading.count))) ∙ change-none x))
    (cases_lt j y))

-- one row of them
step-rows : (n w : ℕ) (above : List ℕ) (done : List (List ℕ)) (bits : List ℕ) → 1 ≤ n → ends_block bits ≡ false → (m : ℕ) × (suc m ≡ n) × (rows_from n w above done bits ≡ or_fault done (row w (pixel_of w above) bits) (λ r. rows_from m w r.0 (done ++ r.0 ∷ []) r.1))
unfolding rows_from
step-rows zero w above done bits some e = absurd (omega arith)
step-rows (suc m) w above done bits some e = (m, refl, cond-false (ends_block bits) (record { rows = done; whole = false; left = drop 24 bits }) (or_fault done (row w (pixel_of w above) bits) (λ r. rows_from m w r.0 (done ++ r.0 ∷ []) r.1)) e)

early : (n w : ℕ) (above : List ℕ) (done : List (List ℕ)) (bits : List ℕ) → 1 ≤ n → ends_block bits ≡ true → rows_from n w above done bits ≡ record { rows = done; whole = false; left = drop 24 bits }
unfolding rows_from
early zero w above done bits some e = absurd (omega arith)
early (suc m) w above done bits some e = cond-true (ends_block bits) (record { rows = done; whole = false; left = drop 24 bits }) (or_fault done (row w (pixel_of w above) bits) (λ r. rows_from m w r.0 (done ++ r.0 ∷ []) r.1)) e

pub rows-early : (w h y : ℕ) (bits : List ℕ) (new : Grid) (meant : Rows) → (reading : RowsReading w h y bits new meant) → y < h → ends_block bits ≡ true → meant ≡ record { rows = reading.done; whole = false; left = drop 24 bits }
rows-early w h y bits new meant reading inside e = sym reading.same ∙ early (h - y) w reading.above reading.done bits (omega arith) e

pub rows-last : (w h y : ℕ) (bits : List ℕ) (new : Grid) (meant : Rows) → (reading : RowsReading w h y bits new meant) → h ≤ y → meant ≡ record { rows = reading.done; whole = true; left = after_end bits }
unfolding rows_from
rows-last w h y bits new meant reading past =
    let none : h - y ≡ 0 = omega arith in
    sym reading.same ∙ ap (λ (n : ℕ). rows_from n w reading.above reading.done bits) none

-- the row as the definition reads it
row-at : (w h y : ℕ) (bits : List ℕ) (new : Grid) (meant : Rows) → (reading : RowsReading w h y bits new meant) → row new.width (row_above new y) bits ≡ row w (pixel_of w reading.above) bits
row-at w h y bits new meant reading =
    let above : row_above new y ≡ pixel_of w reading.above = λ i x. reading.last x i in
    ap (λ (n : ℕ). row n (row_above new y) bits) reading.width ∙ ap (λ (f : ℕ → Bool). row w f bits) above

fault-of : (o : Option (List ℕ × List ℕ)) (old new : Grid) (y : ℕ) (left : List ℕ) → ReadRow o false old new y left → (o ≡ None) × IsRow old new y (λ x. false)
fault-of None old new y left read = (refl, read)
fault-of (Some r) old new y left read = absurd read

whole-of : (o : Option (List ℕ × List ℕ)) (old new : Grid) (y : ℕ) (left : List ℕ) → ReadRow o true old new y left → (changes : List ℕ) × (o ≡ Some (changes, left)) × IsRow old new y (black_at changes)
whole-of None old new y left read = absurd read
whole-of (Some r) old new y left read = (r.0, ap (λ (bs : List ℕ). Some (r.0, bs)) read.1, read.0)

-- a fault leaves the bitmap as it was
pub rows-fault : (w h y : ℕ) (bits left : List ℕ) (new next : Grid) (meant : Rows) → (reading : RowsReading w h y bits new meant) → y < h → ends_block bits ≡ false → ReadRow (row new.width (row_above new y) bits) false new next y left → (meant ≡ record { rows = reading.done; whole = false; left = [] }) × (next ≡ grid_of_rows w h reading.done)
rows-fault w h y bits left new next meant reading inside e read =
    let fault = fault-of (row new.width (row_above new y) bits) new next y left read in
    let none : row w (pixel_of w reading.above) bits ≡ None = sym (row-at w h y bits new meant reading) ∙ fault.0 in
    let step = step-rows (h - y) w reading.above reading.done bits (omega arith) e in
    let white = fault.1 in (
      sym reading.same ∙ step.2 ∙ ap (λ (o : Option (List ℕ × List ℕ)). or_fault reading.done o (λ r. rows_from step.0 w r.0 (reading.done ++ r.0 ∷ []) r.1)) none,
      white.table
          ∙ ap (λ (n : ℕ). grid_of n next.height (pixel_at next)) (white.width ∙ reading.width)
          ∙ ap (λ (n : ℕ). grid_of w n (pixel_at next)) (white.height ∙ reading.height)
          ∙ grid_of-ext w h (pixel_at next) (pixel_at new)
          (λ x j right lower.
          ⊎_elim (λ (here : j ≡ y). ap (λ (n : ℕ). pixel_at next x n) here ∙ white.here x (omega (arith, reading.width)) ∙ sym (reading.rest x j (omega arith)))
          (λ (other : j ≡ y → ⊥). white.other x j other) (cases_eq j y))
          ∙ sym (reading.table ∙ ap (λ (n : ℕ). grid_of n new.height (pixel_at new)) reading.width ∙ ap (λ (n : ℕ). grid_of w n (pixel_at new)) reading.height)
          ∙ rows-grid w h y bits new meant reading,
    )

pub rows-next : (w h y : ℕ) (bits left : List ℕ) (new next : Grid) (meant : Rows) → RowsReading w h y bits new meant → y < h → ends_block bits ≡ false → ReadRow (row new.width (row_above new y) bits) true new next y left → RowsReading w h (y + 1) left next meant
rows-next w h y bits left new next meant reading inside e read =
    let whole = whole-of (row new.width (row_above new y) bits) new next y left read in
    let changes : List ℕ = whole.0 in
    let is : row w (pixel_of w reading.above) bits ≡ Some (changes, left) = sym (row-at w h y bits new meant reading) ∙ whole.1 in
    let made = whole.2 in
    let step = step-rows (h - y) w reading.above reading.done bits (omega arith) e in
    let fewer : h - (y + 1) ≡ step.0 = omega (arith, step.1) in
    record {
      done = reading.done ++ changes ∷ [];
      above = changes;
      count = length_push reading.done changes ∙ ap (λ (n : ℕ). n + 1) reading.count;
      same = ap (λ (n : ℕ). rows_from n w changes (reading.done ++ changes ∷ []) left) fewer
          ∙ sym (step.2 ∙ ap (λ (o : Option (List ℕ × List ℕ)). or_fault reading.done o (λ r. rows_from step.0 w r.0 (reading.done ++ r.0 ∷ []) r.1)) is) ∙ reading.same;
      width = made.width ∙ reading.width;
      height = made.height ∙ reading.height;
      table = made.table;
      drawn = λ x j right above.
          ⊎_elim
          (λ (here : j ≡ y). ap (λ (n : ℕ). pixel_at next x n) here ∙ made.here x (omega (arith, reading.width)) ∙ sym (ap (λ (cs : List ℕ). black_at cs x) (get_or_push reading.done changes [] j (reading.count ∙ sym here))))
          (λ (other : j ≡ y → ⊥). made.other x j other ∙ reading.drawn x j right (omega (arith, other)) ∙ sym (ap (λ (cs : List ℕ). black_at cs x) (get_or_append_left reading.done (changes ∷ []) [] j (omega (arith, other, reading.count)))))
          (cases_eq j y);
      rest = λ x j below. made.other x j (λ here. omega arith) ∙ reading.rest x j (omega arith);
      last = λ x. ap (λ (n : ℕ). row_above next n x) (add-one y) ∙ last-pixel x made;
    }
  where
    last-pixel : (x : ℕ) → IsRow new next y (black_at (whole-of (row new.width (row_above new y) bits) new next y left read).0) → pixel_at next x y ≡ pixel_of w (whole-of (row new.width (row_above new y) bits) new next y left read).0 x
    last-pixel x made =
        ⊎_elim
        (λ (right : x < w). made.here x (omega (arith, reading.width)) ∙ sym (ap (λ (t : Bool). t && black_at (whole-of (row new.width (row_above new y) bits) new next y left read).0 x) (lt-ltb x w right)))
        (λ (past : w ≤ x). pixel_at-right next x y (omega (arith, made.width, reading.width)) ∙ sym (ap (λ (t : Bool). t && black_at (whole-of (row new.width (row_above new y) bits) new next y left read).0 x) (le-ltb x w past)))
        (cases_lt x w)

-- the rows that are there are the bitmap, also where some are missing
pub drawn-rows : (w h : ℕ) (bytes : List ℕ) (done : List (List ℕ)) (whole : Bool) (left : List ℕ) (new : Grid) → rows_of w h bytes ≡ record { rows = done; whole = whole; left = left } → new ≡ grid_of_rows w h done → new ≡ grid_of_rows w h (rows_of w h bytes).rows
drawn-rows w h bytes done whole left new e drawn = drawn ∙ ap (λ (r : Rows). grid_of_rows w h r.rows) (sym e)

-- ---- returns
-- what is returned of the rows, where this is what they are
pub record RowsTold (bytes : List ℕ) (meant : Rows) (rows taken : ℕ) (there : Bool) : Type 0 where
  pub count : rows ≡ length meant.rows
  pub used : taken ≡ length bytes - length meant.left / 8
  pub whole : there ≡ meant.whole

pub rows-told : (bytes : List ℕ) (meant r : Rows) (count used : ℕ) → meant ≡ r → length r.rows ≡ count → used ≡ length bytes - length r.left / 8 → RowsTold bytes meant count used r.whole
rows-told bytes meant r count used e n m = record {
  count = sym n ∙ ap (λ (s : Rows). length s.rows) (sym e);
  used = m ∙ ap (λ (s : Rows). length bytes - length s.left / 8) (sym e);
  whole = ap (λ (s : Rows). s.whole) (sym e);
}

used-grid : (new g : Grid) (used n : ℕ) → new ≡ g → used ≡ n → ◌≡◌ {A = Result DecodedRows DecodeError} (Ok (record { grid = g; used = n })) (Ok (record { grid = new; used = used }))
used-grid new g used n e f =
    ap (λ (m : Grid). let d : DecodedRows = record { grid = m; used = n } in Ok d) (sym e) ∙ ap (λ (k : ℕ). let d : DecodedRows = record { grid = new; used = k } in Ok d) (sym f)

pub rows-refused : (strict : Bool) (w h : ℕ) (bytes : List ℕ) → strict ≡ true → not (rows_of w h bytes).whole ≡ true → mmr_rows strict w h bytes ≡ Err (Region InvalidMmrData)
unfolding mmr_rows
rows-refused strict w h bytes e missing =
    let r = rows_of w h bytes in
    cond-true (strict && not r.whole) (Err (Region InvalidMmrData)) (Ok (record { grid = grid_of_rows w h r.rows; used = length bytes - length r.left / 8 })) (ap (λ b. b && not r.whole) e ∙ missing)

pub rows-taken : (strict : Bool) (w h : ℕ) (bytes : List ℕ) (new : Grid) (used : ℕ) → (strict && not (rows_of w h bytes).whole) ≡ false → new ≡ grid_of_rows w h (rows_of w h bytes).rows → used ≡ length bytes - length (rows_of w h bytes).left / 8 → mmr_rows strict w h bytes ≡ Ok (record { grid = new; used = used })
unfolding mmr_rows
rows-taken strict w h bytes new used there drawn e =
    let r = rows_of w h bytes in
    cond-false (strict && not r.whole) (Err (Region InvalidMmrData)) (Ok (record { grid = grid_of_rows w h r.rows; used = length bytes - length r.left / 8 })) there
    ∙ used-grid new (grid_of_rows w h r.rows) used (length bytes - length r.left / 8) drawn e

-- without columns or rows
pub no-rows : (w h : ℕ) (bytes : List ℕ) → (eqb w 0 || eqb h 0) ≡ true → rows_of w h bytes ≡ record { rows = []; whole = true; left = bits_of bytes }
unfolding rows_of
no-rows w h bytes none = cond-true (eqb w 0 || eqb h 0) (record { rows = []; whole = true; left = bits_of bytes }) (rows_from h w [] [] (bits_of bytes)) none

white-grid : (g : Grid) → g ≡ blank g.width g.height false → g ≡ grid_of_rows g.width g.height []
white-grid g white =
    white ∙ grid_of-ext g.width g.height (λ _ _. false) (λ x j. black_at (get_or [] j []) x) (λ x j a b. sym (ap (λ (cs : List ℕ). black_at cs x) (get_or_past [] j [] (omega arith)) ∙ change-none x))

pub drawn-none : (g : Grid) (bytes : List ℕ) → g ≡ blank g.width g.height false → (eqb g.width 0 || eqb g.height 0) ≡ true → g ≡ grid_of_rows g.width g.height (rows_of g.width g.height bytes).rows
drawn-none g bytes white none = drawn-rows g.width g.height bytes [] true (bits_of bytes) g (no-rows g.width g.height bytes none) (white-grid g white)
