-- Two-dimensional coding of bitmaps by ITU-T T.6 (2.2), which T.88 calls MMR (6.2.6). Modes and runs give the changing
-- elements of a row, relative to the row above it, its reference row. `mmr_rows`, at the end, takes a width, a height
-- and bytes. It gives the bitmap and how many bytes it used, or an error.
use Rattle.std.specs.Prelude.{ℕ, zero, suc, ◌+◌, ◌-◌, ◌/◌, ◌%◌, ◌==◌, ℤ, pos, negsuc, ◌+ℤ◌, Bool, true, false, not}
use Rattle.std.specs.Prelude.{◌&&◌, ◌||◌, nat_le, nat_lt, List, [], ◌∷◌, ◌++◌, length, take, drop, filter}
use Rattle.std.specs.Prelude.{slice_index_or, Option, Some, None, Result, Ok, Err, if◌then◌else◌}
use Rattle.std.specs.List.{flat_map, list_all}
use Rattle.jbig2_base.specs.Bits.{byte_bits, number_after}
use Rattle.jbig2_base.specs.Grid.{Grid, grid_of, differ}
use Rattle.jbig2_base.specs.Search.{place_from}
use Rattle.jbig2_base.specs.declared.error.DecodeError.{DecodeError}
use Rattle.jbig2_base.specs.declared.error.DecodeError.TheVariants.{Region}
use Rattle.jbig2_base.specs.declared.error.RegionError.TheVariants.{InvalidMmrData}
use Rattle.jbig2_mmr.specs.declared.mmr.codes.Mode.{Mode}
use Rattle.jbig2_mmr.specs.declared.mmr.codes.Mode.TheVariants.{Pass, Horizontal, Vertical}
use Rattle.jbig2_mmr.specs.T6Codes.{modes, white_runs, black_runs}

infixl 10 ◌>>=◌
-- the next step, unless the step before had a fault
abbrev pub ◌>>=◌ : {A B : Type 0} → Option A → (A → Option B) → Option B
(Some x) >>= next = next x
None >>= next = None

-- ---- codes (T.6, tables 1 to 3)
abbrev pub begins : List ℕ → List ℕ → Bool
begins [] bits = true
begins (b ∷ word) [] = false
begins (b ∷ word) (c ∷ bits) = b == c && begins word bits

-- the value of the code that begins the bits, and the bits after it
unfoldable pub read_code : {A : Type 0} → List (A × List ℕ) → List ℕ → Option (A × List ℕ)
read_code [] bits = None
read_code ((value, word) ∷ codes) bits =
    if begins word bits then Some (value, drop (length word) bits) else read_code codes bits

unfoldable pub is_prefix_free : {A : Type 0} → List (A × List ℕ) → Bool  -- no word of the list begins another one
is_prefix_free [] = true
is_prefix_free ((value, word) ∷ codes) =
    list_all (λ (other, longer). not (begins word longer) && not (begins longer word)) codes && is_prefix_free codes

abbrev pub runs_of : Bool → List (ℕ × List ℕ)
runs_of black = if black then black_runs else white_runs

-- A run is the sum of make-up codes (64 and more) and a terminating code (0 to 63). Each code takes at least one bit.
unfoldable pub run_from : ℕ → Bool → List ℕ → Option (ℕ × List ℕ)
run_from zero black bits = None
run_from (suc most) black bits = do
  (part, left) ← read_code (runs_of black) bits
  if nat_lt part 64 then Some (part, left)
      else (run_from most black left >>= λ (others, left). Some (part + others, left))

abbrev pub run : Bool → List ℕ → Option (ℕ × List ℕ)
run black bits = run_from (length bits) black bits

-- ---- the changing elements of a row (2.2.1); left of the row all is white
abbrev pub left_of : (ℕ → Bool) → ℕ → Bool
left_of row zero = false
left_of row (suc x) = row x

unfoldable pub is_change : (ℕ → Bool) → ℕ → Bool  -- pixel x differs from its left neighbour
is_change row x = differ (row x) (left_of row x)

unfoldable pub is_change_from : (ℕ → Bool) → Bool → ℕ → Bool  -- and also from this colour
is_change_from row black x = is_change row x && differ (row x) black

-- ---- one mode (2.2.2)
-- the state of a row: its place a0, which is 0 before the first mode; whether a mode was read; the colour from a0 on
pub record Head : Type 0 where
  pub a0 : ℕ
  pub past_start : Bool
  pub black : Bool

-- the result of a mode: the state of the row, the changing elements that it adds, and the bits after it
pub record Step : Type 0 where
  pub head : Head
  pub added : List ℕ
  pub left : List ℕ

-- Horizontal: a run of the colour up to a1, then a run of the other up to a2, within the row. a0 moves to a2.
unfoldable pub after_runs : ℕ → Head → List ℕ → Option Step
after_runs w h bits = do
  (first, left) ← run h.black bits
  (second, left) ← run (not h.black) left
  let a1 = h.a0 + first
  let a2 = a1 + second
  let head : Head = record { a0 = a2; past_start = true; black = h.black }
  if nat_le a2 w then Some (record { head = head; added = a1 ∷ a2 ∷ []; left = left }) else None

abbrev pub place_in : ℕ → ℕ → ℤ → Option ℕ  -- a place in the row that is not left of a0
place_in a0 w (pos x) = if nat_le a0 x && nat_le x w then Some x else None
place_in a0 w (negsuc x) = None

module _ (w : ℕ) (above : ℕ → Bool) where  -- the width, and the reference row
  -- b1: the first changing element of the reference row right of a0 whose colour is not that of a0 (2.2.1)
  unfoldable pub b1_of : Head → ℕ
  b1_of h = place_from (is_change_from above h.black) (if h.past_start then h.a0 + 1 else 0) w

  unfoldable pub b2_of : Head → ℕ  -- b2: the next changing element right of b1 (2.2.1)
  b2_of h = place_from (is_change above) (b1_of h + 1) w

  -- Pass: a0 moves to the place below b2, and the colour stays.
  unfoldable pub after_pass : Head → List ℕ → Option Step
  after_pass h bits =
      let head : Head = record { a0 = b2_of h; past_start = true; black = h.black } in
      Some (record { head = head; added = []; left = bits })

  -- Vertical: a1 is b1 plus the mode's distance. a0 moves to a1, and the colour changes.
  unfoldable pub after_vertical : Head → ℤ → List ℕ → Option Step
  after_vertical h distance bits = do
    a1 ← place_in h.a0 w (pos (b1_of h) +ℤ distance)
    Some (record { head = record { a0 = a1; past_start = true; black = not h.black }; added = a1 ∷ []; left = bits })

  abbrev pub after_mode : Head → Mode → List ℕ → Option Step
  after_mode h Pass bits = after_pass h bits
  after_mode h Horizontal bits = after_runs w h bits
  after_mode h (Vertical distance) bits = after_vertical h distance bits

  unfoldable pub next_step : Head → List ℕ → Option Step  -- the next mode (table 1), and its result
  next_step h bits = do
    (mode, left) ← read_code modes bits
    after_mode h mode left

-- ---- rows (2.2.3)
-- the changing elements of a row, and the bits after it, mode by mode; each mode takes at least one bit
unfoldable pub row_from : ℕ → ℕ → (ℕ → Bool) → Head → List ℕ → List ℕ → Option (List ℕ × List ℕ)
row_from zero w above h changes bits = if nat_le w h.a0 then Some (changes, bits) else None
row_from (suc most) w above h changes bits =
    if nat_le w h.a0 then Some (changes, bits)
    else (next_step w above h bits >>= λ s. row_from most w above s.head (changes ++ s.added) s.left)

abbrev pub row_start : Head  -- a row begins white, left of its first pixel (2.2.1)
row_start = record { a0 = 0; past_start = false; black = false }

abbrev pub row : ℕ → (ℕ → Bool) → List ℕ → Option (List ℕ × List ℕ)
row w above bits = row_from (length bits) w above row_start [] bits

-- a pixel is black if an odd number of the row's changes is at or left of it
unfoldable pub black_at : List ℕ → ℕ → Bool
black_at changes x = length (filter (λ c. nat_le c x) changes) % 2 == 1

abbrev pub pixel_of : ℕ → List ℕ → ℕ → Bool
pixel_of w changes x = nat_lt x w && black_at changes x

unfoldable pub ends_block : List ℕ → Bool  -- the end of block (EOFB; T.88, 6.2.6): 000000000001 twice
ends_block bits = nat_le 24 (length bits) && (number_after 0 (take 24 bits) == 0x001001)

-- ---- all rows: the complete ones, whether all rows are complete, and the bits after them, none after a fault
pub record Rows : Type 0 where
  pub rows : List (List ℕ)
  pub whole : Bool
  pub left : List ℕ

-- This many more rows. The end of block ends them early, and so does a fault. Above row 0 all is white.
unfoldable pub rows_from : ℕ → ℕ → List ℕ → List (List ℕ) → List ℕ → Rows
rows_from zero w above done bits =
    record { rows = done; whole = true; left = (if ends_block bits then drop 24 bits else bits) }
rows_from (suc n) w above done bits =
    if ends_block bits then record { rows = done; whole = false; left = drop 24 bits }
    else (elim (row w (pixel_of w above) bits) [
      | None ↦ record { rows = done; whole = false; left = [] }
      | Some (changes, left) ↦ rows_from n w changes (done ++ changes ∷ []) left
    ])

abbrev pub bits_of : List ℕ → List ℕ
bits_of bytes = flat_map byte_bits bytes

unfoldable pub rows_of : ℕ → ℕ → List ℕ → Rows  -- without columns or without rows nothing is read
rows_of w h bytes =
    if w == 0 || h == 0 then record { rows = []; whole = true; left = bits_of bytes }
    else rows_from h w [] [] (bits_of bytes)

abbrev pub grid_of_rows : ℕ → ℕ → List (List ℕ) → Grid
grid_of_rows w h rows = grid_of w h (λ x y. black_at (slice_index_or rows y []) x)

pub record DecodedRows : Type 0 where  -- the bitmap, and the bytes that were used, the last one whole
  pub grid : Grid
  pub used : ℕ

-- the rows of a width and a height (T.88, 6.2.6); strict mode refuses a missing row, else it is white
unfoldable pub mmr_rows : Bool → ℕ → ℕ → List ℕ → Result DecodedRows DecodeError
mmr_rows strict w h bytes =
    let r = rows_of w h bytes in
    if strict && not r.whole then Err (Region InvalidMmrData)
    else Ok (record { grid = grid_of_rows w h r.rows; used = length bytes - length r.left / 8 })
