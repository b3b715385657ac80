-- Bitmaps by MMR (T.88, 6.2.6) as they are written: rows of T.6 one after another, and their bits in bytes. Then the
-- law that `mmr_rows` gives back the bitmap.
use Rattle.std.specs.Prelude.{◌≡◌, ℕ, zero, suc, ◌+◌, ◌*◌, ◌/◌, ◌<◌, ◌≤◌, Bool, false, ◌&&◌, nat_lt, List, []}
use Rattle.std.specs.Prelude.{◌∷◌, ◌++◌, length}
use Rattle.std.specs.Prelude.{take, drop, replicate, codes, if◌then◌else◌, Ok}
use Rattle.jbig2_base.specs.Bits.{number_after}
use Rattle.jbig2_base.specs.Grid.{grid_of}
use Rattle.jbig2_mmr.specs.T6Codes.{word}
use Rattle.jbig2_mmr.specs.T6.{mmr_rows}
use Rattle.jbig2_inverses.specs.MmrRowWriter.{row_bits}

module _ (w : ℕ) (pixels : ℕ → ℕ → Bool) where  -- the width, and the pixel at each column and row
  unfoldable pub rows_bits : ℕ → ℕ → (ℕ → Bool) → List ℕ  -- n rows from row y on, under this row above
  rows_bits zero y above = []
  rows_bits (suc n) y above =
      row_bits w above (λ x. pixels x y) ++ rows_bits n (y + 1) (λ x. nat_lt x w && pixels x y)

unfoldable pub packed : ℕ → List ℕ → List ℕ  -- bits in n bytes, high bit first; zeros fill the last byte
packed zero bits = []
packed (suc n) bits = number_after 0 (take 8 (bits ++ replicate 8 0)) ∷ packed n (drop 8 bits)

unfoldable pub mmr_bits : Bool → ℕ → ℕ → (ℕ → ℕ → Bool) → List ℕ  -- a bitmap, with an end of block (EOFB) or without
mmr_bits ends w h pixels =
    rows_bits w pixels h 0 (λ x. false) ++ (if ends then word (codes "000000000001000000000001") else [])

unfoldable pub mmr_bytes : Bool → ℕ → ℕ → (ℕ → ℕ → Bool) → List ℕ
mmr_bytes ends w h pixels =
    let bits = mmr_bits ends w h pixels in
    packed ((length bits + 7) / 8) bits

-- Each bitmap that has pixels is read back, in both modes, with an end of block or without. All bytes are used.
abbrev pub BitmapsReadBack : Type 0
BitmapsReadBack = (strict ends : Bool) (w h : ℕ) (pixels : ℕ → ℕ → Bool) → 0 < w → 0 < h
    → let bytes = mmr_bytes ends w h pixels in
    mmr_rows strict w h bytes ≡ Ok (record { grid = grid_of w h pixels; used = length bytes })

-- A bitmap takes at most seven bits for each pixel, and 60 for each row. So a segment can state its length (7.2.7).
abbrev pub BitmapsAreShort : Type 0
BitmapsAreShort = (ends : Bool) (w h : ℕ) (pixels : ℕ → ℕ → Bool)
    → 8 * length (mmr_bytes ends w h pixels) ≤ h * (7 * w + 60) + 31
