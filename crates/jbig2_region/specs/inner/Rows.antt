-- A region as the decoder makes it: row by row, and in a row pixel by pixel (our own rule).
use Rattle.std.specs.Prelude.{ℕ, suc, zero, ◌==◌, if◌then◌else◌, List}
use Rattle.jbig2_region.specs.Raster.{Coding, Region, after_pixel, after_ltp}

module _ (coding : Coding) (w h : ℕ) (bytes : List ℕ) where
  -- n more pixels of a row, after its start
  unfoldable pub after_pixels : ℕ → Region → Region
  after_pixels zero r = r
  after_pixels (suc n) r = after_pixel coding w h bytes (after_pixels n r)

  -- n more rows
  unfoldable pub after_rows : ℕ → Region → Region
  after_rows zero r = r
  after_rows (suc n) r = after_pixels w (after_ltp coding.row_context bytes (after_rows n r))

  -- the whole region
  unfoldable pub rows_region : Region → Region
  rows_region r = if w == 0 then r else after_rows h r
