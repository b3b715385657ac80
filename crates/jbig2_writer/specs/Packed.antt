-- The bitmap of packed rows: a bit for each pixel, the leftmost in the highest bit of its byte, and whole bytes a row.
use Rattle.std.specs.Prelude.{ℕ, ◌+◌, ◌-◌, ◌*◌, ◌/◌, ◌%◌, Bool, List, slice_index}
use Rattle.jbig2_base.specs.Bits.{bit}
use Rattle.jbig2_base.specs.Grid.{Grid, grid_of}
use Rattle.jbig2_page.specs.Image.{row_bytes}

abbrev pub packed_pixel : ℕ → List ℕ → ℕ → ℕ → Bool
packed_pixel width rows x y = bit (slice_index rows (y * row_bytes width + x / 8)) (7 - x % 8)

abbrev pub packed_grid : ℕ → ℕ → List ℕ → Grid
packed_grid width height rows = grid_of width height (packed_pixel width rows)
