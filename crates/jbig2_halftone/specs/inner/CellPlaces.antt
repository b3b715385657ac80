-- Places of cells before they are rounded down to pixels, in 256ths of a pixel (6.6.5.2).
use Rattle.std.specs.Prelude.{ℕ, ◌*◌, ℤ, pos, ◌+ℤ◌, ◌-ℤ◌}
use Rattle.jbig2_halftone.specs.HalftoneHeader.{HalftoneHeader}

-- cell (m, n), row m and column n of the grid
module _ (h : HalftoneHeader) (m n : ℕ) where
  abbrev pub x_of : ℤ
  x_of =
      h.grid_position_and_size.horizontal_offset +ℤ pos (m * h.grid_vector.y_vector) +ℤ pos (n * h.grid_vector.x_vector)

  abbrev pub y_of : ℤ
  y_of =
      h.grid_position_and_size.vertical_offset +ℤ pos (m * h.grid_vector.x_vector) -ℤ pos (n * h.grid_vector.y_vector)
