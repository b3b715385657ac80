-- Halftone regions (T.88, 6.6): patterns are drawn at the places of a grid, which may be rotated. The header and the
-- patterns give the region with its place on the page, or an error.
use Rattle.std.specs.Prelude.{ℕ, ◌+◌, ◌-◌, ◌*◌, ◌/◌, ◌%◌, nat_lt, Bool, false, not, ◌&&◌, ◌||◌, if◌then◌else◌, ℤ, pos}
use Rattle.std.specs.Prelude.{◌+ℤ◌, ◌-ℤ◌, int_le, List, [], ◌∷◌, length, slice_index_or, Option, Some, None, Result, Ok}
use Rattle.std.specs.Prelude.{Err}
use Rattle.std.specs.Int.{int_shr}
use Rattle.jbig2_base.specs.Results.{◌>>=◌}
use Rattle.jbig2_base.specs.Combination.{combined_grid}
use Rattle.jbig2_base.specs.Grid.{Grid, grid_of, blank, max_side, check_sides}
use Rattle.jbig2_base.specs.declared.error.DecodeError.{DecodeError}
use Rattle.jbig2_base.specs.declared.error.DecodeError.TheVariants.{Region}
use Rattle.jbig2_base.specs.declared.error.RegionError.TheVariants.{GrayScaleOutOfRange}
use Rattle.jbig2_coder.specs.Coder.{Context}
use Rattle.jbig2_coder.specs.CodeLength.{code_length}
use Rattle.jbig2_region.specs.RegionInfo.{PlacedRegion, at_location}
use Rattle.jbig2_halftone.specs.GrayScale.{GrayScale, gray_scale_image, gray_contexts}
use Rattle.jbig2_halftone.specs.HalftoneHeader.{HalftoneHeader}
use Rattle.jbig2_halftone.specs.Patterns.{Patterns}

-- along one axis: a pattern of this size at this place has no pixel in a region of `room` pixels
abbrev pub is_beyond : ℤ → ℕ → ℕ → Bool
is_beyond place size room = int_le (place +ℤ pos size) (pos 0) || int_le (pos room) place

-- the pattern of a value; where there is none, strict mode refuses, and other modes take the last one (our own rule)
abbrev pub pattern_for : Bool → List Grid → ℕ → Result Grid DecodeError
pattern_for strict grids value =
    if nat_lt value (length grids) then Ok (slice_index_or grids value (blank 0 0 false))
    else if strict then Err (Region GrayScaleOutOfRange)
    else Ok (slice_index_or grids (length grids - 1) (blank 0 0 false))

module _ (h : HalftoneHeader) where
  -- the place of the pattern of cell (m, n), row m and column n of the grid (6.6.5.2): in 256ths of a pixel, rounded
  -- down
  abbrev pub column_of : ℕ → ℕ → ℤ
  column_of m n =
      let left = h.grid_position_and_size.horizontal_offset in
      int_shr (left +ℤ pos (m * h.grid_vector.y_vector) +ℤ pos (n * h.grid_vector.x_vector)) 8

  abbrev pub row_of : ℕ → ℕ → ℤ
  row_of m n =
      let top = h.grid_position_and_size.vertical_offset in
      int_shr (top +ℤ pos (m * h.grid_vector.x_vector) -ℤ pos (n * h.grid_vector.y_vector)) 8

  -- cell k of the grid, row by row, drawn onto the region
  abbrev pub with_cell : ℕ → Grid → Grid → Grid
  with_cell k pattern region =
      let columns = h.grid_position_and_size.width in
      let x = column_of (k / columns) (k % columns) in
      let y = row_of (k / columns) (k % columns) in
      combined_grid h.flags.combination_operator region pattern x y

  module _ (d : Patterns) where
    -- black where a cell is skipped: its pattern would lie wholly outside the region (HSKIP, 6.6.5.1); MMR skips none
    abbrev pub skip_mask : Option Grid
    skip_mask =
        let grid = h.grid_position_and_size in
        let room = h.region_info in
        let lies_outside : ℕ → ℕ → Bool =
        λ n m. is_beyond (column_of m n) d.width room.width || is_beyond (row_of m n) d.height room.height in
        if h.flags.enable_skip && not h.flags.mmr then Some (grid_of grid.width grid.height lies_outside) else None

    -- a value for each cell, row by row, with as many bits as the number of the last pattern needs (Table 23)
    abbrev pub gray_params : GrayScale
    gray_params = record {
      use_mmr = h.flags.mmr;
      bits_per_pixel = code_length (length d.grids);
      width = h.grid_position_and_size.width;
      height = h.grid_position_and_size.height;
      template = h.flags.template;
      skip_mask = skip_mask;
      strict = h.strict;
    }

    -- draws the cells with these values, from cell k on
    unfoldable pub cells_drawn : ℕ → List ℕ → Grid → Result Grid DecodeError
    cells_drawn k [] region = Ok region
    cells_drawn k (value ∷ values) region = do
      pattern ← pattern_for h.strict d.grids value
      cells_drawn (k + 1) values (with_cell k pattern region)

    -- The region, which begins in its initial colour.
    unfoldable pub halftone_result : Result Grid DecodeError
    halftone_result = do
      values ← gray_scale_image gray_params h.bytes
      cells_drawn 0 values (blank h.region_info.width h.region_info.height h.flags.initial_pixel_color)

    -- The contexts after the gray-scale image, also where a value has no pattern.
    abbrev pub halftone_contexts : List Context → List Context
    halftone_contexts contexts = gray_contexts gray_params h.bytes contexts

    -- A region at its place. A side above 65535 is refused (our own rule).
    unfoldable pub halftone_decoded : Result PlacedRegion DecodeError
    halftone_decoded = do
      let info = h.region_info
      fits ← check_sides info.width info.height
      grid ← halftone_result
      Ok (at_location info grid)

    -- The contexts after that. Where a side is refused, they are as they were.
    abbrev pub decoded_contexts : List Context → List Context
    decoded_contexts contexts =
        if nat_lt max_side h.region_info.width || nat_lt max_side h.region_info.height then contexts
        else halftone_contexts contexts
