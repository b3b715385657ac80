-- The data of a halftone region segment up to its coded bytes (T.88, 7.4.5): region information, flags, and the grid's
-- size, place and vector. The bytes give the header, and the coded bytes after it.
use Rattle.std.specs.Prelude.{ℕ, ◌/◌, ◌%◌, ◌≤◌, ◌==◌, nat_lt, Bool, ◌||◌, List, Result, Ok}
use Rattle.std.specs.Int.{w8, w16, w32}
use Rattle.jbig2_base.specs.Grid.{max_side}
use Rattle.jbig2_base.specs.Results.{refuse_if, ◌>>=◌}
use Rattle.jbig2_base.specs.Fields.{number_at, signed_at}
use Rattle.jbig2_base.specs.Combination.{operator_of}
use Rattle.jbig2_base.specs.declared.error.DecodeError.{DecodeError}
use Rattle.jbig2_base.specs.declared.error.DecodeError.TheVariants.{Overflow}
use Rattle.jbig2_base.specs.declared.error.OverflowError.TheVariants.{GridDimension}
use Rattle.jbig2_region.specs.RegionInfo.{region_info_at}
use Rattle.jbig2_region.specs.Templates.{template_of}
use Rattle.jbig2_region.specs.declared.region_info.RegionSegmentInfo.{RegionSegmentInfo}
use Rattle.jbig2_halftone.specs.declared.halftone.header.HalftoneGridPositionAndSize.{HalftoneGridPositionAndSize}
use Rattle.jbig2_halftone.specs.declared.halftone.header.HalftoneGridVector.{HalftoneGridVector}
use Rattle.jbig2_halftone.specs.declared.halftone.header.HalftoneRegionFlags.{HalftoneRegionFlags}

pub record HalftoneHeader : Type 0 where  -- what is needed to decode a halftone region's coded bytes
  pub region_info : RegionSegmentInfo
  pub flags : HalftoneRegionFlags
  pub grid_position_and_size : HalftoneGridPositionAndSize
  pub grid_vector : HalftoneGridVector
  pub bytes : List ℕ
  pub strict : Bool

-- the flags (7.4.5.1.1)
unfoldable pub halftone_flags_at : List ℕ → Result (HalftoneRegionFlags × List ℕ) DecodeError
halftone_flags_at bytes = do
  (flags, rest) ← number_at w8 bytes
  operator ← operator_of (flags / 16 % 8)
  Ok (
    record {
      mmr = flags % 2 == 1;
      template = template_of (flags / 2 % 4);
      enable_skip = flags / 8 % 2 == 1;
      combination_operator = operator;
      initial_pixel_color = flags / 128 == 1;
    },
    rest,
  )

-- The grid's size and place (7.4.5.1.2). No side may be above 65535 (our own rule).
unfoldable pub halftone_grid_at : List ℕ → Result (HalftoneGridPositionAndSize × List ℕ) DecodeError
halftone_grid_at bytes = do
  (width, rest) ← number_at w32 bytes
  (height, rest) ← number_at w32 rest
  fits ← refuse_if (nat_lt max_side width || nat_lt max_side height) (Overflow GridDimension)
  (x, rest) ← signed_at w32 rest
  (y, rest) ← signed_at w32 rest
  Ok (record { width = width; height = height; horizontal_offset = x; vertical_offset = y }, rest)

unfoldable pub halftone_header_at : Bool → List ℕ → Result (HalftoneHeader × List ℕ) DecodeError
halftone_header_at strict bytes = do
  (info, rest) ← region_info_at bytes
  (flags, rest) ← halftone_flags_at rest
  (grid, rest) ← halftone_grid_at rest
  (x, rest) ← number_at w16 rest
  (y, rest) ← number_at w16 rest
  Ok (
    record {
      region_info = info;
      flags = flags;
      grid_position_and_size = grid;
      grid_vector = record { x_vector = x; y_vector = y };
      bytes = rest;
      strict = strict;
    },
    rest,
  )

-- the limits of the grid of a header that was parsed
pub record HasCells (header : HalftoneHeader) : Type 0 where
  pub columns : header.grid_position_and_size.width ≤ max_side
  pub rows : header.grid_position_and_size.height ≤ max_side
