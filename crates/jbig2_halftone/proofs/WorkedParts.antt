-- A halftone region whose data is cut off, computed from the definitions alone.
use Rattle.std.proofs.Common.{◌≡◌, ℕ, Bool, true, false, List, [], ◌∷◌, ◌++◌, replicate, Result, Ok, refl}
use Rattle.jbig2_base.specs.Results.{◌>>=◌}
use Rattle.jbig2_base.specs.Combination.{drawn_pixel}
use Rattle.jbig2_base.specs.Grid.{Grid, table, pixel_at}
use Rattle.jbig2_base.specs.Search.{least}
use Rattle.jbig2_base.specs.declared.bitmap.operator.CombinationOperator.TheVariants.{Or}
use Rattle.jbig2_base.specs.declared.error.DecodeError.{DecodeError}
use Rattle.jbig2_mmr.specs.T6.{read_code, run_from, is_change, is_change_from, b1_of, b2_of, after_pass, after_runs, after_vertical, next_step, row_from, black_at, ends_block, rows_from, rows_of, mmr_rows}
use Rattle.jbig2_mmr.specs.T6Codes.{modes, longer_runs, white_runs, black_runs}
use Rattle.jbig2_region.specs.RegionInfo.{PlacedRegion, region_info_at}
use Rattle.jbig2_halftone.specs.GrayScale.{mmr_plane, mmr_planes, gray_value, gray_values, gray_scale_image, mmr_left}
use Rattle.jbig2_halftone.specs.Halftone.{cells_drawn, gray_params}
use Rattle.jbig2_halftone.specs.HalftoneHeader.{halftone_flags_at, halftone_grid_at, halftone_header_at}
use Rattle.jbig2_halftone.specs.Patterns.{Patterns}
use Rattle.jbig2_halftone.specs.WholeCells.{halftone_part, whole_image_rows}

-- bitmaps of one pixel: two white patterns, then two black ones
abbrev dot : Bool → Grid
dot black = record { width = 1; height = 1; pixels = black ∷ [] }

abbrev dots : Patterns
dots = record { grids = dot false ∷ dot false ∷ dot true ∷ dot true ∷ []; width = 1; height = 1 }

-- A black region of 2 by 2, and a grid of 2 by 2 cells that replace its pixels. Of two planes by MMR the first is white,
-- in one byte. The second takes three bytes: its row 0 is black, and its row 1 has a white pixel and a black one.
abbrev header : List ℕ
header = 0 ∷ 0 ∷ 0 ∷ 2 ∷ 0 ∷ 0 ∷ 0 ∷ 2 ∷ (replicate 9 0 ++ 0xC1 ∷ 0 ∷ 0 ∷ 0 ∷ 2 ∷ 0 ∷ 0 ∷ 0 ∷ 2 ∷ (replicate 8 0 ++ 1 ∷ 0 ∷ 0 ∷ 0 ∷ []))

abbrev whole_data : List ℕ
whole_data = 0xC0 ∷ 0x26 ∷ 0xBB ∷ 0x80 ∷ []

-- the same without its last byte, in which row 1 of the second plane ends
abbrev cut_data : List ℕ
cut_data = 0xC0 ∷ 0x26 ∷ 0xBB ∷ []

rows_in : List ℕ → Result ℕ DecodeError
rows_in bytes = halftone_header_at true (header ++ bytes) >>= λ h. Ok (whole_image_rows (gray_params h.0 dots) h.0.bytes)

part_of_data : List ℕ → Result PlacedRegion DecodeError
part_of_data bytes = halftone_header_at true (header ++ bytes) >>= λ h. halftone_part h.0 dots

abbrev placed : List Bool → PlacedRegion
placed pixels = record { grid = record { width = 2; height = 2; pixels = pixels }; x_location = 0; y_location = 0; combination_operator = Or }

rows_of_whole_data : rows_in whole_data ≡ Ok 2
unfolding rows_in halftone_header_at region_info_at halftone_flags_at halftone_grid_at mmr_left rows_of rows_from ends_block black_at row_from next_step after_vertical after_runs after_pass b2_of b1_of is_change_from is_change least run_from read_code modes white_runs black_runs longer_runs
rows_of_whole_data = refl

rows_of_cut_data : rows_in cut_data ≡ Ok 1
unfolding rows_in halftone_header_at region_info_at halftone_flags_at halftone_grid_at mmr_left rows_of rows_from ends_block black_at row_from next_step after_vertical after_runs after_pass b2_of b1_of is_change_from is_change least run_from read_code modes white_runs black_runs longer_runs
rows_of_cut_data = refl

-- row 0 is drawn white, and row 1 stays black
part_of_cut_data : part_of_data cut_data ≡ Ok (placed (false ∷ false ∷ true ∷ true ∷ []))
unfolding part_of_data halftone_header_at region_info_at halftone_flags_at halftone_grid_at halftone_part gray_scale_image mmr_planes mmr_plane mmr_rows gray_values gray_value cells_drawn drawn_pixel mmr_left rows_of rows_from ends_block black_at row_from next_step after_vertical after_runs after_pass b2_of b1_of is_change_from is_change least run_from read_code modes white_runs black_runs longer_runs table pixel_at
part_of_cut_data = refl

-- all cells are drawn where nothing is missing
part_of_whole_data : part_of_data whole_data ≡ Ok (placed (false ∷ false ∷ false ∷ false ∷ []))
unfolding part_of_data halftone_header_at region_info_at halftone_flags_at halftone_grid_at halftone_part gray_scale_image mmr_planes mmr_plane mmr_rows gray_values gray_value cells_drawn drawn_pixel mmr_left rows_of rows_from ends_block black_at row_from next_step after_vertical after_runs after_pass b2_of b1_of is_change_from is_change least run_from read_code modes white_runs black_runs longer_runs table pixel_at
part_of_whole_data = refl
