-- Patterns, gray values and halftone regions of the worked rows, computed from the definitions alone.
use Rattle.std.proofs.Common.{◌≡◌, ℕ, true, false, List, [], ◌∷◌, ◌++◌, replicate, Result, Ok, Err, refl}
use Rattle.jbig2_base.specs.Results.{◌>>=◌}
use Rattle.jbig2_base.specs.Combination.{drawn_pixel}
use Rattle.jbig2_base.specs.Grid.{Grid, table, pixel_at}
use Rattle.jbig2_base.specs.declared.bitmap.operator.CombinationOperator.TheVariants.{Or}
use Rattle.jbig2_base.specs.declared.error.DecodeError.{DecodeError}
use Rattle.jbig2_base.specs.declared.error.DecodeError.TheVariants.{Overflow, Parse}
use Rattle.jbig2_base.specs.declared.error.OverflowError.TheVariants.{BitmapDimension}
use Rattle.jbig2_base.specs.declared.error.ParseError.TheVariants.{UnexpectedEof}
use Rattle.jbig2_region.specs.RegionInfo.{PlacedRegion, region_info_at}
use Rattle.jbig2_mmr.specs.T6Codes.{modes, longer_runs, white_runs, black_runs}
use Rattle.jbig2_base.specs.Search.{least}
use Rattle.jbig2_mmr.specs.T6.{read_code, run_from, is_change, is_change_from, b1_of, b2_of, after_pass, after_runs, after_vertical, next_step, row_from, black_at, ends_block, rows_from, rows_of, mmr_rows}
use Rattle.jbig2_halftone.specs.GrayScale.{mmr_planes, gray_value, gray_values, gray_scale_image}
use Rattle.jbig2_halftone.specs.Halftone.{cells_drawn, halftone_result, halftone_decoded}
use Rattle.jbig2_halftone.specs.HalftoneHeader.{halftone_flags_at, halftone_grid_at, halftone_header_at}
use Rattle.jbig2_halftone.specs.PatternHeader.{pattern_header_at}
use Rattle.jbig2_halftone.specs.Patterns.{Patterns, patterns_of, patterns_decoded}
use Rattle.jbig2_coder.specs.CodeLength.{code_length}

dictionary : List ℕ → Result Patterns DecodeError
dictionary bytes = pattern_header_at true bytes >>= λ h. patterns_decoded h.0

-- one black pattern of 8 by 1
abbrev black : Grid
black = record { width = 8; height = 1; pixels = replicate 8 true }

abbrev one_black : Patterns
one_black = record { grids = black ∷ []; width = 8; height = 1 }

row_13-dictionary : dictionary (1 ∷ 8 ∷ 1 ∷ 0 ∷ 0 ∷ 0 ∷ 0 ∷ 0x26 ∷ 0xA2 ∷ 0x80 ∷ 0x08 ∷ 0x00 ∷ 0x80 ∷ []) ≡ Ok one_black
unfolding dictionary pattern_header_at patterns_decoded patterns_of mmr_rows rows_of rows_from ends_block black_at row_from next_step after_vertical after_runs after_pass b2_of b1_of is_change_from is_change least run_from read_code modes white_runs black_runs longer_runs table pixel_at
row_13-dictionary = refl

row_R7_1-wide : dictionary (1 ∷ 8 ∷ 1 ∷ 255 ∷ 255 ∷ 255 ∷ 255 ∷ []) ≡ Err (Overflow BitmapDimension)
unfolding dictionary pattern_header_at patterns_decoded
row_R7_1-wide = refl

row_R7_1-no_width : dictionary (1 ∷ 0 ∷ 1 ∷ 255 ∷ 255 ∷ 255 ∷ 255 ∷ []) ≡ Err (Parse UnexpectedEof)
unfolding dictionary pattern_header_at
row_R7_1-no_width = refl

region : List ℕ → Result PlacedRegion DecodeError
region bytes = halftone_header_at true bytes >>= λ h. halftone_decoded h.0 one_black

-- a region of 8 by 1 with one cell at this column, in 256ths of a pixel
abbrev one_cell : List ℕ → List ℕ
one_cell column = 0 ∷ 0 ∷ 0 ∷ 8 ∷ 0 ∷ 0 ∷ 0 ∷ 1 ∷ (replicate 9 0 ++ 1 ∷ 0 ∷ 0 ∷ 0 ∷ 1 ∷ 0 ∷ 0 ∷ 0 ∷ 1 ∷ (column ++ replicate 8 0))

row_13-region : region (one_cell (0 ∷ 0 ∷ 0 ∷ 0 ∷ [])) ≡ Ok (record { grid = black; x_location = 0; y_location = 0; combination_operator = Or })
unfolding region halftone_header_at region_info_at halftone_flags_at halftone_grid_at halftone_decoded halftone_result gray_scale_image mmr_planes gray_values gray_value cells_drawn drawn_pixel table pixel_at least
row_13-region = refl

row_R7_3-region : region (one_cell (0 ∷ 0 ∷ 8 ∷ 0 ∷ [])) ≡ Ok (record { grid = record { width = 8; height = 1; pixels = replicate 8 false }; x_location = 0; y_location = 0; combination_operator = Or })
unfolding region halftone_header_at region_info_at halftone_flags_at halftone_grid_at halftone_decoded halftone_result gray_scale_image mmr_planes gray_values gray_value cells_drawn drawn_pixel table pixel_at least
row_R7_3-region = refl

-- planes of one pixel
abbrev dark : Grid
dark = record { width = 1; height = 1; pixels = true ∷ [] }

abbrev light : Grid
light = record { width = 1; height = 1; pixels = false ∷ [] }

values_of_two_planes : gray_value (light ∷ light ∷ []) 0 0 ∷ gray_value (light ∷ dark ∷ []) 0 0 ∷ gray_value (dark ∷ dark ∷ []) 0 0 ∷ gray_value (dark ∷ light ∷ []) 0 0 ∷ [] ≡ 0 ∷ 1 ∷ 2 ∷ 3 ∷ []
unfolding gray_value pixel_at
values_of_two_planes = refl

lengths_of_values : code_length 0 ∷ code_length 1 ∷ code_length 2 ∷ code_length 3 ∷ code_length 4 ∷ code_length 5 ∷ code_length 256 ∷ code_length 257 ∷ [] ≡ 0 ∷ 0 ∷ 1 ∷ 2 ∷ 2 ∷ 3 ∷ 8 ∷ 9 ∷ []
unfolding least
lengths_of_values = refl
