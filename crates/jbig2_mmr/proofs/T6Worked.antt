-- Short MMR data, computed from the definition.
use Rattle.std.proofs.Common.{◌≡◌, true, false, [], ◌∷◌, Some, Ok, Err, refl}
use Rattle.std.specs.Prelude.{codes}
use Rattle.jbig2_base.specs.Grid.{table}
use Rattle.jbig2_base.specs.declared.error.DecodeError.TheVariants.{Region}
use Rattle.jbig2_base.specs.declared.error.RegionError.TheVariants.{InvalidMmrData}
use Rattle.jbig2_mmr.specs.T6Codes.{word, modes, longer_runs, white_runs, black_runs}
use Rattle.jbig2_base.specs.Search.{least}
use Rattle.jbig2_mmr.specs.T6.{read_code, run_from, row, pixel_of, is_change, is_change_from, b1_of, b2_of, after_pass, after_runs, after_vertical, next_step, row_from, black_at, ends_block, rows_from, rows_of, mmr_rows}

white_row-strict : mmr_rows true 8 1 (0x80 ∷ []) ≡ Ok (record { grid = record { width = 8; height = 1; pixels = false ∷ false ∷ false ∷ false ∷ false ∷ false ∷ false ∷ false ∷ [] }; used = 1 })
unfolding mmr_rows rows_of rows_from ends_block black_at row_from next_step after_vertical after_runs after_pass b2_of b1_of is_change_from is_change least run_from read_code modes white_runs black_runs longer_runs table
white_row-strict = refl

white_row-lenient : mmr_rows false 8 1 (0x80 ∷ []) ≡ Ok (record { grid = record { width = 8; height = 1; pixels = false ∷ false ∷ false ∷ false ∷ false ∷ false ∷ false ∷ false ∷ [] }; used = 1 })
unfolding mmr_rows rows_of rows_from ends_block black_at row_from next_step after_vertical after_runs after_pass b2_of b1_of is_change_from is_change least run_from read_code modes white_runs black_runs longer_runs table
white_row-lenient = refl

black_row-strict : mmr_rows true 8 1 (0x26 ∷ 0xA2 ∷ 0x80 ∷ []) ≡ Ok (record { grid = record { width = 8; height = 1; pixels = true ∷ true ∷ true ∷ true ∷ true ∷ true ∷ true ∷ true ∷ [] }; used = 3 })
unfolding mmr_rows rows_of rows_from ends_block black_at row_from next_step after_vertical after_runs after_pass b2_of b1_of is_change_from is_change least run_from read_code modes white_runs black_runs longer_runs table
black_row-strict = refl

black_row-lenient : mmr_rows false 8 1 (0x26 ∷ 0xA2 ∷ 0x80 ∷ []) ≡ Ok (record { grid = record { width = 8; height = 1; pixels = true ∷ true ∷ true ∷ true ∷ true ∷ true ∷ true ∷ true ∷ [] }; used = 3 })
unfolding mmr_rows rows_of rows_from ends_block black_at row_from next_step after_vertical after_runs after_pass b2_of b1_of is_change_from is_change least run_from read_code modes white_runs black_runs longer_runs table
black_row-lenient = refl

two_black_rows-strict : mmr_rows true 8 2 (0x26 ∷ 0xA2 ∷ 0xE0 ∷ []) ≡ Ok (record { grid = record { width = 8; height = 2; pixels = true ∷ true ∷ true ∷ true ∷ true ∷ true ∷ true ∷ true ∷ true ∷ true ∷ true ∷ true ∷ true ∷ true ∷ true ∷ true ∷ [] }; used = 3 })
unfolding mmr_rows rows_of rows_from ends_block black_at row_from next_step after_vertical after_runs after_pass b2_of b1_of is_change_from is_change least run_from read_code modes white_runs black_runs longer_runs table
two_black_rows-strict = refl

two_black_rows-lenient : mmr_rows false 8 2 (0x26 ∷ 0xA2 ∷ 0xE0 ∷ []) ≡ Ok (record { grid = record { width = 8; height = 2; pixels = true ∷ true ∷ true ∷ true ∷ true ∷ true ∷ true ∷ true ∷ true ∷ true ∷ true ∷ true ∷ true ∷ true ∷ true ∷ true ∷ [] }; used = 3 })
unfolding mmr_rows rows_of rows_from ends_block black_at row_from next_step after_vertical after_runs after_pass b2_of b1_of is_change_from is_change least run_from read_code modes white_runs black_runs longer_runs table
two_black_rows-lenient = refl

early_end-strict : mmr_rows true 8 2 (0x26 ∷ 0xA2 ∷ 0x80 ∷ 0x08 ∷ 0x00 ∷ 0x80 ∷ []) ≡ Err (Region InvalidMmrData)
unfolding mmr_rows rows_of rows_from ends_block black_at row_from next_step after_vertical after_runs after_pass b2_of b1_of is_change_from is_change least run_from read_code modes white_runs black_runs longer_runs table
early_end-strict = refl

early_end-lenient : mmr_rows false 8 2 (0x26 ∷ 0xA2 ∷ 0x80 ∷ 0x08 ∷ 0x00 ∷ 0x80 ∷ []) ≡ Ok (record { grid = record { width = 8; height = 2; pixels = true ∷ true ∷ true ∷ true ∷ true ∷ true ∷ true ∷ true ∷ false ∷ false ∷ false ∷ false ∷ false ∷ false ∷ false ∷ false ∷ [] }; used = 6 })
unfolding mmr_rows rows_of rows_from ends_block black_at row_from next_step after_vertical after_runs after_pass b2_of b1_of is_change_from is_change least run_from read_code modes white_runs black_runs longer_runs table
early_end-lenient = refl

last_pixel-strict : mmr_rows true 8 1 (0x50 ∷ []) ≡ Ok (record { grid = record { width = 8; height = 1; pixels = false ∷ false ∷ false ∷ false ∷ false ∷ false ∷ false ∷ true ∷ [] }; used = 1 })
unfolding mmr_rows rows_of rows_from ends_block black_at row_from next_step after_vertical after_runs after_pass b2_of b1_of is_change_from is_change least run_from read_code modes white_runs black_runs longer_runs table
last_pixel-strict = refl

last_pixel-lenient : mmr_rows false 8 1 (0x50 ∷ []) ≡ Ok (record { grid = record { width = 8; height = 1; pixels = false ∷ false ∷ false ∷ false ∷ false ∷ false ∷ false ∷ true ∷ [] }; used = 1 })
unfolding mmr_rows rows_of rows_from ends_block black_at row_from next_step after_vertical after_runs after_pass b2_of b1_of is_change_from is_change least run_from read_code modes white_runs black_runs longer_runs table
last_pixel-lenient = refl

no_pixels-strict : mmr_rows true 8 1 (0x4A ∷ []) ≡ Ok (record { grid = record { width = 8; height = 1; pixels = false ∷ false ∷ false ∷ false ∷ false ∷ false ∷ false ∷ false ∷ [] }; used = 1 })
unfolding mmr_rows rows_of rows_from ends_block black_at row_from next_step after_vertical after_runs after_pass b2_of b1_of is_change_from is_change least run_from read_code modes white_runs black_runs longer_runs table
no_pixels-strict = refl

no_pixels-lenient : mmr_rows false 8 1 (0x4A ∷ []) ≡ Ok (record { grid = record { width = 8; height = 1; pixels = false ∷ false ∷ false ∷ false ∷ false ∷ false ∷ false ∷ false ∷ [] }; used = 1 })
unfolding mmr_rows rows_of rows_from ends_block black_at row_from next_step after_vertical after_runs after_pass b2_of b1_of is_change_from is_change least run_from read_code modes white_runs black_runs longer_runs table
no_pixels-lenient = refl

left_of_a0-strict : mmr_rows true 8 1 (0x41 ∷ 0x00 ∷ []) ≡ Err (Region InvalidMmrData)
unfolding mmr_rows rows_of rows_from ends_block black_at row_from next_step after_vertical after_runs after_pass b2_of b1_of is_change_from is_change least run_from read_code modes white_runs black_runs longer_runs table
left_of_a0-strict = refl

left_of_a0-lenient : mmr_rows false 8 1 (0x41 ∷ 0x00 ∷ []) ≡ Ok (record { grid = record { width = 8; height = 1; pixels = false ∷ false ∷ false ∷ false ∷ false ∷ false ∷ false ∷ false ∷ [] }; used = 2 })
unfolding mmr_rows rows_of rows_from ends_block black_at row_from next_step after_vertical after_runs after_pass b2_of b1_of is_change_from is_change least run_from read_code modes white_runs black_runs longer_runs table
left_of_a0-lenient = refl

no_bits-strict : mmr_rows true 8 1 ([]) ≡ Err (Region InvalidMmrData)
unfolding mmr_rows rows_of rows_from ends_block black_at row_from next_step after_vertical after_runs after_pass b2_of b1_of is_change_from is_change least run_from read_code modes white_runs black_runs longer_runs table
no_bits-strict = refl

no_bits-lenient : mmr_rows false 8 1 ([]) ≡ Ok (record { grid = record { width = 8; height = 1; pixels = false ∷ false ∷ false ∷ false ∷ false ∷ false ∷ false ∷ false ∷ [] }; used = 0 })
unfolding mmr_rows rows_of rows_from ends_block black_at row_from next_step after_vertical after_runs after_pass b2_of b1_of is_change_from is_change least run_from read_code modes white_runs black_runs longer_runs table
no_bits-lenient = refl

no_columns-strict : mmr_rows true 0 5 (0xFF ∷ []) ≡ Ok (record { grid = record { width = 0; height = 5; pixels = [] }; used = 0 })
unfolding mmr_rows rows_of rows_from ends_block black_at row_from next_step after_vertical after_runs after_pass b2_of b1_of is_change_from is_change least run_from read_code modes white_runs black_runs longer_runs table
no_columns-strict = refl

no_columns-lenient : mmr_rows false 0 5 (0xFF ∷ []) ≡ Ok (record { grid = record { width = 0; height = 5; pixels = [] }; used = 0 })
unfolding mmr_rows rows_of rows_from ends_block black_at row_from next_step after_vertical after_runs after_pass b2_of b1_of is_change_from is_change least run_from read_code modes white_runs black_runs longer_runs table
no_columns-lenient = refl

-- ---- single rows, from the codes alone
-- V0 three times: the changing elements are those of the row above
row_under : row 8 (pixel_of 8 (2 ∷ 5 ∷ [])) (word (codes "111")) ≡ Some (2 ∷ 5 ∷ 8 ∷ [], [])
unfolding row_from next_step after_vertical after_runs after_pass b2_of b1_of is_change_from is_change least run_from read_code modes black_at
row_under = refl

-- a pass over both, then V0 at the row's end
row_passed : row 8 (pixel_of 8 (2 ∷ 5 ∷ [])) (word (codes "00011")) ≡ Some (8 ∷ [], [])
unfolding row_from next_step after_vertical after_runs after_pass b2_of b1_of is_change_from is_change least run_from read_code modes black_at
row_passed = refl

-- the horizontal mode: 64 and 6 white pixels, then 30 black ones
row_made_up : row 100 (pixel_of 100 []) (word (codes "001110111110000001101000")) ≡ Some (70 ∷ 100 ∷ [], [])
unfolding row_from next_step after_vertical after_runs after_pass b2_of b1_of is_change_from is_change least run_from read_code modes white_runs black_runs longer_runs black_at
row_made_up = refl
