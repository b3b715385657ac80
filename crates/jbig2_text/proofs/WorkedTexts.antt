-- Text regions of the worked rows, computed from the definitions alone.
use Rattle.std.proofs.Common.{◌≡◌, ℕ, Bool, true, false, List, [], ◌∷◌, ◌++◌, replicate, Result, Ok, Err, refl}
use Rattle.jbig2_base.specs.Results.{◌>>=◌}
use Rattle.jbig2_base.specs.Bits.{bits_left, bits_on}
use Rattle.jbig2_base.specs.Combination.{drawn_pixel}
use Rattle.jbig2_base.specs.Grid.{Grid, table, pixel_at}
use Rattle.jbig2_base.specs.declared.bitmap.operator.CombinationOperator.TheVariants.{Or}
use Rattle.jbig2_base.specs.declared.error.DecodeError.{DecodeError}
use Rattle.jbig2_base.specs.declared.error.DecodeError.TheVariants.{Parse, Symbol}
use Rattle.jbig2_base.specs.declared.error.ParseError.TheVariants.{UnexpectedEof}
use Rattle.jbig2_base.specs.declared.error.SymbolError.TheVariants.{TooManyInstances}
use Rattle.jbig2_coder.specs.Coder.{byte_at, byte_in, byte_in_if_empty, shift_left, renormd, initial_registers, likely_next, unlikely_next, choice, decision}
use Rattle.jbig2_coder.specs.QeTable.{rows, qe_row}
use Rattle.jbig2_base.specs.Search.{least}
use Rattle.jbig2_coder.specs.PrefixCode.{prefix_code, is_crowded, weight, shorter, read_code, decoded_value}
use Rattle.jbig2_coder.specs.Tables.{lines_a, lines_n, lines_f, lines_h, lines_k}
use Rattle.jbig2_region.specs.RegionInfo.{PlacedRegion, region_info_at}
use Rattle.jbig2_region.specs.Raster.{so_far, with_next, after_pixel, after_ltp, at_next, first_pixels, decoded_region}
use Rattle.jbig2_region.specs.Refinement.{refined_context}
use Rattle.jbig2_region.specs.RefinementTemplates.{refinement_pixels_at}
use Rattle.jbig2_text.specs.SymbolCodes.{runcodes_at, symbol_lengths_at, short_lengths, runs_at, symbol_codes_from}
use Rattle.jbig2_text.specs.Text.{strip_delta, strip_start, next_cursor, instance_symbol, refined_symbol, refinement_deltas, refined_outline, symbol_placed, with_instance, after_instances, text_region}
use Rattle.jbig2_text.specs.Refining.{refined_by}
use Rattle.jbig2_text.specs.TextHeader.{text_fields_at, text_flags_at, text_header_at}
use Rattle.jbig2_text.specs.TextRegion.{region_from, text_tables, text_result, text_decoded}

-- one black symbol of 1 by 1
abbrev black : Grid
black = record { width = 1; height = 1; pixels = true ∷ [] }

abbrev white : Grid
white = record { width = 1; height = 1; pixels = false ∷ [] }

region_of : Grid → Bool → List ℕ → Result PlacedRegion DecodeError
region_of symbol strict bytes = text_header_at 1 strict bytes >>= λ h. text_decoded h.0 (symbol ∷ []) []

abbrev region : Bool → List ℕ → Result PlacedRegion DecodeError
region strict bytes = region_of black strict bytes

-- a region of 8 by 1 with this many instances, and these last two bytes
abbrev one_row : List ℕ → List ℕ → List ℕ
one_row count end = 0 ∷ 0 ∷ 0 ∷ 8 ∷ 0 ∷ 0 ∷ 0 ∷ 1 ∷ (replicate 9 0 ++ 0 ∷ 0x11 ∷ 0 ∷ 0 ∷ (count ++ 1 ∷ (replicate 17 0 ++ end)))

-- its first pixel alone is black
abbrev dot : PlacedRegion
dot = record { grid = record { width = 8; height = 1; pixels = true ∷ replicate 7 false }; x_location = 0; y_location = 0; combination_operator = Or }

row_11 : region true (one_row (0 ∷ 0 ∷ 0 ∷ 1 ∷ []) (0 ∷ 4 ∷ [])) ≡ Ok (dot)
unfolding region_of text_header_at region_info_at text_fields_at text_flags_at symbol_codes_from runcodes_at symbol_lengths_at short_lengths runs_at text_decoded text_result region_from text_tables text_region after_instances with_instance symbol_placed instance_symbol next_cursor strip_start strip_delta lines_f lines_h lines_k prefix_code is_crowded weight shorter read_code least decoded_value bits_left bits_on drawn_pixel table pixel_at
row_11 = refl

row_11-lenient : region false (one_row (0 ∷ 0 ∷ 0 ∷ 1 ∷ []) (0 ∷ 4 ∷ [])) ≡ Ok dot
unfolding region_of text_header_at region_info_at text_fields_at text_flags_at symbol_codes_from runcodes_at symbol_lengths_at short_lengths runs_at text_decoded text_result region_from text_tables text_region after_instances with_instance symbol_placed instance_symbol next_cursor strip_start strip_delta lines_f lines_h lines_k prefix_code is_crowded weight shorter read_code least decoded_value bits_left bits_on drawn_pixel table pixel_at
row_11-lenient = refl

row_12-strict : region true (one_row (0 ∷ 0 ∷ 0 ∷ 2 ∷ []) (0 ∷ 4 ∷ [])) ≡ Err (Parse UnexpectedEof)
unfolding region_of text_header_at region_info_at text_fields_at text_flags_at symbol_codes_from runcodes_at symbol_lengths_at short_lengths runs_at text_decoded text_result region_from text_tables text_region after_instances with_instance symbol_placed instance_symbol next_cursor strip_start strip_delta lines_f lines_h lines_k prefix_code is_crowded weight shorter read_code least decoded_value bits_left bits_on drawn_pixel table pixel_at
row_12-strict = refl

row_12-lenient : region false (one_row (0 ∷ 0 ∷ 0 ∷ 2 ∷ []) (0 ∷ 4 ∷ [])) ≡ Err (Parse UnexpectedEof)
unfolding region_of text_header_at region_info_at text_fields_at text_flags_at symbol_codes_from runcodes_at symbol_lengths_at short_lengths runs_at text_decoded text_result region_from text_tables text_region after_instances with_instance symbol_placed instance_symbol next_cursor strip_start strip_delta lines_f lines_h lines_k prefix_code is_crowded weight shorter read_code least decoded_value bits_left bits_on drawn_pixel table pixel_at
row_12-lenient = refl

row_R8_3-many : region false (one_row (0 ∷ 0 ∷ 5 ∷ 0xA1 ∷ []) (0 ∷ 4 ∷ [])) ≡ Err (Symbol TooManyInstances)
unfolding region_of text_header_at region_info_at text_fields_at text_flags_at symbol_codes_from runcodes_at symbol_lengths_at short_lengths runs_at text_decoded text_result region_from text_tables text_region after_instances with_instance symbol_placed instance_symbol next_cursor strip_start strip_delta lines_f lines_h lines_k prefix_code is_crowded weight shorter read_code least decoded_value bits_left bits_on drawn_pixel table pixel_at
row_R8_3-many = refl

row_R8_3-fewer : region true (one_row (0 ∷ 0 ∷ 5 ∷ 0xA0 ∷ []) (0 ∷ 4 ∷ [])) ≡ Err (Parse UnexpectedEof)
unfolding region_of text_header_at region_info_at text_fields_at text_flags_at symbol_codes_from runcodes_at symbol_lengths_at short_lengths runs_at text_decoded text_result region_from text_tables text_region after_instances with_instance symbol_placed instance_symbol next_cursor strip_start strip_delta lines_f lines_h lines_k prefix_code is_crowded weight shorter read_code least decoded_value bits_left bits_on drawn_pixel table pixel_at
row_R8_3-fewer = refl

row_R8_4-strict : region true (one_row (0 ∷ 0 ∷ 0 ∷ 1 ∷ []) (0 ∷ 0 ∷ [])) ≡ Err (Symbol TooManyInstances)
unfolding region_of text_header_at region_info_at text_fields_at text_flags_at symbol_codes_from runcodes_at symbol_lengths_at short_lengths runs_at text_decoded text_result region_from text_tables text_region after_instances with_instance symbol_placed instance_symbol next_cursor strip_start strip_delta lines_f lines_h lines_k prefix_code is_crowded weight shorter read_code least decoded_value bits_left bits_on drawn_pixel table pixel_at
row_R8_4-strict = refl

row_R8_4-lenient : region false (one_row (0 ∷ 0 ∷ 0 ∷ 1 ∷ []) (0 ∷ 0 ∷ [])) ≡ Ok dot
unfolding region_of text_header_at region_info_at text_fields_at text_flags_at symbol_codes_from runcodes_at symbol_lengths_at short_lengths runs_at text_decoded text_result region_from text_tables text_region after_instances with_instance symbol_placed instance_symbol next_cursor strip_start strip_delta lines_f lines_h lines_k prefix_code is_crowded weight shorter read_code least decoded_value bits_left bits_on drawn_pixel table pixel_at
row_R8_4-lenient = refl

-- Strips of four, transposed, with the corner at the bottom right: T is 3 and S 5, so the symbol's last column is 3, and
-- its first row is 5.
abbrev tall : Grid
tall = record { width = 2; height = 3; pixels = true ∷ false ∷ false ∷ true ∷ true ∷ true ∷ [] }

abbrev across : PlacedRegion
across = record {
  grid = record {
    width = 4;
    height = 8;
    pixels =
        replicate 20 false
        ++ false ∷ false ∷ true ∷ false ∷ false ∷ false ∷ false ∷ true ∷ false ∷ false ∷ true ∷ true ∷ [];
  };
  x_location = 0;
  y_location = 0;
  combination_operator = Or;
}

transposed_at_bottom_right : region_of tall true (0 ∷ 0 ∷ 0 ∷ 4 ∷ 0 ∷ 0 ∷ 0 ∷ 8 ∷ (replicate 9 0 ++ 0 ∷ 0x69 ∷ 0 ∷ 0 ∷ 0 ∷ 0 ∷ 0 ∷ 1 ∷ 1 ∷ (replicate 17 0 ++ 0 ∷ 0xB9 ∷ []))) ≡ Ok across
unfolding region_of text_header_at region_info_at text_fields_at text_flags_at symbol_codes_from runcodes_at symbol_lengths_at short_lengths runs_at text_decoded text_result region_from text_tables text_region after_instances with_instance symbol_placed instance_symbol next_cursor strip_start strip_delta lines_f lines_h lines_k prefix_code is_crowded weight shorter read_code least decoded_value bits_left bits_on drawn_pixel table pixel_at
transposed_at_bottom_right = refl

-- a white symbol refined into a black one by template 1, with no bytes of its own
refined_symbol_by_prefix_codes : region_of white true (0 ∷ 0 ∷ 0 ∷ 8 ∷ 0 ∷ 0 ∷ 0 ∷ 1 ∷ (replicate 9 0 ++ 0x80 ∷ 0x13 ∷ 0 ∷ 0 ∷ 0 ∷ 0 ∷ 0 ∷ 1 ∷ 1 ∷ (replicate 17 0 ++ 0 ∷ 8 ∷ 0 ∷ 0x40 ∷ []))) ≡ Ok dot
unfolding region_of text_header_at region_info_at text_fields_at text_flags_at symbol_codes_from runcodes_at symbol_lengths_at short_lengths runs_at text_decoded text_result region_from text_tables text_region after_instances with_instance symbol_placed instance_symbol next_cursor strip_start strip_delta lines_f lines_h lines_k prefix_code is_crowded weight shorter read_code least decoded_value bits_left bits_on drawn_pixel table pixel_at lines_a lines_n refined_symbol refinement_deltas refined_outline refined_by decoded_region first_pixels at_next after_pixel with_next after_ltp so_far refined_context byte_at byte_in byte_in_if_empty shift_left renormd initial_registers likely_next unlikely_next choice decision rows qe_row refinement_pixels_at
refined_symbol_by_prefix_codes = refl
