-- The instances of small text regions, computed from the definitions alone.
use Rattle.std.proofs.Common.{pos, ◌≡◌, ℕ, true, false, List, [], ◌∷◌, ◌++◌, replicate, Result, Ok, refl}
use Rattle.jbig2_base.specs.Results.{◌>>=◌}
use Rattle.jbig2_base.specs.Grid.{Grid, table, pixel_at}
use Rattle.jbig2_base.specs.declared.error.DecodeError.{DecodeError}
use Rattle.jbig2_text.specs.TextHeader.{text_header_at, text_fields_at, text_flags_at, NumberCoding, TextHeader, ArithmeticCoding, HuffmanCoding}
use Rattle.jbig2_region.specs.RegionInfo.{region_info_at}
use Rattle.jbig2_text.specs.SymbolCodes.{symbol_codes_from, runcodes_at, symbol_lengths_at, short_lengths, runs_at}
use Rattle.jbig2_text.specs.TextRegion.{text_tables, prefix_codes_of, refining_of, text_params}
use Rattle.jbig2_text.specs.Text.{Instance, symbol_placed, instance_symbol, strip_start, strip_delta, refined_symbol, refinement_deltas, refined_outline}
use Rattle.jbig2_coder.specs.Tables.{lines_f, lines_h, lines_k, lines_a, lines_n}
use Rattle.jbig2_coder.specs.PrefixCode.{prefix_code, is_crowded, weight, shorter, read_code, decoded_value}
use Rattle.jbig2_base.specs.Search.{least}
use Rattle.jbig2_base.specs.Bits.{bits_left, bits_on}
use Rattle.jbig2_text.specs.Refining.{refined_by}
use Rattle.jbig2_region.specs.Raster.{decoded_region, first_pixels, at_next, after_pixel, with_next, after_ltp, so_far}
use Rattle.jbig2_region.specs.Refinement.{refined_context}
use Rattle.jbig2_coder.specs.Coder.{byte_at, byte_in, byte_in_if_empty, shift_left, renormd, initial_registers, likely_next, unlikely_next, choice, decision}
use Rattle.jbig2_coder.specs.QeTable.{rows, qe_row}
use Rattle.jbig2_region.specs.RefinementTemplates.{refinement_pixels_at}
use Rattle.jbig2_text.specs.TextCoding.{by_prefix_codes}
use Rattle.jbig2_second_forms.specs.TextInstances.{instance_at, instances_of, strip_from, strips_from}

abbrev black : Grid
black = record { width = 1; height = 1; pixels = true ∷ [] }

abbrev white : Grid
white = record { width = 1; height = 1; pixels = false ∷ [] }

abbrev tall : Grid
tall = record { width = 2; height = 3; pixels = true ∷ false ∷ false ∷ true ∷ true ∷ true ∷ [] }

listed_by : Grid → TextHeader → NumberCoding → Result (List Instance) DecodeError
listed_by symbol h ArithmeticCoding = Ok []
listed_by symbol h (HuffmanCoding numbers ids) =
    prefix_codes_of h numbers ids [] >>= λ s. instances_of by_prefix_codes (text_params h (symbol ∷ [])) (refining_of h) s >>= λ x. Ok x.0

-- the instances in a segment's data with one symbol, by prefix codes
listed : Grid → List ℕ → Result (List Instance) DecodeError
listed symbol bytes = text_header_at 1 true bytes >>= λ h. listed_by symbol h.0 h.0.coding

-- strips of four, transposed, with the corner at the bottom right: T is 3 and S is 5
transposed : listed tall (0 ∷ 0 ∷ 0 ∷ 4 ∷ 0 ∷ 0 ∷ 0 ∷ 8 ∷ (replicate 9 0 ++ 0 ∷ 0x69 ∷ 0 ∷ 0 ∷ 0 ∷ 0 ∷ 0 ∷ 1 ∷ 1 ∷ (replicate 17 0 ++ 0 ∷ 0xB9 ∷ [])))
    ≡ Ok (record { grid = tall; x = pos 2; y = pos 5 } ∷ [])
unfolding listed listed_by instances_of strips_from strip_from instance_at text_header_at region_info_at text_fields_at text_flags_at symbol_codes_from runcodes_at symbol_lengths_at short_lengths runs_at text_tables symbol_placed instance_symbol strip_start strip_delta lines_f lines_h lines_k prefix_code is_crowded weight shorter read_code least decoded_value bits_left bits_on table pixel_at lines_a lines_n refined_symbol refinement_deltas refined_outline refined_by decoded_region first_pixels at_next after_pixel with_next after_ltp so_far refined_context byte_at byte_in byte_in_if_empty shift_left renormd initial_registers likely_next unlikely_next choice decision rows qe_row refinement_pixels_at
transposed = refl

-- a white symbol refined into a black one
refined : listed white (0 ∷ 0 ∷ 0 ∷ 8 ∷ 0 ∷ 0 ∷ 0 ∷ 1 ∷ (replicate 9 0 ++ 0x80 ∷ 0x13 ∷ 0 ∷ 0 ∷ 0 ∷ 0 ∷ 0 ∷ 1 ∷ 1 ∷ (replicate 17 0 ++ 0 ∷ 8 ∷ 0 ∷ 0x40 ∷ [])))
    ≡ Ok (record { grid = black; x = pos 0; y = pos 0 } ∷ [])
unfolding listed listed_by instances_of strips_from strip_from instance_at text_header_at region_info_at text_fields_at text_flags_at symbol_codes_from runcodes_at symbol_lengths_at short_lengths runs_at text_tables symbol_placed instance_symbol strip_start strip_delta lines_f lines_h lines_k prefix_code is_crowded weight shorter read_code least decoded_value bits_left bits_on table pixel_at lines_a lines_n refined_symbol refinement_deltas refined_outline refined_by decoded_region first_pixels at_next after_pixel with_next after_ltp so_far refined_context byte_at byte_in byte_in_if_empty shift_left renormd initial_registers likely_next unlikely_next choice decision rows qe_row refinement_pixels_at
refined = refl
