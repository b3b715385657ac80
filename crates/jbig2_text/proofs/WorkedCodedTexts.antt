-- A text region by the arithmetic coder, computed from the definitions alone.
use Rattle.std.proofs.Common.{◌≡◌, ℕ, ◌+◌, Bool, true, false, List, [], ◌∷◌, ◌++◌, replicate, Result, Ok, refl}
use Rattle.jbig2_base.specs.Results.{◌>>=◌}
use Rattle.jbig2_base.specs.Combination.{drawn_pixel}
use Rattle.jbig2_base.specs.Grid.{table, pixel_at}
use Rattle.jbig2_base.specs.declared.bitmap.operator.CombinationOperator.TheVariants.{Or}
use Rattle.jbig2_base.specs.declared.error.DecodeError.{DecodeError}
use Rattle.jbig2_coder.specs.Coder.{byte_at, byte_in, byte_in_if_empty, shift_left, renormd, initial_registers, likely_next, unlikely_next, choice, decision}
use Rattle.jbig2_coder.specs.Encoder.{initial_coding, eight_bits_out, seven_bits_out, byte_out, shift_once, renorme, narrowed_likely, narrowed_unlikely, narrowed_interval, encoding, set_bits, flush_coder, is_full, with_marker, with_context, encode_from, encoded_bytes}
use Rattle.jbig2_coder.specs.Integers.{integer, next, read, read_more, ranges, are_next, next_range, signed_number, value_of, id, integer_by}
use Rattle.jbig2_base.specs.Bits.{value_of_bits}
use Rattle.jbig2_coder.specs.QeTable.{rows, qe_row}
use Rattle.jbig2_region.specs.RegionInfo.{PlacedRegion, region_info_at}
use Rattle.jbig2_region.specs.Raster.{so_far, with_next, after_pixel, after_ltp, at_next, first_pixels, decoded_region}
use Rattle.jbig2_region.specs.Refinement.{refined_context}
use Rattle.jbig2_region.specs.RefinementTemplates.{refinement_pixels_at}
use Rattle.jbig2_base.specs.Search.{least}
use Rattle.jbig2_text.specs.Text.{strip_delta, strip_start, next_cursor, instance_symbol, refined_symbol, refinement_deltas, refined_outline, symbol_placed, with_instance, after_instances, text_region}
use Rattle.jbig2_text.specs.Refining.{refined_by}
use Rattle.jbig2_text.specs.TextCoding.{coded_start}
use Rattle.jbig2_text.specs.TextHeader.{text_fields_at, text_flags_at, text_header_at}
use Rattle.jbig2_text.specs.TextRegion.{region_from, text_result, text_decoded}

-- a number 0 in its contexts, which for each integer begin elsewhere
abbrev zero_of : ℕ → List (ℕ × Bool)
zero_of from = (from + 1, false) ∷ (from + 2, false) ∷ (from + 4, false) ∷ (from + 8, false) ∷ []

abbrev one_of : ℕ → List (ℕ × Bool)
one_of from = (from + 1, false) ∷ (from + 2, false) ∷ (from + 4, false) ∷ (from + 8, true) ∷ []

abbrev end_of_strip : List (ℕ × Bool)
end_of_strip = (1025, true) ∷ (1027, false) ∷ (1030, false) ∷ (1036, false) ∷ []

abbrev decisions : List (ℕ × Bool)
decisions = zero_of 0 ++ zero_of 0 ++ zero_of 512 ++ end_of_strip

abbrev coded : List ℕ
coded = 169 ∷ 67 ∷ 255 ∷ 172 ∷ []

row_R8_6-bytes : encoded_bytes decisions ≡ coded
unfolding initial_coding eight_bits_out seven_bits_out byte_out set_bits flush_coder is_full with_marker encode_from encoded_bytes rows qe_row likely_next unlikely_next shift_once renorme narrowed_likely narrowed_unlikely narrowed_interval encoding with_context
row_R8_6-bytes = refl

-- of one symbol of 1 by 1
region : Bool → List ℕ → Result PlacedRegion DecodeError
region black bytes = text_header_at 1 true bytes >>= λ h. text_decoded h.0 (record { width = 1; height = 1; pixels = black ∷ [] } ∷ []) []

-- a region of 8 by 1 whose first pixel alone is black
abbrev dot : PlacedRegion
dot = record { grid = record { width = 8; height = 1; pixels = true ∷ replicate 7 false }; x_location = 0; y_location = 0; combination_operator = Or }

row_R8_6 : region true (0 ∷ 0 ∷ 0 ∷ 8 ∷ 0 ∷ 0 ∷ 0 ∷ 1 ∷ (replicate 9 0 ++ 0 ∷ 0x10 ∷ 0 ∷ 0 ∷ 0 ∷ 1 ∷ coded)) ≡ Ok dot
unfolding region text_header_at region_info_at text_fields_at text_flags_at text_decoded text_result region_from text_region after_instances with_instance symbol_placed instance_symbol next_cursor strip_start strip_delta least coded_start integer_by integer value_of_bits next read read_more ranges are_next next_range signed_number value_of id byte_at byte_in byte_in_if_empty shift_left renormd initial_registers likely_next unlikely_next choice decision rows qe_row drawn_pixel table pixel_at
row_R8_6 = refl

-- a white symbol refined into a black one, by template 1
abbrev refinement : List (ℕ × Bool)
refinement = zero_of 0 ++ zero_of 0 ++ zero_of 512 ++ one_of 1536 ++ zero_of 2048 ++ zero_of 2560 ++ zero_of 3072 ++ zero_of 3584 ++ (4096, true) ∷ end_of_strip

abbrev refined : List ℕ
refined = 169 ∷ 108 ∷ 183 ∷ 235 ∷ 223 ∷ 255 ∷ 172 ∷ []

refined-bytes : encoded_bytes refinement ≡ refined
unfolding initial_coding eight_bits_out seven_bits_out byte_out set_bits flush_coder is_full with_marker encode_from encoded_bytes rows qe_row likely_next unlikely_next shift_once renorme narrowed_likely narrowed_unlikely narrowed_interval encoding with_context
refined-bytes = refl

refined_symbol_by_coder : region false (0 ∷ 0 ∷ 0 ∷ 8 ∷ 0 ∷ 0 ∷ 0 ∷ 1 ∷ (replicate 9 0 ++ 0x80 ∷ 0x12 ∷ 0 ∷ 0 ∷ 0 ∷ 1 ∷ refined)) ≡ Ok dot
unfolding region text_header_at region_info_at text_fields_at text_flags_at text_decoded text_result region_from text_region after_instances with_instance symbol_placed instance_symbol next_cursor strip_start strip_delta least coded_start integer_by integer value_of_bits next read read_more ranges are_next next_range signed_number value_of id byte_at byte_in byte_in_if_empty shift_left renormd initial_registers likely_next unlikely_next choice decision rows qe_row drawn_pixel table pixel_at refined_symbol refinement_deltas refined_outline refined_by decoded_region first_pixels at_next after_pixel with_next after_ltp so_far refined_context refinement_pixels_at
refined_symbol_by_coder = refl
