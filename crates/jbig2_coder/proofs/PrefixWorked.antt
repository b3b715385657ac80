-- Readings that the definitions compute.
use Rattle.std.specs.Prelude.{◌≡◌, [], ◌∷◌, Some, Ok, Err, pos, negsuc, refl, replicate}
use Rattle.jbig2_base.specs.declared.error.DecodeError.TheVariants.{Huffman, Parse}
use Rattle.jbig2_base.specs.declared.error.ParseError.TheVariants.{UnexpectedEof}
use Rattle.jbig2_base.specs.declared.error.HuffmanError.TheVariants.{InvalidCode}
use Rattle.jbig2_base.specs.Bits.{start_of, bits_left, bits_on}
use Rattle.jbig2_coder.specs.CustomTable.{custom_table, custom_lines, range_lines}
use Rattle.jbig2_base.specs.Search.{least}
use Rattle.jbig2_coder.specs.PrefixCode.{prefix_code, table_of, is_crowded, weight, shorter, decoded_value, read_code}
use Rattle.jbig2_coder.specs.inner.CodeReadings.{unknown_code, cut_off_code}
use Rattle.jbig2_coder.specs.Tables.{lines_a, line, lower, upper}

-- row 15
five : decoded_value (prefix_code lines_a) (0 ∷ 0 ∷ 1 ∷ 0 ∷ 1 ∷ []) ≡ record { result = Ok (Some (pos 5)); taken = 5 }
unfolding decoded_value read_code least prefix_code shorter lines_a
five = refl

nineteen : decoded_value (prefix_code lines_a) (1 ∷ 0 ∷ 0 ∷ 0 ∷ 0 ∷ 0 ∷ 0 ∷ 0 ∷ 1 ∷ 1 ∷ []) ≡ record { result = Ok (Some (pos 19)); taken = 10 }
unfolding decoded_value read_code least prefix_code shorter lines_a
nineteen = refl

-- row R5.1
three_of_one_bit : table_of (line 1 0 (pos 0) ∷ line 1 0 (pos 1) ∷ line 1 0 (pos 2) ∷ []) ≡ Err (Huffman InvalidCode)
unfolding is_crowded weight
three_of_one_bit = refl

second_of_one_bit : decoded_value (prefix_code (line 1 0 (pos 0) ∷ line 1 0 (pos 1) ∷ [])) (1 ∷ []) ≡ record { result = Ok (Some (pos 1)); taken = 1 }
unfolding decoded_value read_code least prefix_code shorter
second_of_one_bit = refl

no_lines : decoded_value (prefix_code []) (1 ∷ []) ≡ unknown_code 1
unfolding decoded_value read_code least prefix_code shorter
no_lines = refl

no_bits : decoded_value (prefix_code []) [] ≡ cut_off_code 1
unfolding decoded_value read_code least prefix_code shorter
no_bits = refl

-- row R5.2
lower_down : decoded_value (prefix_code (lower 1 (negsuc 0) ∷ upper 1 (pos 0) ∷ [])) (0 ∷ replicate 32 0) ≡ record { result = Ok (Some (negsuc 0)); taken = 33 }
unfolding decoded_value read_code least prefix_code shorter
lower_down = refl

upper_past : decoded_value (prefix_code (lower 1 (negsuc 0) ∷ upper 1 (pos 0) ∷ [])) (1 ∷ 1 ∷ replicate 31 0) ≡ unknown_code 33
unfolding decoded_value read_code least prefix_code shorter
upper_past = refl

-- row R5.2
custom_of_zeros : custom_table (start_of (0 ∷ 0 ∷ 0 ∷ 0 ∷ 0 ∷ 0 ∷ 0 ∷ 0 ∷ 0 ∷ 192 ∷ [])) ≡ Ok (prefix_code (lower 1 (negsuc 0) ∷ upper 1 (pos 0) ∷ []), record { bytes = 192 ∷ []; bit = 2 })
unfolding custom_table custom_lines range_lines bits_left bits_on is_crowded weight prefix_code shorter
custom_of_zeros = refl

-- row R5.3
range_of_32 : custom_table (start_of (112 ∷ 0 ∷ 0 ∷ 0 ∷ 0 ∷ 0 ∷ 0 ∷ 0 ∷ 1 ∷ 16 ∷ 0 ∷ [])) ≡ Err (Huffman InvalidCode, record { bytes = 0 ∷ []; bit = 1 })
unfolding custom_table custom_lines range_lines bits_left bits_on is_crowded weight prefix_code shorter
range_of_32 = refl

range_of_31 : custom_table (start_of (112 ∷ 0 ∷ 0 ∷ 0 ∷ 0 ∷ 0 ∷ 0 ∷ 0 ∷ 1 ∷ 15 ∷ 128 ∷ [])) ≡ Err (Huffman InvalidCode, record { bytes = 128 ∷ []; bit = 1 })
unfolding custom_table custom_lines range_lines bits_left bits_on is_crowded weight prefix_code shorter
range_of_31 = refl

range_of_30 : custom_lines (start_of (112 ∷ 0 ∷ 0 ∷ 0 ∷ 0 ∷ 0 ∷ 0 ∷ 0 ∷ 1 ∷ 143 ∷ 32 ∷ [])) ≡ Ok (line 1 30 (pos 0) ∷ lower 0 (negsuc 0) ∷ upper 1 (pos 1) ∷ [], record { bytes = 32 ∷ []; bit = 3 })
unfolding custom_lines range_lines bits_left bits_on
range_of_30 = refl

header_cut_off : custom_table (start_of (112 ∷ 0 ∷ [])) ≡ Err (Parse UnexpectedEof, start_of [])
unfolding custom_table custom_lines range_lines bits_left bits_on
header_cut_off = refl
