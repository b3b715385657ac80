-- A symbol dictionary by the arithmetic coder, computed from the definitions alone.
use Rattle.std.proofs.Common.{◌≡◌, ℕ, ◌+◌, Bool, true, false, List, [], ◌∷◌, ◌++◌, None, Result, Ok, refl}
use Rattle.jbig2_base.specs.Results.{◌>>=◌}
use Rattle.jbig2_base.specs.Search.{least}
use Rattle.jbig2_base.specs.Grid.{table, pixel_at}
use Rattle.jbig2_base.specs.declared.error.DecodeError.{DecodeError}
use Rattle.jbig2_coder.specs.Coder.{byte_at, byte_in, byte_in_if_empty, shift_left, renormd, initial_registers, likely_next, unlikely_next, choice, decision}
use Rattle.jbig2_coder.specs.Encoder.{initial_coding, eight_bits_out, seven_bits_out, byte_out, shift_once, renorme, narrowed_likely, narrowed_unlikely, narrowed_interval, encoding, set_bits, flush_coder, is_full, with_marker, with_context, encode_from, encoded_bytes}
use Rattle.jbig2_coder.specs.Integers.{integer, next, read, read_more, ranges, are_next, next_range, signed_number, value_of, integer_by}
use Rattle.jbig2_base.specs.Bits.{value_of_bits}
use Rattle.jbig2_coder.specs.PrefixCode.{is_crowded, weight}
use Rattle.jbig2_coder.specs.QeTable.{rows, qe_row}
use Rattle.jbig2_region.specs.Generic.{context_at}
use Rattle.jbig2_region.specs.Templates.{adaptive_pixel_at}
use Rattle.jbig2_region.specs.Raster.{so_far, with_next, after_pixel, after_ltp, at_next, first_pixels, decoded_region}
use Rattle.jbig2_symbol.specs.Symbols.{ended_runs, exported_from, next_run, runs_from, exports, Symbols, symbols_decoded}
use Rattle.jbig2_symbol.specs.SymbolBitmaps.{coded_symbol}
use Rattle.jbig2_symbol.specs.SymbolHeader.{symbol_flags_of, symbol_header_at}
use Rattle.jbig2_text.specs.TextCoding.{coded_start}
use Rattle.jbig2_symbol.specs.SymbolReading.{table_for, symbol_tables, first_contexts}
use Rattle.jbig2_symbol.specs.HeightClasses.{next_width, symbols_from, drawn_class, height_class, classes_from}
use Rattle.jbig2_symbol.specs.SymbolCoding.{coded_bitmap}

-- four decisions of an integer in its first four contexts, which for each integer begin elsewhere
abbrev four : ℕ → List (ℕ × Bool)
four from = (from + 1, false) ∷ (from + 2, false) ∷ (from + 4, false) ∷ []

abbrev zero_of : ℕ → List (ℕ × Bool)
zero_of from = four from ++ (from + 8, false) ∷ []

abbrev one_of : ℕ → List (ℕ × Bool)
one_of from = four from ++ (from + 8, true) ∷ []

abbrev out_of_band_of : ℕ → List (ℕ × Bool)
out_of_band_of from = (from + 1, true) ∷ (from + 3, false) ∷ (from + 6, false) ∷ (from + 12, false) ∷ []

abbrev decisions : List (ℕ × Bool)
decisions = one_of 1024 ++ one_of 1536 ++ (0, true) ∷ (out_of_band_of 1536 ++ zero_of 2048 ++ one_of 2048)

abbrev coded : List ℕ
coded = 147 ∷ 252 ∷ 127 ∷ 255 ∷ 172 ∷ []

row_R8_6-bytes : encoded_bytes decisions ≡ coded
unfolding initial_coding eight_bits_out seven_bits_out byte_out set_bits flush_coder is_full with_marker encode_from encoded_bytes rows qe_row likely_next unlikely_next shift_once renorme narrowed_likely narrowed_unlikely narrowed_interval encoding with_context
row_R8_6-bytes = refl

dictionary : List ℕ → Result Symbols DecodeError
dictionary bytes = symbol_header_at true bytes >>= λ h. symbols_decoded h.0 [] [] None

row_R8_6 : dictionary (8 ∷ 0 ∷ 2 ∷ 0xFF ∷ 0 ∷ 0 ∷ 0 ∷ 1 ∷ 0 ∷ 0 ∷ 0 ∷ 1 ∷ coded) ≡ Ok (record { exported = record { width = 1; height = 1; pixels = true ∷ [] } ∷ []; kept = None })
unfolding dictionary symbol_header_at symbol_flags_of adaptive_pixel_at symbols_decoded first_contexts symbol_tables least is_crowded weight coded_start integer_by table_for classes_from height_class drawn_class symbols_from coded_bitmap next_width coded_symbol exports runs_from next_run exported_from ended_runs integer value_of_bits next read read_more ranges are_next next_range signed_number value_of byte_at byte_in byte_in_if_empty shift_left renormd initial_registers likely_next unlikely_next choice decision rows qe_row context_at so_far with_next after_pixel after_ltp at_next first_pixels decoded_region table pixel_at
row_R8_6 = refl
