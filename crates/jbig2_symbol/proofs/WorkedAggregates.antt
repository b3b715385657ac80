-- Symbols that are refined from another one or put together from several, computed from the definitions alone.
use Rattle.std.proofs.Common.{◌≡◌, ℕ, true, false, List, [], ◌∷◌, None, Result, Ok, Err, refl}
use Rattle.jbig2_base.specs.Results.{◌>>=◌}
use Rattle.jbig2_base.specs.Bits.{bits_left, bits_on}
use Rattle.jbig2_base.specs.Combination.{drawn_pixel}
use Rattle.jbig2_base.specs.Grid.{Grid, table, pixel_at}
use Rattle.jbig2_base.specs.Search.{least}
use Rattle.jbig2_base.specs.declared.error.DecodeError.{DecodeError}
use Rattle.jbig2_base.specs.declared.error.DecodeError.TheVariants.{Symbol}
use Rattle.jbig2_base.specs.declared.error.SymbolError.TheVariants.{Invalid, OutOfRange}
use Rattle.jbig2_coder.specs.Coder.{byte_at, byte_in, byte_in_if_empty, shift_left, renormd, initial_registers, likely_next, unlikely_next, choice, decision}
use Rattle.jbig2_coder.specs.PrefixCode.{is_crowded, weight, prefix_code, shorter, decoded_value, read_code}
use Rattle.jbig2_coder.specs.QeTable.{rows, qe_row}
use Rattle.jbig2_coder.specs.Tables.{lines_a, lines_b, lines_d, lines_f, lines_h, lines_k, lines_o}
use Rattle.jbig2_region.specs.Raster.{so_far, with_next, after_pixel, after_ltp, at_next, first_pixels, decoded_region}
use Rattle.jbig2_region.specs.Refinement.{refined_context}
use Rattle.jbig2_region.specs.RefinementTemplates.{refinement_pixels_at}
use Rattle.jbig2_text.specs.Refining.{refined_by}
use Rattle.jbig2_text.specs.Text.{strip_delta, strip_start, next_cursor, instance_symbol, symbol_placed, with_instance, after_instances, text_region}
use Rattle.jbig2_symbol.specs.SymbolBitmaps.{instance_count, refined_alone, put_together, prefixed_aggregate}
use Rattle.jbig2_symbol.specs.Symbols.{ended_runs, exported_from, next_run, runs_from, exports, Symbols, symbols_decoded}
use Rattle.jbig2_symbol.specs.SymbolHeader.{symbol_flags_of, symbol_header_at}
use Rattle.jbig2_symbol.specs.SymbolReading.{table_for, symbol_tables, first_contexts}
use Rattle.jbig2_symbol.specs.HeightClasses.{next_width, symbols_from, drawn_class, height_class, classes_from}

-- a dictionary that refers to this symbol
dictionary : Grid → List ℕ → Result Symbols DecodeError
dictionary symbol bytes = symbol_header_at true bytes >>= λ h. symbols_decoded h.0 (symbol ∷ []) [] None

abbrev dot : Grid
dot = record { width = 1; height = 1; pixels = true ∷ [] }

abbrev white : Grid
white = record { width = 1; height = 1; pixels = false ∷ [] }

-- one new symbol, exported alone, by prefix codes and by refinement template 1
abbrev one_symbol : List ℕ → List ℕ
one_symbol coded = 0x10 ∷ 3 ∷ 0 ∷ 0 ∷ 0 ∷ 1 ∷ 0 ∷ 0 ∷ 0 ∷ 1 ∷ coded

-- a white symbol refined into a black one, with no bytes of its own
row_R8_2 : dictionary white (one_symbol (0x41 ∷ 0 ∷ 0xFC ∷ 0x21 ∷ [])) ≡ Ok (record { exported = dot ∷ []; kept = None })
unfolding dictionary symbol_header_at symbol_flags_of symbols_decoded first_contexts symbol_tables is_crowded weight table_for classes_from height_class drawn_class symbols_from next_width prefixed_aggregate instance_count refined_alone put_together exports runs_from next_run exported_from ended_runs decoded_value read_code least prefix_code shorter lines_a lines_b lines_d lines_o bits_left bits_on table pixel_at refined_by decoded_region first_pixels at_next after_pixel with_next after_ltp so_far refined_context byte_at byte_in byte_in_if_empty shift_left renormd initial_registers likely_next unlikely_next choice decision rows qe_row refinement_pixels_at
row_R8_2 = refl

-- an id that is not there yet
row_R8_2-missing : dictionary white (one_symbol (0x41 ∷ 0x80 ∷ 0xFC ∷ 0x21 ∷ [])) ≡ Err (Symbol OutOfRange)
unfolding dictionary symbol_header_at symbol_flags_of symbols_decoded first_contexts symbol_tables is_crowded weight table_for classes_from height_class drawn_class symbols_from next_width prefixed_aggregate instance_count refined_alone put_together exports runs_from next_run exported_from ended_runs decoded_value read_code least prefix_code shorter lines_a lines_b lines_d lines_o bits_left bits_on table pixel_at refinement_pixels_at
row_R8_2-missing = refl

-- no instance
row_R8_2-none : dictionary white (one_symbol (0x40 ∷ 0 ∷ 0xFC ∷ 0x21 ∷ [])) ≡ Err (Symbol Invalid)
unfolding dictionary symbol_header_at symbol_flags_of symbols_decoded first_contexts symbol_tables is_crowded weight table_for classes_from height_class drawn_class symbols_from next_width prefixed_aggregate instance_count put_together exports runs_from next_run exported_from ended_runs decoded_value read_code least prefix_code shorter lines_a lines_b lines_d bits_left bits_on table pixel_at refinement_pixels_at
row_R8_2-none = refl

-- a black symbol drawn twice at the same place, and the delta S after the second instance
two_instances : dictionary dot (one_symbol (0x42 ∷ 0 ∷ 0 ∷ 0x1F ∷ 0xC2 ∷ 0x10 ∷ [])) ≡ Ok (record { exported = dot ∷ []; kept = None })
unfolding dictionary symbol_header_at symbol_flags_of symbols_decoded first_contexts symbol_tables is_crowded weight table_for classes_from height_class drawn_class symbols_from next_width prefixed_aggregate instance_count refined_alone put_together text_region after_instances with_instance symbol_placed instance_symbol next_cursor strip_start strip_delta lines_f lines_h lines_k drawn_pixel exports runs_from next_run exported_from ended_runs decoded_value read_code least prefix_code shorter lines_a lines_b lines_d lines_o bits_left bits_on table pixel_at refinement_pixels_at
two_instances = refl
