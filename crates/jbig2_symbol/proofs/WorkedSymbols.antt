-- Symbol dictionaries of the worked rows, computed from the definitions alone.
use Rattle.std.proofs.Common.{◌≡◌, ℕ, true, false, List, [], ◌∷◌, None, Result, Ok, Err, refl}
use Rattle.jbig2_base.specs.Results.{◌>>=◌}
use Rattle.jbig2_base.specs.Bits.{bits_left, bits_on, bit}
use Rattle.jbig2_base.specs.Grid.{Grid, table, pixel_at}
use Rattle.jbig2_base.specs.declared.error.DecodeError.{DecodeError}
use Rattle.jbig2_base.specs.declared.error.DecodeError.TheVariants as errors
use Rattle.jbig2_base.specs.declared.error.HuffmanError.TheVariants.{InvalidSelection, MissingTables}
use Rattle.jbig2_base.specs.declared.error.OverflowError.TheVariants.{SymbolCount}
use Rattle.jbig2_base.specs.declared.error.SymbolError.TheVariants.{Invalid, NoSymbols}
use Rattle.jbig2_base.specs.Search.{least}
use Rattle.jbig2_coder.specs.PrefixCode.{is_crowded, weight, prefix_code, shorter, decoded_value, read_code}
use Rattle.jbig2_coder.specs.Tables.{lines_a, lines_b, lines_d}
use Rattle.jbig2_symbol.specs.Symbols.{ended_runs, exported_from, next_run, runs_from, exports, Symbols, symbols_decoded}
use Rattle.jbig2_symbol.specs.SymbolBitmaps.{raw_rows, collective_bitmap, symbols_cut, symbol_cut}
use Rattle.jbig2_symbol.specs.SymbolHeader.{symbol_flags_of, symbol_header_at}
use Rattle.jbig2_symbol.specs.SymbolReading.{table_for, symbol_tables, first_contexts}
use Rattle.jbig2_symbol.specs.HeightClasses.{next_width, widths_from, height_class, classes_from}
use Rattle.jbig2_symbol.specs.SymbolCoding.{collective_class}

-- a dictionary that refers to nothing
dictionary : List ℕ → Result Symbols DecodeError
dictionary bytes = symbol_header_at true bytes >>= λ h. symbols_decoded h.0 [] [] None

abbrev dot : Grid
dot = record { width = 1; height = 1; pixels = true ∷ [] }

abbrev white : Grid
white = record { width = 1; height = 1; pixels = false ∷ [] }

-- one symbol of 1 by 1, in a class of its own, with the pixel of the last byte but two
abbrev one_symbol : ℕ → List ℕ
one_symbol row = 0 ∷ 1 ∷ 0 ∷ 0 ∷ 0 ∷ 1 ∷ 0 ∷ 0 ∷ 0 ∷ 1 ∷ 0x5F ∷ 0x80 ∷ row ∷ 0 ∷ 0x40 ∷ []

row_S : dictionary (one_symbol 0x80) ≡ Ok (record { exported = dot ∷ []; kept = None })
unfolding dictionary symbol_header_at symbol_flags_of symbols_decoded first_contexts symbol_tables is_crowded weight table_for classes_from height_class collective_class widths_from next_width collective_bitmap raw_rows bit symbols_cut symbol_cut exports runs_from next_run exported_from ended_runs decoded_value read_code least prefix_code shorter lines_a lines_b lines_d bits_left bits_on table pixel_at
row_S = refl

row_R8_2-white : dictionary (one_symbol 0x00) ≡ Ok (record { exported = white ∷ []; kept = None })
unfolding dictionary symbol_header_at symbol_flags_of symbols_decoded first_contexts symbol_tables is_crowded weight table_for classes_from height_class collective_class widths_from next_width collective_bitmap raw_rows bit symbols_cut symbol_cut exports runs_from next_run exported_from ended_runs decoded_value read_code least prefix_code shorter lines_a lines_b lines_d bits_left bits_on table pixel_at
row_R8_2-white = refl

row_R8_1-contexts : dictionary (1 ∷ 1 ∷ 0 ∷ 0 ∷ 0 ∷ 1 ∷ 0 ∷ 0 ∷ 0 ∷ 1 ∷ 0x5F ∷ 0x80 ∷ 0x80 ∷ 0 ∷ 0x40 ∷ []) ≡ Err (errors.Symbol Invalid)
unfolding dictionary symbol_header_at symbol_flags_of symbols_decoded first_contexts
row_R8_1-contexts = refl

row_R8_1-selection : dictionary (0 ∷ 9 ∷ 0 ∷ 0 ∷ 0 ∷ 1 ∷ 0 ∷ 0 ∷ 0 ∷ 1 ∷ 0x5F ∷ 0x80 ∷ 0x80 ∷ 0 ∷ 0x40 ∷ []) ≡ Err (errors.Huffman InvalidSelection)
unfolding dictionary symbol_header_at symbol_flags_of
row_R8_1-selection = refl

row_R8_1-tables : dictionary (0 ∷ 0x0D ∷ 0 ∷ 0 ∷ 0 ∷ 1 ∷ 0 ∷ 0 ∷ 0 ∷ 1 ∷ 0x5F ∷ 0x80 ∷ 0x80 ∷ 0 ∷ 0x40 ∷ []) ≡ Err (errors.Huffman MissingTables)
unfolding dictionary symbol_header_at symbol_flags_of symbols_decoded first_contexts symbol_tables table_for
row_R8_1-tables = refl

row_R8_1-exported : dictionary (0 ∷ 1 ∷ 0 ∷ 0 ∷ 0 ∷ 2 ∷ 0 ∷ 0 ∷ 0 ∷ 1 ∷ 0x5F ∷ 0x80 ∷ 0x80 ∷ 0 ∷ 0x40 ∷ []) ≡ Err (errors.Symbol NoSymbols)
unfolding dictionary symbol_header_at symbol_flags_of symbols_decoded first_contexts symbol_tables is_crowded weight table_for classes_from height_class collective_class widths_from next_width collective_bitmap raw_rows bit symbols_cut symbol_cut exports runs_from next_run exported_from ended_runs decoded_value read_code least prefix_code shorter lines_a lines_b lines_d bits_left bits_on table pixel_at
row_R8_1-exported = refl

row_R8_1-new : dictionary (0 ∷ 1 ∷ 0 ∷ 0 ∷ 0 ∷ 1 ∷ 0 ∷ 0x10 ∷ 0 ∷ 1 ∷ 0x5F ∷ 0x80 ∷ 0x80 ∷ 0 ∷ 0x40 ∷ []) ≡ Err (errors.Overflow SymbolCount)
unfolding dictionary symbol_header_at symbol_flags_of
row_R8_1-new = refl
