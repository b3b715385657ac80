-- Worked rows of symbol dictionaries and text regions on a page, computed from the definitions alone.
use Rattle.std.proofs.Common.{◌≡◌, ℕ, Bool, true, false, List, [], ◌∷◌, ◌++◌, replicate, Result, Ok, Err, refl}
use Rattle.jbig2_base.specs.Results.{◌>>=◌}
use Rattle.jbig2_base.specs.Bits.{bits_left, bits_on, bit}
use Rattle.jbig2_base.specs.Combination.{drawn_pixel}
use Rattle.jbig2_base.specs.Grid.{table, pixel_at}
use Rattle.jbig2_framing.specs.CutOff.{first_refused}
use Rattle.jbig2_framing.specs.PageInfo.{information_at}
use Rattle.jbig2_framing.specs.Segment.{type_of, count_at, referred_at, header_at, segment_at}
use Rattle.jbig2_framing.specs.Sequential.{segments_in}
use Rattle.jbig2_base.specs.declared.error.DecodeError.{DecodeError}
use Rattle.jbig2_base.specs.declared.error.DecodeError.TheVariants.{Huffman, Parse, Segment}
use Rattle.jbig2_base.specs.declared.error.HuffmanError.TheVariants.{InvalidSelection}
use Rattle.jbig2_base.specs.declared.error.ParseError.TheVariants.{UnexpectedEof}
use Rattle.jbig2_base.specs.declared.error.SegmentError.TheVariants.{InvalidReference}
use Rattle.jbig2_base.specs.Search.{least}
use Rattle.jbig2_coder.specs.PrefixCode.{prefix_code, is_crowded, weight, shorter, read_code, decoded_value}
use Rattle.jbig2_coder.specs.Tables.{lines_a, lines_b, lines_d, lines_f, lines_h, lines_k}
use Rattle.jbig2_region.specs.RegionInfo.{region_info_at}
use Rattle.jbig2_symbol.specs.Symbols.{ended_runs, exported_from, next_run, runs_from, exports, symbols_decoded}
use Rattle.jbig2_symbol.specs.SymbolBitmaps.{raw_rows, collective_bitmap, symbols_cut, symbol_cut}
use Rattle.jbig2_text.specs.SymbolCodes.{runcodes_at, symbol_lengths_at, short_lengths, runs_at, symbol_codes_from}
use Rattle.jbig2_symbol.specs.SymbolHeader.{symbol_flags_of, symbol_header_at}
use Rattle.jbig2_symbol.specs.SymbolReading.{table_for, symbol_tables, first_contexts}
use Rattle.jbig2_symbol.specs.HeightClasses.{next_width, widths_from, height_class, classes_from}
use Rattle.jbig2_symbol.specs.SymbolCoding.{collective_class}
use Rattle.jbig2_text.specs.Text.{strip_delta, strip_start, next_cursor, instance_symbol, symbol_placed, with_instance, after_instances, text_region}
use Rattle.jbig2_text.specs.WholeInstances.{first_cursor, whole_by, whole_from, whole_instances}
use Rattle.jbig2_text.specs.TextHeader.{text_fields_at, text_flags_at, text_header_at}
use Rattle.jbig2_text.specs.TextRegion.{region_from, text_tables, text_result, text_decoded}
use Rattle.jbig2_framing.specs.Reading.{reading_of}
use Rattle.jbig2_framing.specs.declared.reading.Reading.TheVariants.{Salvage}
use Rattle.jbig2_page.specs.Calls.{Call, Pixel, Line, singles, whole_calls, row_of_grid, calls_of}
use Rattle.jbig2_page.specs.Names.{symbol_dictionary_at, with_symbols, no_names}
use Rattle.jbig2_page.specs.Page.{beginning_of, page_from, grid_of_page, immediate}
use Rattle.jbig2_page.specs.Regions.{text_at}
use Rattle.jbig2_page.proofs.WorkedRows.{calls_at, page, one, eight, white}
use Rattle.jbig2_page.specs.Globals.{globals_at}

-- a dictionary of one symbol, 1 by 1: its segment's first bytes, the flags, and the symbol's row
abbrev dictionary : ℕ → ℕ → List ℕ
dictionary flags row = 0 ∷ 0 ∷ 0 ∷ 1 ∷ 0 ∷ 0 ∷ 1 ∷ 0 ∷ 0 ∷ 0 ∷ 15 ∷ 0 ∷ flags ∷ 0 ∷ 0 ∷ 0 ∷ 1 ∷ 0 ∷ 0 ∷ 0 ∷ 1 ∷ 0x5F ∷ 0x80 ∷ row ∷ 0 ∷ 0x40 ∷ []

-- a text region with number 2, of 8 by 1, that refers to segment 1, with this many instances
abbrev text : ℕ → List ℕ
text count = 0 ∷ 0 ∷ 0 ∷ 2 ∷ 6 ∷ 0x20 ∷ 1 ∷ 1 ∷ 0 ∷ 0 ∷ 0 ∷ 45 ∷ (eight ++ one ++ (replicate 9 0 ++ 0 ∷ 0x11 ∷ 0 ∷ 0 ∷ 0 ∷ 0 ∷ 0 ∷ count ∷ 1 ∷ (replicate 17 0 ++ 0 ∷ 4 ∷ [])))

-- the calls of an embedded page with these globals
unfoldable calls_with : Bool → List ℕ → List ℕ → Result (List Call) DecodeError
calls_with strict shared bytes = globals_at (reading_of strict) shared >>= λ globals. page_from (reading_of strict) globals.names bytes >>= λ p. grid_of_page p >>= λ g. Ok (calls_of g)

abbrev dot : List Call
dot = Pixel true ∷ (singles (replicate 7 false) ++ Line ∷ [])

row_11 : calls_at true (page 0 eight one 0 ++ dictionary 1 0x80 ++ text 1) ≡ Ok dot
unfolding calls_at page_from segments_in segment_at header_at referred_at count_at type_of beginning_of information_at grid_of_page table pixel_at calls_of row_of_grid whole_calls with_symbols symbol_dictionary_at symbol_header_at symbol_flags_of symbols_decoded first_contexts symbol_tables table_for classes_from height_class collective_class widths_from next_width collective_bitmap raw_rows bit symbols_cut symbol_cut exports runs_from next_run exported_from ended_runs lines_a lines_b lines_d immediate text_at text_header_at region_info_at text_fields_at text_flags_at symbol_codes_from runcodes_at symbol_lengths_at short_lengths runs_at text_decoded text_result region_from text_tables text_region after_instances with_instance symbol_placed instance_symbol next_cursor strip_start strip_delta lines_f lines_h lines_k drawn_pixel prefix_code is_crowded weight shorter read_code least decoded_value bits_left bits_on first_refused
row_11 = refl

row_12-strict : calls_at true (page 0 eight one 0 ++ dictionary 1 0x80 ++ text 2) ≡ Err (Parse UnexpectedEof)
unfolding calls_at page_from segments_in segment_at header_at referred_at count_at type_of beginning_of information_at grid_of_page table pixel_at calls_of row_of_grid whole_calls with_symbols symbol_dictionary_at symbol_header_at symbol_flags_of symbols_decoded first_contexts symbol_tables table_for classes_from height_class collective_class widths_from next_width collective_bitmap raw_rows bit symbols_cut symbol_cut exports runs_from next_run exported_from ended_runs lines_a lines_b lines_d immediate text_at text_header_at region_info_at text_fields_at text_flags_at symbol_codes_from runcodes_at symbol_lengths_at short_lengths runs_at text_decoded text_result region_from text_tables text_region after_instances with_instance symbol_placed instance_symbol next_cursor strip_start strip_delta lines_f lines_h lines_k drawn_pixel prefix_code is_crowded weight shorter read_code least decoded_value bits_left bits_on first_refused
row_12-strict = refl

row_12-lenient : calls_at false (page 0 eight one 0 ++ dictionary 1 0x80 ++ text 2) ≡ Ok white
unfolding calls_at page_from segments_in segment_at header_at referred_at count_at type_of beginning_of information_at grid_of_page table pixel_at calls_of row_of_grid whole_calls with_symbols symbol_dictionary_at symbol_header_at symbol_flags_of symbols_decoded first_contexts symbol_tables table_for classes_from height_class collective_class widths_from next_width collective_bitmap raw_rows bit symbols_cut symbol_cut exports runs_from next_run exported_from ended_runs lines_a lines_b lines_d immediate text_at text_header_at region_info_at text_fields_at text_flags_at symbol_codes_from runcodes_at symbol_lengths_at short_lengths runs_at text_decoded text_result region_from text_tables text_region after_instances with_instance symbol_placed instance_symbol next_cursor strip_start strip_delta lines_f lines_h lines_k drawn_pixel prefix_code is_crowded weight shorter read_code least decoded_value bits_left bits_on first_refused
row_12-lenient = refl

-- the first of two dictionaries of one number
row_R13_3 : calls_at true (page 0 eight one 0 ++ dictionary 1 0x80 ++ dictionary 1 0 ++ text 1) ≡ Ok dot
unfolding calls_at page_from segments_in segment_at header_at referred_at count_at type_of beginning_of information_at grid_of_page table pixel_at calls_of row_of_grid whole_calls with_symbols symbol_dictionary_at symbol_header_at symbol_flags_of symbols_decoded first_contexts symbol_tables table_for classes_from height_class collective_class widths_from next_width collective_bitmap raw_rows bit symbols_cut symbol_cut exports runs_from next_run exported_from ended_runs lines_a lines_b lines_d immediate text_at text_header_at region_info_at text_fields_at text_flags_at symbol_codes_from runcodes_at symbol_lengths_at short_lengths runs_at text_decoded text_result region_from text_tables text_region after_instances with_instance symbol_placed instance_symbol next_cursor strip_start strip_delta lines_f lines_h lines_k drawn_pixel prefix_code is_crowded weight shorter read_code least decoded_value bits_left bits_on first_refused
row_R13_3 = refl

-- a dictionary's error is never passed over
row_R8_1-lenient : calls_at false (page 0 eight one 0 ++ dictionary 9 0x80) ≡ Err (Huffman InvalidSelection)
unfolding calls_at page_from segments_in segment_at header_at referred_at count_at type_of beginning_of information_at grid_of_page table pixel_at calls_of row_of_grid whole_calls with_symbols symbol_dictionary_at symbol_header_at symbol_flags_of symbols_decoded first_contexts symbol_tables table_for classes_from height_class collective_class widths_from next_width collective_bitmap raw_rows bit symbols_cut symbol_cut exports runs_from next_run exported_from ended_runs lines_a lines_b lines_d prefix_code is_crowded weight shorter read_code least decoded_value bits_left bits_on first_refused
row_R8_1-lenient = refl

-- a number that names nothing
unnamed-strict : calls_at true (page 0 eight one 0 ++ text 1) ≡ Err (Segment InvalidReference)
unfolding calls_at page_from segments_in segment_at header_at referred_at count_at type_of beginning_of information_at grid_of_page table pixel_at calls_of row_of_grid whole_calls immediate text_at text_header_at region_info_at text_fields_at text_flags_at symbol_codes_from runcodes_at symbol_lengths_at short_lengths runs_at text_decoded text_result region_from text_tables text_region after_instances with_instance symbol_placed instance_symbol next_cursor strip_start strip_delta lines_f lines_h lines_k drawn_pixel prefix_code is_crowded weight shorter read_code least decoded_value bits_left bits_on first_refused
unnamed-strict = refl

row_R9_2 : calls_with true (dictionary 1 0x80) (page 0 eight one 0 ++ text 1) ≡ Ok dot
unfolding calls_with globals_at page_from segments_in segment_at header_at referred_at count_at type_of beginning_of information_at grid_of_page table pixel_at calls_of row_of_grid whole_calls with_symbols symbol_dictionary_at symbol_header_at symbol_flags_of symbols_decoded first_contexts symbol_tables table_for classes_from height_class collective_class widths_from next_width collective_bitmap raw_rows bit symbols_cut symbol_cut exports runs_from next_run exported_from ended_runs lines_a lines_b lines_d immediate text_at text_header_at region_info_at text_fields_at text_flags_at symbol_codes_from runcodes_at symbol_lengths_at short_lengths runs_at text_decoded text_result region_from text_tables text_region after_instances with_instance symbol_placed instance_symbol next_cursor strip_start strip_delta lines_f lines_h lines_k drawn_pixel prefix_code is_crowded weight shorter read_code least decoded_value bits_left bits_on first_refused
row_R9_2 = refl

row_R9_2-own : calls_with true (dictionary 1 0) (page 0 eight one 0 ++ dictionary 1 0x80 ++ text 1) ≡ Ok dot
unfolding calls_with globals_at page_from segments_in segment_at header_at referred_at count_at type_of beginning_of information_at grid_of_page table pixel_at calls_of row_of_grid whole_calls with_symbols symbol_dictionary_at symbol_header_at symbol_flags_of symbols_decoded first_contexts symbol_tables table_for classes_from height_class collective_class widths_from next_width collective_bitmap raw_rows bit symbols_cut symbol_cut exports runs_from next_run exported_from ended_runs lines_a lines_b lines_d immediate text_at text_header_at region_info_at text_fields_at text_flags_at symbol_codes_from runcodes_at symbol_lengths_at short_lengths runs_at text_decoded text_result region_from text_tables text_region after_instances with_instance symbol_placed instance_symbol next_cursor strip_start strip_delta lines_f lines_h lines_k drawn_pixel prefix_code is_crowded weight shorter read_code least decoded_value bits_left bits_on first_refused
row_R9_2-own = refl

-- ---- salvage: of a region that lacks a byte the first of two instances is whole
unfoldable calls_salvaged : List ℕ → Result (List Call) DecodeError
calls_salvaged bytes = page_from Salvage no_names bytes >>= λ page. grid_of_page page >>= λ g. Ok (calls_of g)

row_R17_1-text : calls_salvaged (page 0 eight one 0 ++ dictionary 1 0x80 ++ (0 ∷ 0 ∷ 0 ∷ 2 ∷ 6 ∷ 0x20 ∷ 1 ∷ 1 ∷ 0 ∷ 0 ∷ 0 ∷ 46 ∷ (eight ++ one ++ (replicate 9 0 ++ 0 ∷ 0x11 ∷ 0 ∷ 0 ∷ 0 ∷ 0 ∷ 0 ∷ 2 ∷ 1 ∷ (replicate 17 0 ++ 0 ∷ 4 ∷ []))))) ≡ Ok dot
unfolding calls_salvaged page_from segments_in segment_at header_at referred_at count_at type_of beginning_of information_at grid_of_page table pixel_at calls_of row_of_grid whole_calls with_symbols symbol_dictionary_at symbol_header_at symbol_flags_of symbols_decoded first_contexts symbol_tables table_for classes_from height_class collective_class widths_from next_width collective_bitmap raw_rows bit symbols_cut symbol_cut exports runs_from next_run exported_from ended_runs lines_a lines_b lines_d immediate text_at text_header_at region_info_at text_fields_at text_flags_at symbol_codes_from runcodes_at symbol_lengths_at short_lengths runs_at text_decoded text_result region_from text_tables text_region after_instances with_instance symbol_placed instance_symbol next_cursor strip_start strip_delta lines_f lines_h lines_k drawn_pixel prefix_code is_crowded weight shorter read_code least decoded_value bits_left bits_on first_refused whole_instances whole_by whole_from first_cursor
row_R17_1-text = refl
