-- The height classes of a small dictionary, computed from the definitions alone.
use Rattle.std.proofs.Common.{◌≡◌, ℕ, true, List, [], ◌∷◌, None, Result, Ok, refl}
use Rattle.jbig2_base.specs.Results.{◌>>=◌}
use Rattle.jbig2_base.specs.Grid.{Grid, table, pixel_at}
use Rattle.jbig2_base.specs.declared.error.DecodeError.{DecodeError}
use Rattle.jbig2_symbol.specs.SymbolHeader.{symbol_header_at, symbol_flags_of}
use Rattle.jbig2_symbol.specs.SymbolReading.{first_contexts, symbol_tables, table_for, SymbolInput}
use Rattle.jbig2_coder.specs.PrefixCode.{is_crowded, weight, decoded_value, read_code, prefix_code, shorter}
use Rattle.jbig2_symbol.specs.SymbolCoding.{collective_class, classes_by_prefix_codes, prefix_codes_start}
use Rattle.jbig2_symbol.specs.HeightClasses.{widths_from, next_width}
use Rattle.jbig2_symbol.specs.SymbolBitmaps.{collective_bitmap, raw_rows, symbols_cut, symbol_cut}
use Rattle.jbig2_base.specs.Bits.{bit, bits_left, bits_on}
use Rattle.jbig2_base.specs.Search.{least}
use Rattle.jbig2_coder.specs.Tables.{lines_a, lines_b, lines_d}
use Rattle.jbig2_second_forms.specs.SymbolClasses.{HeightClass, all_classes, class_after, classes_after}

-- the classes in a segment's data, by prefix codes
classes : List ℕ → Result (List HeightClass) DecodeError
classes bytes =
    symbol_header_at true bytes >>= λ h. first_contexts h.0.flags None >>= λ contexts. symbol_tables h.0.flags [] >>= λ tables.
    let d : SymbolInput = record { header = h.0; symbols = []; tables = tables; ids = [] } in
    all_classes classes_by_prefix_codes d (prefix_codes_start d contexts) >>= λ x. Ok x.0

abbrev dot : Grid
dot = record { width = 1; height = 1; pixels = true ∷ [] }

-- one symbol of 1 by 1, in a class of its own
one_class : classes (0 ∷ 1 ∷ 0 ∷ 0 ∷ 0 ∷ 1 ∷ 0 ∷ 0 ∷ 0 ∷ 1 ∷ 0x5F ∷ 0x80 ∷ 0x80 ∷ 0 ∷ 0x40 ∷ []) ≡ Ok (record { height = 1; symbols = dot ∷ [] } ∷ [])
unfolding classes class_after classes_after symbol_header_at symbol_flags_of first_contexts symbol_tables is_crowded weight table_for collective_class widths_from next_width collective_bitmap raw_rows bit symbols_cut symbol_cut decoded_value read_code least prefix_code shorter lines_a lines_b lines_d bits_left bits_on table pixel_at
one_class = refl
