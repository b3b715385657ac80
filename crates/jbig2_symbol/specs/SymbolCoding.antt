-- The two ways in which symbol dictionaries are coded (T.88, 6.5; SDHUFF): by the arithmetic coder with its integer
-- procedures, and by prefix codes. Each has a first state, from the header and the contexts, and its readings.
use Rattle.std.specs.Prelude.{ℕ, ◌-◌, if◌then◌else◌, List, length, sum, Result, Ok}
use Rattle.jbig2_base.specs.Bits.{Place, start_of}
use Rattle.jbig2_base.specs.Grid.{Grid}
use Rattle.jbig2_base.specs.declared.error.DecodeError.{DecodeError}
use Rattle.jbig2_base.specs.Results.{◌>>=◌}
use Rattle.jbig2_coder.specs.declared.integer_procedures.IntegerProcedure.TheVariants.{Iadh, Iadw, Iaex}
use Rattle.jbig2_text.specs.TextCoding.{CodedState, coded_start}
use Rattle.jbig2_symbol.specs.HeightClasses.{drawn_class, empty_class, widths_from}
use Rattle.jbig2_symbol.specs.SymbolBitmaps.{coded_aggregate, coded_symbol, collective_bitmap, prefixed_aggregate}
use Rattle.jbig2_symbol.specs.SymbolBitmaps.{state_bits, symbols_cut}
use Rattle.jbig2_symbol.specs.SymbolReading.{BitmapContexts, ClassReadings, SymbolInput, SymbolReadings, SymbolState}
use Rattle.jbig2_symbol.specs.SymbolReading.{start_contexts, by_procedure, by_table}

-- by the arithmetic coder, at the start of the bytes
abbrev pub coder_start : SymbolInput → BitmapContexts → SymbolState CodedState
coder_start d contexts = record {
  coding = coded_start d.header.bytes (state_bits d.header (length d.symbols));
  contexts = start_contexts d.header contexts;
}

-- a symbol's bitmap: refined or aggregated from the symbols so far (SDREFAGG), or else coded by itself
unfoldable pub coded_bitmap : SymbolInput → List Grid → ℕ → ℕ → SymbolState CodedState
    → Result (Grid × SymbolState CodedState) DecodeError
coded_bitmap d new width height s =
    if d.header.flags.use_refagg then coded_aggregate d new width height s else coded_symbol d.header width height s

abbrev pub symbols_by_coder : SymbolReadings (SymbolState CodedState)
symbols_by_coder = record { width_difference = λ d. by_procedure Iadw; symbol_bitmap = coded_bitmap }

abbrev pub classes_by_coder : ClassReadings (SymbolState CodedState)  -- symbols are always decoded one by one
classes_by_coder = record {
  height_difference = λ d. by_procedure Iadh;
  class_of_height = drawn_class symbols_by_coder;
  export_run = λ d. by_procedure Iaex;
}

-- by prefix codes, at the start of the bytes
abbrev pub prefix_codes_start : SymbolInput → BitmapContexts → SymbolState Place
prefix_codes_start d contexts = record { coding = start_of d.header.bytes; contexts = start_contexts d.header contexts }

-- a symbol that is decoded by itself is refined or aggregated from the symbols so far
abbrev pub symbols_by_prefix_codes : SymbolReadings (SymbolState Place)
symbols_by_prefix_codes = record {
  width_difference = λ d. by_table d.tables.widths;
  symbol_bitmap = prefixed_aggregate;
}

-- the symbols of a class, cut out of its collective bitmap, whose width is the sum of theirs (6.5.5, step 4 d)
unfoldable pub collective_class : SymbolInput → ℕ → ℕ → List Grid → SymbolState Place
    → Result (List Grid × SymbolState Place) DecodeError
collective_class d height empty new s = do
  (widths, after_widths) ← widths_from symbols_by_prefix_codes d (d.header.num_new_symbols - length new) 0 0 s
  few ← empty_class (length widths) empty
  (collective, after) ← collective_bitmap d (sum widths) height after_widths
  symbols ← symbols_cut collective height 0 widths
  Ok (symbols, after)

-- symbols are decoded one by one where they are refined or aggregated (SDREFAGG), and else cut
abbrev pub classes_by_prefix_codes : ClassReadings (SymbolState Place)
classes_by_prefix_codes = record {
  height_difference = λ d. by_table d.tables.heights;
  class_of_height =
      λ d height empty new s. if d.header.flags.use_refagg then drawn_class symbols_by_prefix_codes d height empty new s
      else collective_class d height empty new s;
  export_run = λ d. by_table d.tables.runs;
}
