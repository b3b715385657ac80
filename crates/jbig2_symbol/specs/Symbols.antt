-- Symbol dictionaries (T.88, 6.5), and the symbols that they export (6.5.10). `symbols_decoded` takes the header with
-- the coded bytes, the symbols and tables that the dictionary refers to, and the contexts that another one kept. It
-- gives the exported symbols and the contexts that the dictionary itself keeps.
use Rattle.std.specs.Prelude.{◌++◌, if◌then◌else◌, List, length, Option, Some, None, Result, Ok, ℕ, zero, suc, ◌+◌, ◌-◌}
use Rattle.std.specs.Prelude.{◌%◌, ◌==◌, nat_le, nat_lt, not, ◌&&◌, [], ◌∷◌}
use Rattle.jbig2_base.specs.Results.{◌>>=◌, refuse_if}
use Rattle.jbig2_base.specs.Grid.{Grid}
use Rattle.jbig2_base.specs.Bits.{bit_number}
use Rattle.jbig2_base.specs.declared.error.DecodeError.{DecodeError}
use Rattle.jbig2_base.specs.declared.error.DecodeError.TheVariants.{Huffman, Symbol}
use Rattle.jbig2_base.specs.declared.error.HuffmanError.TheVariants.{InvalidCode, UnexpectedOob}
use Rattle.jbig2_base.specs.declared.error.SymbolError.TheVariants.{Invalid, NoSymbols, OutOfRange}
use Rattle.jbig2_coder.specs.PrefixCode.{Member}
use Rattle.jbig2_symbol.specs.SymbolBitmaps.{id_codes}
use Rattle.jbig2_symbol.specs.HeightClasses.{max_empty, new_symbols}
use Rattle.jbig2_symbol.specs.SymbolCoding.{classes_by_coder, classes_by_prefix_codes, coder_start, prefix_codes_start}
use Rattle.jbig2_symbol.specs.SymbolHeader.{SymbolHeader}
use Rattle.jbig2_symbol.specs.SymbolReading.{BitmapContexts, ClassReadings, SymbolContexts, SymbolInput, SymbolState}
use Rattle.jbig2_symbol.specs.SymbolReading.{first_contexts, bitmap_contexts, symbol_tables, not_negative}
use Rattle.jbig2_coder.specs.Integers.{in_band}

-- ---- exports (6.5.10): runs of symbols in turn, left out and exported, over the symbols that the dictionary refers to
-- and then the new ones
-- how many runs end at symbol i or before it; the first run begins at symbol `from`
unfoldable pub ended_runs : ℕ → List ℕ → ℕ → ℕ
ended_runs from [] i = 0
ended_runs from (r ∷ runs) i = bit_number (nat_le (from + r) i) + ended_runs (from + r) runs i

-- The exported symbols of a list that is numbered from `from` on. Runs of symbols left out and exported take turns.
unfoldable pub exported_from : List ℕ → ℕ → List Grid → List Grid
exported_from runs from [] = []
exported_from runs from (g ∷ grids) =
    if ended_runs 0 runs from % 2 == 1 then g ∷ exported_from runs (from + 1) grids
    else exported_from runs (from + 1) grids

abbrev pub exported_grids : List ℕ → List Grid → List Grid
exported_grids runs grids = exported_from runs 0 grids

module _ {S : Type 0} (r : ClassReadings S) (d : SymbolInput) where
  -- A run, where `left` symbols are not covered yet and `empty` runs of length 0 came before. At most 2^20 runs may be
  -- empty (our own rule).
  unfoldable pub next_run : ℕ → ℕ → S → Result (ℕ × S) DecodeError
  next_run empty left s = do
    (value, after) ← r.export_run d s
    number ← in_band (Huffman UnexpectedOob) value
    run ← not_negative (Huffman InvalidCode) number
    few ← refuse_if (run == 0 && nat_le max_empty empty) (Symbol Invalid)
    within ← refuse_if (nat_lt left run) (Symbol OutOfRange)
    Ok (run, after)

  -- The runs, until all symbols are covered. Each covers a symbol or is one of the 2^20 that may be empty. So n runs
  -- are enough if n is at least `left` and the empty runs still to come.
  unfoldable pub runs_from : ℕ → ℕ → ℕ → S → Result (List ℕ × S) DecodeError
  runs_from zero empty left s = Ok ([], s)
  runs_from (suc n) empty left s =
      if left == 0 then Ok ([], s)
      else (next_run empty left s >>= λ (run, after_run).
      runs_from n (empty + bit_number (run == 0)) (left - run) after_run
      >>= λ (others, after). Ok (run ∷ others, after))

  abbrev pub export_runs : ℕ → S → Result (List ℕ × S) DecodeError
  export_runs count s = runs_from (count + max_empty) 0 count s

  -- The exported symbols among all of these. Their number must be the one in the header (our own rule).
  unfoldable pub exports : List Grid → S → Result (List Grid × S) DecodeError
  exports grids s = do
    (runs, after) ← export_runs (length grids) s
    right ← refuse_if (not (length (exported_grids runs grids) == d.header.num_exported_symbols)) (Symbol NoSymbols)
    Ok (exported_grids runs grids, after)

  abbrev pub symbols_exported : S → Result (List Grid × S) DecodeError
  symbols_exported s = new_symbols r d s >>= λ (new, after). exports (d.symbols ++ new) after

-- ---- the dictionary
pub record Symbols : Type 0 where  -- a dictionary: the symbols that it exports, and the contexts that it keeps
  pub exported : List Grid
  pub kept : Option BitmapContexts

-- the dictionary, with the contexts at its end, which it keeps if the header says so
abbrev pub dictionary_of : SymbolHeader → List Grid → SymbolContexts → Symbols
dictionary_of h grids contexts = record {
  exported = grids;
  kept = (if h.flags.bitmap_context_retained then Some (bitmap_contexts contexts) else None);
}

abbrev pub dictionary_by : {C : Type 0} → ClassReadings (SymbolState C) → SymbolInput → SymbolState C
    → Result Symbols DecodeError
dictionary_by r d s =
    symbols_exported r d s >>= λ (grids, after). Ok (dictionary_of d.header grids after.contexts)

-- by the coding that the header names (SDHUFF), beginning with these contexts
abbrev pub dictionary_from : SymbolInput → BitmapContexts → Result Symbols DecodeError
dictionary_from d contexts =
    if d.header.flags.use_huffman then dictionary_by classes_by_prefix_codes d (prefix_codes_start d contexts)
    else dictionary_by classes_by_coder d (coder_start d contexts)

-- the whole dictionary; `kept` are the contexts of the last dictionary that it refers to, if that kept any
unfoldable pub symbols_decoded : SymbolHeader → List Grid → List (List Member) → Option BitmapContexts
    → Result Symbols DecodeError
symbols_decoded h symbols referred kept = do
  contexts ← first_contexts h.flags kept
  tables ← symbol_tables h.flags referred
  ids ← id_codes h (length symbols)
  dictionary_from (record { header = h; symbols = symbols; tables = tables; ids = ids }) contexts
