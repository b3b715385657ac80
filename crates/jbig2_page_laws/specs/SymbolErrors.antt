-- Which rule the coded data of a symbol dictionary breaks where it is refused (T.88, 6.5; docs/FORMAT.md, 11): in its
-- height classes, one after the other, and in its exports. `k` counts what was read before the fault.
use Rattle.std.specs.Prelude.{◌⊎◌, ◌<◌, ℕ, List, [], ◌++◌, length, Option}
use Rattle.jbig2_base.specs.Grid.{Grid}
use Rattle.jbig2_base.specs.Causes.{After}
use Rattle.jbig2_base.specs.declared.error.DecodeError.{DecodeError}
use Rattle.jbig2_coder.specs.PrefixCode.{Member}
use Rattle.jbig2_symbol.specs.Causes.{BreaksContexts, BreaksTables}
use Rattle.jbig2_symbol.specs.ClassCauses.{BreaksExports, BreaksHeightClass, ClassCauses, Where, coded_class_causes}
use Rattle.jbig2_symbol.specs.ClassCauses.{prefixed_class_causes}
use Rattle.jbig2_symbol.specs.HeightClasses.{new_symbols}
use Rattle.jbig2_symbol.specs.SymbolBitmaps.{id_codes}
use Rattle.jbig2_symbol.specs.SymbolCoding.{classes_by_coder, classes_by_prefix_codes, coder_start, prefix_codes_start}
use Rattle.jbig2_symbol.specs.SymbolHeader.{SymbolHeader}
use Rattle.jbig2_symbol.specs.SymbolReading.{BitmapContexts, ClassReadings, SymbolInput, first_contexts, symbol_tables}
use Rattle.jbig2_second_forms.specs.SymbolClasses.{HeightClass, classes_after, empty_in, height_of_last, symbols_of}

module _ {S : Type 0} (c : ClassCauses S) (r : ClassReadings S) (d : SymbolInput) where
  abbrev pub BreaksClass : List HeightClass → S → DecodeError → Type 0  -- the class after these
  BreaksClass classes = BreaksHeightClass c r d (height_of_last 0 classes) (empty_in classes) (symbols_of classes)

  -- the class after k others, where symbols are still to come, or the exports after all classes
  abbrev pub BreaksSymbolData : S → DecodeError → Type 0
  BreaksSymbolData s e =
      ((k : ℕ) × After (classes_after r d k [] s) (λ (classes, after).
      (length (symbols_of classes) < d.header.num_new_symbols) × BreaksClass classes after e))
      ⊎ After (new_symbols r d s) (λ (new, after). BreaksExports c r d (d.symbols ++ new) after e)

abbrev pub BreaksSymbolsFrom : SymbolInput → BitmapContexts → DecodeError → Type 0
BreaksSymbolsFrom d contexts e =
    Where d.header.flags.use_huffman
    (BreaksSymbolData prefixed_class_causes classes_by_prefix_codes d (prefix_codes_start d contexts) e)
    (BreaksSymbolData coded_class_causes classes_by_coder d (coder_start d contexts) e)

-- A dictionary after its header: the contexts or the tables that it refers to, or its coded data. The codes of the ids
-- are always there.
abbrev pub BreaksSymbols : SymbolHeader → List Grid → List (List Member) → Option BitmapContexts → DecodeError → Type 0
BreaksSymbols h symbols customs kept e =
    BreaksContexts h.flags kept e
    ⊎ BreaksTables h.flags customs e
    ⊎ After (first_contexts h.flags kept) (λ contexts. After (symbol_tables h.flags customs) (λ tables.
    After (id_codes h (length symbols)) (λ ids.
    BreaksSymbolsFrom (record { header = h; symbols = symbols; tables = tables; ids = ids }) contexts e)))
