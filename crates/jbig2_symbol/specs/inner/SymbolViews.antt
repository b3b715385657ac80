-- A dictionary's input, and the state of reading it, as the definitions see them (our own rule).
use Rattle.std.specs.Borrow.{Bor}
use Rattle.std.specs.Prelude.{◌+◌, ◌++◌, List, map, Option, option_map}
use Rattle.jbig2_base.specs.Bits.{Place}
use Rattle.jbig2_base.specs.Grid.{Grid}
use Rattle.jbig2_text.specs.TextCoding.{CodedState}
use Rattle.jbig2_symbol.specs.SymbolReading.{BitmapContexts, SymbolInput, SymbolState, SymbolTables}
use Rattle.jbig2_symbol.specs.Symbols.{Symbols}
use Rattle.jbig2_symbol.specs.inner.HeaderViews.{contexts_view, header_view}
use Rattle.jbig2_symbol.specs.declared.coded.CodedSymbols.{CodedSymbols}
use Rattle.jbig2_symbol.specs.declared.dictionary.RetainedContexts.{RetainedContexts}
use Rattle.jbig2_symbol.specs.declared.dictionary.SymbolDictionary.{SymbolDictionary}
use Rattle.jbig2_symbol.specs.declared.input.SymbolInput.{SymbolInput as Input}
use Rattle.jbig2_symbol.specs.declared.tables.SymbolTables.{SymbolTables as Tables}
use Rattle.jbig2_symbol.specs.declared.prefixed.PrefixedSymbols.{PrefixedSymbols}
use Rattle.jbig2_text.specs.inner.TextViews as texts

abbrev pub tables_view : {A : Type 0} → Tables A → SymbolTables
tables_view t = record {
  heights = t.heights.now;
  widths = t.widths.now;
  sizes = t.sizes.now;
  counts = t.counts.now;
  runs = t.runs.now;
}

abbrev pub input_view : {A : Type 0} → Input A → SymbolInput
input_view d = record {
  header = header_view d.header.now;
  symbols = map (λ b. b.now) d.symbols.now;
  tables = tables_view d.tables.now;
  ids = d.ids.now;
}

-- a reading's state: that of the arithmetic coder, and that of prefix codes
abbrev pub coded_view : {A : Type 0} → CodedSymbols A → SymbolState CodedState
coded_view r = record { coding = texts.coded_view r.coded; contexts = r.contexts }

abbrev pub prefixed_view : {A : Type 0} → PrefixedSymbols A → SymbolState Place
prefixed_view r = record { coding = r.reader; contexts = r.contexts }

-- the symbols that are referred to, and then the new ones
abbrev pub all_symbols : List (Bor Grid) → List Grid → List Grid
all_symbols symbols new = map (λ b. b.now) symbols ++ new

-- the contexts that another dictionary kept, if it kept any
abbrev pub kept_view : {A : Type 0} → Option (Bor (RetainedContexts A)) → Option BitmapContexts
kept_view kept = option_map (λ contexts. contexts_view contexts.now) kept

-- what a dictionary exports and keeps
abbrev pub dictionary_view : {A : Type 0} → SymbolDictionary A → Symbols
dictionary_view d = record {
  exported = d.exported_symbols.items;
  kept = option_map (λ contexts. contexts_view contexts) d.retained_contexts;
}
