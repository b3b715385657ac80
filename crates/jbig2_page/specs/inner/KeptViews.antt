-- What is kept under numbers, as the definitions see it: each value by the view of its own type.
use Rattle.std.specs.Prelude.{List, map, Option, Some, None}
use Rattle.std.specs.Borrow.{Bor}
use Rattle.jbig2_halftone.specs.Patterns.{Patterns}
use Rattle.jbig2_halftone.specs.inner.DictionaryViews.{dictionary_view}
use Rattle.jbig2_halftone.specs.declared.pattern.dictionary.PatternDictionary.{PatternDictionary}
use Rattle.jbig2_symbol.specs.Symbols.{Symbols}
use Rattle.jbig2_symbol.specs.declared.dictionary.SymbolDictionary.{SymbolDictionary}
use Rattle.jbig2_page.specs.declared.kept.Kept.{Kept}
use Rattle.jbig2_symbol.specs.inner.SymbolViews as symbol_views

abbrev pub kept_values : {X V : Type 0} → (X → V) → List (Kept X) → List (Kept V)
kept_values view kept = map (λ k. record { segment_number = k.segment_number; value = view k.value }) kept

-- the value that was looked for, if it was found
abbrev pub found_value : {X V : Type 0} → (X → V) → Option (Bor X) → Option V
found_value view None = None
found_value view (Some value) = Some (view value.now)

abbrev pub kept_symbols_view : {A : Type 0} → SymbolDictionary A → Symbols
kept_symbols_view d = symbol_views.dictionary_view d

abbrev pub patterns_view : {A : Type 0} → PatternDictionary A → Patterns
patterns_view d = dictionary_view d
