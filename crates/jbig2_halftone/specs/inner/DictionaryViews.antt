-- A pattern dictionary of the code, as the definitions see it.
use Rattle.jbig2_halftone.specs.declared.pattern.dictionary.PatternDictionary.{PatternDictionary}
use Rattle.jbig2_halftone.specs.Patterns.{Patterns}

abbrev pub dictionary_view : {A : Type 0} → PatternDictionary A → Patterns
dictionary_view d = record { grids = d.patterns.items; width = d.pattern_width; height = d.pattern_height }
