-- A header of the code, and the contexts that a dictionary kept, as the definitions see them (our own rule).
use Rattle.std.specs.Prelude.{List, [], if◌then◌else◌}
use Rattle.jbig2_region.specs.inner.PixelArrays.{two_pixels, four_pixels}
use Rattle.jbig2_region.specs.declared.template.AdaptiveTemplatePixel.{AdaptiveTemplatePixel}
use Rattle.jbig2_symbol.specs.SymbolHeader.{SymbolHeader}
use Rattle.jbig2_symbol.specs.SymbolReading.{BitmapContexts}
use Rattle.jbig2_symbol.specs.declared.dictionary.RetainedContexts.{RetainedContexts}
use Rattle.jbig2_symbol.specs.declared.header.SymbolDictionaryFlags.{SymbolDictionaryFlags}
use Rattle.jbig2_symbol.specs.declared.header.SymbolDictionaryHeader.{SymbolDictionaryHeader}

-- as many pixels of the code's arrays as these flags say
abbrev pub code_pixels : SymbolDictionaryFlags → List AdaptiveTemplatePixel → List AdaptiveTemplatePixel
code_pixels flags a = if flags.use_huffman then [] else four_pixels flags.template a

abbrev pub refined_pixels : SymbolDictionaryFlags → List AdaptiveTemplatePixel → List AdaptiveTemplatePixel
refined_pixels flags a = if flags.use_refagg then two_pixels flags.refinement_template a else []

abbrev pub header_view : SymbolDictionaryHeader → SymbolHeader
header_view h = record {
  flags = h.flags;
  adaptive_template_pixels = code_pixels h.flags h.adaptive_template_pixels;
  refinement_at_pixels = refined_pixels h.flags h.refinement_at_pixels;
  num_exported_symbols = h.num_exported_symbols;
  num_new_symbols = h.num_new_symbols;
  bytes = h.bytes.now;
  strict = h.strict;
}

abbrev pub contexts_view : {A : Type 0} → RetainedContexts A → BitmapContexts
contexts_view c = record {
  template = c.template;
  refinement_template = c.refinement_template;
  generic = c.generic_region.items;
  refinement = c.refinement_region.items;
}
