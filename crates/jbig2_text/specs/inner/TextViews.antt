-- Values of the code, as the definitions see them.
use Rattle.std.specs.Prelude.{List, [], ◌++◌, map, if◌then◌else◌, take, Option, Some, None}
use Rattle.std.specs.Borrow.{Bor}
use Rattle.jbig2_base.specs.Grid.{Grid}
use Rattle.jbig2_region.specs.inner.PixelArrays.{two_pixels}
use Rattle.jbig2_region.specs.declared.template.AdaptiveTemplatePixel.{AdaptiveTemplatePixel}
use Rattle.jbig2_text.specs.Text.{Instance, TextParams as Params}
use Rattle.jbig2_text.specs.TextCoding.{CodedState, PrefixedState, TextTables}
use Rattle.jbig2_text.specs.declared.coded.CodedReadings.{CodedReadings}
use Rattle.jbig2_text.specs.declared.header.TextFields.{TextFields}
use Rattle.jbig2_text.specs.declared.header.TextRegionCoding.{TextRegionCoding}
use Rattle.jbig2_text.specs.declared.header.TextRegionFlags.{TextRegionFlags}
use Rattle.jbig2_text.specs.declared.header.TextRegionHeader.{TextRegionHeader}
use Rattle.jbig2_text.specs.declared.placement.Instance.{Instance as PlacedSymbol}
use Rattle.jbig2_text.specs.declared.prefixed.PrefixedReadings.{PrefixedReadings}
use Rattle.jbig2_text.specs.declared.symbol_list.SymbolList.{SymbolList}
use Rattle.jbig2_text.specs.declared.symbols.InstanceSymbol.{InstanceSymbol}
use Rattle.jbig2_text.specs.declared.symbols.InstanceSymbol.TheVariants.{Shared, Refined}
use Rattle.jbig2_text.specs.declared.params.TextParams.{TextParams}
use Rattle.jbig2_text.specs.declared.tables.TextRegionHuffmanTables.{TextRegionHuffmanTables}
use Rattle.jbig2_text.specs.TextHeader.{NumberCoding, ArithmeticCoding, HuffmanCoding, TextHeader}
use Rattle.jbig2_text.specs.declared.header.TextRegionCoding.TheVariants as codings

-- as many of the code's two refinement pixels as the flags say
abbrev pub text_pixels : TextRegionFlags → List AdaptiveTemplatePixel → List AdaptiveTemplatePixel
text_pixels flags a = if flags.use_refinement then two_pixels flags.refinement_template a else []

-- the fields, with as many refinement pixels as the flags say
abbrev pub fields_view : TextFields → TextFields
fields_view f = record f { refinement_at_pixels = text_pixels f.flags f.refinement_at_pixels }

abbrev pub coded_view : {A : Type 0} → CodedReadings A → CodedState
coded_view r = record { coder = r.decoder; procedures = r.procedures; ids = r.ids }

abbrev pub tables_view : {A : Type 0} → TextRegionHuffmanTables A → TextTables
tables_view t = record {
  first_s = t.first_s.now;
  delta_s = t.delta_s.now;
  delta_t = t.delta_t.now;
  refinement_width = t.refinement_width.now;
  refinement_height = t.refinement_height.now;
  refinement_x = t.refinement_x.now;
  refinement_y = t.refinement_y.now;
  refinement_size = t.refinement_size.now;
}

abbrev pub prefixed_view : {A : Type 0} → PrefixedReadings A → PrefixedState
prefixed_view r = record { place = r.reader; tables = tables_view r.tables; ids = r.ids.now }

-- the grids that a list of references refers to
abbrev pub symbols_view : List (Bor Grid) → List Grid
symbols_view symbols = map (λ symbol. symbol.now) symbols

-- the symbols of other dictionaries, then those of this one
abbrev pub list_view : {A : Type 0} → SymbolList A → List Grid
list_view symbols = symbols_view symbols.input_symbols.now ++ symbols.new_symbols.now

abbrev pub params_view : {A : Type 0} → TextParams A → Params
params_view p = record {
  flags = p.flags;
  symbols = list_view p.symbols;
  count = p.num_instances;
  data_length = p.data_len;
  strict = p.strict;
}

abbrev pub symbol_view : {A : Type 0} → InstanceSymbol A → Grid
symbol_view (Shared bitmap) = bitmap.now
symbol_view (Refined bitmap) = bitmap

abbrev pub instance_view : {A : Type 0} → PlacedSymbol A → Instance
instance_view i = record { grid = symbol_view i.symbol; x = i.x; y = i.y }

abbrev pub coding_view : {A : Type 0} → TextRegionCoding A → NumberCoding
coding_view codings.Arithmetic = ArithmeticCoding
coding_view (codings.Huffman tables ids) = HuffmanCoding tables ids

abbrev pub header_view : {A : Type 0} → TextRegionHeader A → TextHeader
header_view h = record {
  region_info = h.region_info;
  flags = h.flags;
  coding = coding_view h.coding;
  refinement_pixels = text_pixels h.flags h.refinement_at_pixels;
  instances = h.num_instances;
  data_length = h.segment_data_len;
  bytes = h.bytes.now;
  strict = h.strict;
}

-- the code's first two adaptive pixels, where there are any
abbrev pub some_pixels : Option (List AdaptiveTemplatePixel) → List AdaptiveTemplatePixel
some_pixels None = []
some_pixels (Some a) = take 2 a
