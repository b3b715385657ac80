-- The code's header of a pattern dictionary, as the definition's header.
use Rattle.jbig2_halftone.specs.PatternHeader.{PatternHeader}
use Rattle.jbig2_halftone.specs.declared.pattern.header.PatternDictionaryHeader.{PatternDictionaryHeader}

abbrev pub header_view : PatternDictionaryHeader → PatternHeader
header_view h = record {
  mmr = h.mmr;
  template = h.template;
  pattern_width = h.pattern_width;
  pattern_height = h.pattern_height;
  gray_max = h.num_patterns;
  bytes = h.bytes.now;
  strict = h.strict;
}
