-- The code's header of a generic region, as the definition's header.
use Rattle.jbig2_region.specs.inner.PixelArrays.{is_extended, pixels_view}
use Rattle.jbig2_region.specs.declared.generic.header.GenericRegionHeader.{GenericRegionHeader}
use Rattle.jbig2_region.specs.GenericHeader.{GenericHeader}

abbrev pub header_view : GenericRegionHeader → GenericHeader
header_view h = record {
  region_info = h.region_info;
  mmr = h.mmr;
  template = h.template;
  extended = is_extended h.adaptive_template_pixels;
  tpgdon = h.tpgdon;
  adaptive_template_pixels = pixels_view h.mmr h.template h.adaptive_template_pixels;
  bytes = h.bytes.now;
  strict = h.strict;
}
