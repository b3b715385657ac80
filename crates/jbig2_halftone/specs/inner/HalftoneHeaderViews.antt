-- A halftone region's header of the code, as the definitions see it.
use Rattle.jbig2_halftone.specs.declared.halftone.header.HalftoneRegionHeader.{HalftoneRegionHeader}
use Rattle.jbig2_halftone.specs.HalftoneHeader.{HalftoneHeader}

abbrev pub header_view : HalftoneRegionHeader → HalftoneHeader
header_view h = record {
  region_info = h.region_info;
  flags = h.flags;
  grid_position_and_size = h.grid_position_and_size;
  grid_vector = h.grid_vector;
  bytes = h.bytes.now;
  strict = h.strict;
}
