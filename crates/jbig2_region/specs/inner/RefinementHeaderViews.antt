-- The code's header of a refinement, as the definition's header.
use Rattle.jbig2_region.specs.inner.PixelArrays.{two_pixels}
use Rattle.jbig2_region.specs.declared.generic_refinement.header.GenericRefinementRegionHeader.{GenericRefinementRegionHeader}
use Rattle.jbig2_region.specs.RefinementHeader.{RefinementHeader}

abbrev pub header_view : GenericRefinementRegionHeader → RefinementHeader
header_view h = record {
  region_info = h.region_info;
  template = h.template;
  tpgron = h.tpgron;
  adaptive_template_pixels = two_pixels h.template h.adaptive_template_pixels;
  bytes = h.bytes.now;
}
