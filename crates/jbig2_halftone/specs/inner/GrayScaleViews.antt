-- Values of the code for gray-scale images, as the definitions see them (our own rule).
use Rattle.jbig2_region.specs.inner.RegionViews.{skip_of}
use Rattle.jbig2_halftone.specs.GrayScale.{GrayScale}
use Rattle.jbig2_halftone.specs.declared.gray_scale.GrayScaleParams.{GrayScaleParams}

abbrev pub gray_view : {A : Type 0} → GrayScaleParams A → GrayScale
gray_view p = record {
  use_mmr = p.use_mmr;
  bits_per_pixel = p.bits_per_pixel;
  width = p.width;
  height = p.height;
  template = p.template;
  skip_mask = skip_of p.skip_mask;
  strict = p.strict;
}
