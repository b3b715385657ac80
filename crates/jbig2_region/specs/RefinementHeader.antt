-- The data of a refinement region segment up to its coded bytes (T.88, 7.4.7): region information, flags and adaptive
-- pixels. The bytes give the header, and the coded bytes come after it.
use Rattle.std.specs.Prelude.{ℕ, ◌/◌, ◌%◌, ◌≤◌, ◌==◌, Bool, List, Result, Ok}
use Rattle.std.specs.Int.{w8}
use Rattle.jbig2_base.specs.Grid.{max_side, check_sides}
use Rattle.jbig2_base.specs.Results.{◌>>=◌}
use Rattle.jbig2_base.specs.Fields.{number_at}
use Rattle.jbig2_base.specs.declared.error.DecodeError.{DecodeError}
use Rattle.jbig2_region.specs.RegionInfo.{region_info_at}
use Rattle.jbig2_region.specs.declared.region_info.RegionSegmentInfo.{RegionSegmentInfo}
use Rattle.jbig2_region.specs.declared.template.AdaptiveTemplatePixel.{AdaptiveTemplatePixel}
use Rattle.jbig2_region.specs.declared.template.RefinementTemplate.{RefinementTemplate}
use Rattle.jbig2_region.specs.RefinementTemplates.{refinement_pixels_at, refinement_template_of}

pub record RefinementHeader : Type 0 where
  pub region_info : RegionSegmentInfo
  pub template : RefinementTemplate
  pub tpgron : Bool
  pub adaptive_template_pixels : List AdaptiveTemplatePixel
  pub bytes : List ℕ

-- the header, and the coded bytes; neither side may be above 65535 (our own rule)
unfoldable pub refinement_header_at : List ℕ → Result (RefinementHeader × List ℕ) DecodeError
refinement_header_at bytes = do
  (info, rest) ← region_info_at bytes
  (flags, rest) ← number_at w8 rest
  (pixels, rest) ← refinement_pixels_at (refinement_template_of (flags % 2)) rest
  fits ← check_sides info.width info.height
  Ok (
    record {
      region_info = info;
      template = refinement_template_of (flags % 2);
      tpgron = flags / 2 % 2 == 1;
      adaptive_template_pixels = pixels;
      bytes = rest;
    },
    rest,
  )

pub record IsRefinement (h : RefinementHeader) : Type 0 where  -- what holds for every header that is read
  pub columns : h.region_info.width ≤ max_side
  pub rows : h.region_info.height ≤ max_side
