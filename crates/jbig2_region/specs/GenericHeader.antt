-- The data of a generic region segment up to its coded bytes (T.88, 7.4.6): region information, flags and adaptive
-- pixels. The bytes give the header, and the coded bytes come after it.
use Rattle.std.specs.Prelude.{ℕ, ◌-◌, ◌/◌, ◌%◌, ◌≤◌, ◌==◌, nat_lt, Bool, true, false, List, length, take, drop}
use Rattle.std.specs.Prelude.{Result, Ok}
use Rattle.std.specs.Int.{w8, w32}
use Rattle.jbig2_base.specs.Grid.{max_side, check_sides}
use Rattle.jbig2_base.specs.Results.{refuse_if, ◌>>=◌}
use Rattle.jbig2_base.specs.Fields.{number_at}
use Rattle.jbig2_base.specs.declared.error.DecodeError.{DecodeError}
use Rattle.jbig2_base.specs.declared.error.RegionError.TheVariants.{InvalidDimension}
use Rattle.jbig2_region.specs.RegionInfo.{region_info_at}
use Rattle.jbig2_region.specs.Templates.{adaptive_pixel_count, takes_extended, template_of, FitsTemplate}
use Rattle.jbig2_region.specs.Templates.{adaptive_pixels_at}
use Rattle.jbig2_region.specs.declared.region_info.RegionSegmentInfo.{RegionSegmentInfo}
use Rattle.jbig2_region.specs.declared.template.Template.{Template}
use Rattle.jbig2_region.specs.declared.template.AdaptiveTemplatePixel.{AdaptiveTemplatePixel}
use Rattle.jbig2_base.specs.declared.error.DecodeError.TheVariants as errors

pub record GenericHeader : Type 0 where
  pub region_info : RegionSegmentInfo
  pub mmr : Bool
  pub template : Template
  pub extended : Bool
  pub tpgdon : Bool
  pub adaptive_template_pixels : List AdaptiveTemplatePixel
  pub bytes : List ℕ
  pub strict : Bool

-- the height and the coded bytes; with unknown length the last four bytes state the rows, at most the height (7.4.6.4)
unfoldable pub rows_at : Bool → ℕ → List ℕ → Result (ℕ × List ℕ) DecodeError
rows_at false height bytes = Ok (height, bytes)
rows_at true height bytes = do
  (rows, after) ← number_at w32 (drop (length bytes - 4) bytes)
  within ← refuse_if (nat_lt height rows) (errors.Region InvalidDimension)
  Ok (rows, take (length bytes - 4) bytes)

-- the header, and the bytes from the coded ones on; neither side may be above 65535 (our own rule)
unfoldable pub generic_header_at : Bool → Bool → List ℕ → Result (GenericHeader × List ℕ) DecodeError
generic_header_at unknown_length strict bytes = do
  (info, rest) ← region_info_at bytes
  (flags, rest) ← number_at w8 rest
  let mmr = flags % 2 == 1
  let extended = flags / 16 % 2 == 1
  let template = template_of (flags / 2 % 4)
  (pixels, rest) ← adaptive_pixels_at (adaptive_pixel_count mmr extended template) rest
  (rows, coded) ← rows_at unknown_length info.height rest
  fits ← check_sides info.width rows
  Ok (
    record {
      region_info = record info { height = rows };
      mmr = mmr;
      template = template;
      extended = takes_extended mmr extended template;
      tpgdon = flags / 8 % 2 == 1;
      adaptive_template_pixels = pixels;
      bytes = coded;
      strict = strict;
    },
    rest,
  )

pub record IsParsed (h : GenericHeader) : Type 0 where  -- what holds for every header that is read
  pub columns : h.region_info.width ≤ max_side
  pub rows : h.region_info.height ≤ max_side
  pub pixels : FitsTemplate h.extended h.template
