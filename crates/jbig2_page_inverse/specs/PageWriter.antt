-- An embedded page (T.88, D.3) as it is written: page information, and one immediate generic region of the page's size.
-- Then the law that the page is read and drawn as the bitmap that was written.
use Rattle.std.specs.Prelude.{◌≡◌, ℕ, Bool, true, false, if◌then◌else◌, List, [], ◌∷◌, length, Option, Some}
use Rattle.std.specs.Prelude.{Result, Ok}
use Rattle.std.specs.List.{flat_map}
use Rattle.jbig2_base.specs.Grid.{grid_of}
use Rattle.jbig2_base.specs.Results.{◌>>=◌}
use Rattle.jbig2_base.specs.declared.error.DecodeError.{DecodeError}
use Rattle.jbig2_framing.specs.PageInfo.{first_information, information_at}
use Rattle.jbig2_framing.specs.Segment.{SegmentView}
use Rattle.jbig2_base.specs.declared.bitmap.operator.CombinationOperator.TheVariants.{Or}
use Rattle.jbig2_framing.specs.declared.page_info.PageInformation.{PageInformation}
use Rattle.jbig2_framing.specs.declared.reading.Reading.{Reading}
use Rattle.jbig2_framing.specs.declared.segment.SegmentType.{SegmentType}
use Rattle.jbig2_framing.specs.declared.segment.SegmentType.TheVariants as types
use Rattle.jbig2_coder.specs.Encoder.{encoded_bytes}
use Rattle.jbig2_region.specs.GenericHeader.{GenericHeader}
use Rattle.jbig2_region.specs.Templates.{FitsTemplate, adaptive_pixel_count, takes_extended}
use Rattle.jbig2_region.specs.declared.template.AdaptiveTemplatePixel.{AdaptiveTemplatePixel}
use Rattle.jbig2_region.specs.declared.template.Template.{Template}
use Rattle.jbig2_page.specs.Names.{Names}
use Rattle.jbig2_page.specs.Page.{IsSide, ReadPage, page_from, grid_of_page}
use Rattle.jbig2_inverses.specs.MmrWriter.{mmr_bytes}
use Rattle.jbig2_inverses.specs.GenericSegmentWriter.{AreAdaptive, generic_bytes}
use Rattle.jbig2_inverses.specs.RegionWriter.{generic_entries}
use Rattle.jbig2_inverses.specs.SegmentWriter.{IsResolution, information_bytes, segment_bytes}

pub record PageChoice : Type 0 where  -- how a region is coded, and the page's resolution
  pub mmr : Bool
  pub end_of_block : Bool
  pub template : Template
  pub extended : Bool
  pub typical : Bool
  pub adaptive : List AdaptiveTemplatePixel
  pub x_resolution : Option ℕ  -- pixels per metre along a row
  pub y_resolution : Option ℕ  -- and along a column

pub record IsChoice (c : PageChoice) : Type 0 where  -- what segments can have (7.4.6, 7.4.8)
  pub template : FitsTemplate c.extended c.template
  pub extended : takes_extended c.mmr c.extended c.template ≡ c.extended
  pub count : length c.adaptive ≡ adaptive_pixel_count c.mmr c.extended c.template
  pub pixels : AreAdaptive c.adaptive
  pub x_resolution : IsResolution c.x_resolution
  pub y_resolution : IsResolution c.y_resolution

abbrev pub segment : ℕ → ℕ → SegmentType → List ℕ → SegmentView  -- of this number, and of this page
segment number page kind bytes = record {
  header = record {
    segment_number = number;
    segment_type = kind;
    retain_flag = true;
    page_association = page;
    referred_to_segments = [];
    data_length = Some (length bytes);
  };
  bytes = bytes;
}

module _ (c : PageChoice) (w h : ℕ) (pixels : ℕ → ℕ → Bool) where
  abbrev pub region_of_bytes : Bool → List ℕ → GenericHeader  -- the region at the page's corner, with these coded bytes
  region_of_bytes strict bytes = record {
    region_info = record { width = w; height = h; x_location = 0; y_location = 0; combination_operator = Or };
    mmr = c.mmr;
    template = c.template;
    extended = c.extended;
    tpgdon = c.typical;
    adaptive_template_pixels = c.adaptive;
    bytes = bytes;
    strict = strict;
  }

  unfoldable pub coded_bytes : List ℕ
  coded_bytes =
      if c.mmr then mmr_bytes c.end_of_block w h pixels
      else encoded_bytes (generic_entries (region_of_bytes false []) pixels)

  abbrev pub region_bytes : List ℕ
  region_bytes = generic_bytes (region_of_bytes false coded_bytes)

  abbrev pub information : PageInformation  -- a white page of this size
  information = record {
    width = w;
    height = h;
    x_resolution = c.x_resolution;
    y_resolution = c.y_resolution;
    flags = record {
      is_lossless = true;
      might_contain_refinements = false;
      default_pixel = false;
      default_combination_operator = Or;
      requires_auxiliary_buffers = false;
      combination_operator_overridden = false;
      might_contain_coloured = false;
    };
    striping = record { is_striped = false; max_stripe_size = 0 };
  }

  abbrev pub two_segments : List SegmentView
  two_segments =
      segment 0 1 types.PageInformation (information_bytes information)
      ∷ segment 1 1 types.ImmediateGenericRegion region_bytes ∷ []

  unfoldable pub page_bytes : List ℕ
  page_bytes = flat_map segment_bytes two_segments

-- The resolution that the first page information of these segments states (7.4.8.3, 7.4.8.4).
abbrev pub resolution_of : List SegmentView → Result (Option ℕ × Option ℕ) DecodeError
resolution_of ps = do
  first ← first_information ps
  (info, rest) ← information_at first.bytes
  Ok (info.x_resolution, info.y_resolution)

-- The page is drawn as this bitmap, and states the resolution.
pub record ShowsBitmap (c : PageChoice) (w h : ℕ) (pixels : ℕ → ℕ → Bool) (page : ReadPage) : Type 0 where
  pub drawn : grid_of_page page ≡ Ok (grid_of w h pixels)
  pub resolution : resolution_of page.segments ≡ Ok (c.x_resolution, c.y_resolution)

-- Each bitmap is a page, in each mode and with any globals. A segment states the length of its data in four bytes
-- (7.2.7): no coding here takes more than that holds.
abbrev pub PagesReadBack : Type 0
PagesReadBack = (reading : Reading) (globals : Names) (c : PageChoice) (w h : ℕ) (pixels : ℕ → ℕ → Bool)
    → IsChoice c → IsSide w → IsSide h
    → (page : ReadPage) × (page_from reading globals (page_bytes c w h pixels) ≡ Ok page)
    × ShowsBitmap c w h pixels page
