-- How a region is decoded, once its header is read and what it refers to is found (T.88, 7.4.3 and 7.4.5 to 7.4.7).
use Rattle.std.specs.Prelude.{◌≡◌, ◌≤◌, Bool, false, Result, Ok, Err, ◌⊎◌}
use Rattle.jbig2_base.specs.Results.{◌>>=◌}
use Rattle.jbig2_base.specs.Grid.{Grid, check_sides, grid_of, pixel_at}
use Rattle.jbig2_base.specs.declared.error.DecodeError.{DecodeError}
use Rattle.jbig2_base.specs.declared.error.DecodeError.TheVariants.{OutOfMemory}
use Rattle.jbig2_region.specs.RegionInfo.{PlacedRegion, at_location}
use Rattle.jbig2_region.specs.Generic.{generic_result}
use Rattle.jbig2_region.specs.inner.RegionViews.{region_view}
use Rattle.jbig2_region.specs.Refinement.{refined_result}
use Rattle.jbig2_region.specs.declared.region_info.RegionSegmentInfo.{RegionSegmentInfo}
use Rattle.jbig2_region.specs.GenericHeader.{IsParsed}
use Rattle.jbig2_region.specs.RefinementHeader.{IsRefinement}
use Rattle.jbig2_halftone.specs.Halftone.{halftone_result}
use Rattle.jbig2_halftone.specs.inner.DictionaryViews.{dictionary_view}
use Rattle.jbig2_halftone.specs.HalftoneHeader.{HasCells}
use Rattle.jbig2_text.specs.TextRegion.{text_result}
use Rattle.jbig2_page.specs.Page.{Drawing}
use Rattle.jbig2_page.specs.declared.region.parsed_region.ParsedRegion.{ParsedRegion}
use Rattle.jbig2_page.specs.declared.region.parsed_region.ParsedRegion.TheVariants.{Text, Halftone, Generic}
use Rattle.jbig2_page.specs.declared.region.parsed_region.ParsedRegion.TheVariants.{Refinement, PageRefinement, Part}
use Rattle.jbig2_page.specs.declared.region.references.References.{References}
use Rattle.jbig2_page.specs.inner.KeptViews.{kept_values}
use Rattle.jbig2_page.specs.PassedOver.{nothing_passed}
use Rattle.jbig2_region.specs.inner.GenericHeaderViews as generics
use Rattle.jbig2_region.specs.inner.RefinementHeaderViews as refinements
use Rattle.jbig2_halftone.specs.inner.HalftoneHeaderViews as halftones
use Rattle.jbig2_text.specs.inner.TextViews as texts

abbrev pub info_of : {A : Type 0} → ParsedRegion A → RegionSegmentInfo
info_of (Text header referred) = header.region_info
info_of (Halftone header patterns) = header.region_info
info_of (Generic header) = header.region_info
info_of (Refinement header reference) = header.region_info
info_of (PageRefinement header area) = header.region_info
info_of (Part region) = record {
  width = region.bitmap.width;
  height = region.bitmap.height;
  x_location = region.x_location;
  y_location = region.y_location;
  combination_operator = region.combination_operator;
}

-- the colour that it begins in
abbrev pub initial_of : {A : Type 0} → ParsedRegion A → Bool
initial_of (Text header referred) = header.flags.default_pixel
initial_of (Halftone header patterns) = header.flags.initial_pixel_color
initial_of (Generic header) = false
initial_of (Refinement header reference) = false
initial_of (PageRefinement header area) = false
initial_of (Part region) = false

-- the grid that it decodes to
abbrev pub region_grid : {A : Type 0} → ParsedRegion A → Result Grid DecodeError
region_grid (Text header referred) = text_result (texts.header_view header) referred.symbols referred.codes
region_grid (Halftone header patterns) = halftone_result (halftones.header_view header) (dictionary_view patterns.now)
region_grid (Generic header) = generic_result (generics.header_view header)
region_grid (Refinement header reference) = refined_result (refinements.header_view header) (region_view reference.now)
region_grid (PageRefinement header area) = refined_result (refinements.header_view header) (region_view area)
region_grid (Part region) = Ok (grid_of region.bitmap.width region.bitmap.height (pixel_at region.bitmap))

-- the grid at its place, unless a side of the region is too large
abbrev pub placed_region : {A : Type 0} → ParsedRegion A → Result PlacedRegion DecodeError
placed_region r = do
  fits ← check_sides (info_of r).width (info_of r).height
  g ← region_grid r
  Ok (at_location (info_of r) g)

-- what holds for every region that was parsed
abbrev pub IsDecodable : {A : Type 0} → ParsedRegion A → Type 0
IsDecodable (Text header referred) = header.flags.log_strip_size ≤ 3
IsDecodable (Halftone header patterns) = HasCells (halftones.header_view header)
IsDecodable (Generic header) = IsParsed (generics.header_view header)
IsDecodable (Refinement header reference) = IsRefinement (refinements.header_view header)
IsDecodable (PageRefinement header area) = IsRefinement (refinements.header_view header)
IsDecodable (Part region) = Unit {0}

-- The parsed region decodes to what the definition gives, unless memory ran out.
abbrev pub DecodesTo : {A : Type 0} → Result (ParsedRegion A) DecodeError → Result PlacedRegion DecodeError → Type 0
DecodesTo (Ok parsed) meant = meant ≡ placed_region parsed
DecodesTo (Err e) meant = (e ≡ OutOfMemory) ⊎ (meant ≡ Err e)

-- the page as the references see it
abbrev pub drawing_of : {A : Type 0} → References A → Drawing
drawing_of r = record {
  grid = r.page.now;
  regions = kept_values region_view r.regions.now;
  names = r.names.own.now;
  untouched = false;
  passed_over = nothing_passed;
}
