-- Pages (T.88, 8.2) pixel by pixel: the regions of a page in order, and a pixel of the page as the fold of their
-- operators. The law: these pixels are the page's grid, which the segments of `Page` draw region after region.
use Rattle.std.specs.Prelude.{◌≡◌, ℕ, Bool, true, false, ◌&&◌, if◌then◌else◌, pos, ◌-ℤ◌, List, [], ◌∷◌, ◌++◌, Option}
use Rattle.std.specs.Prelude.{Some, None, Result, Ok, Err, IfOk}
use Rattle.std.specs.Int.{w32, cast_signed}
use Rattle.jbig2_base.specs.Combination.{combined_pixel, is_below}
use Rattle.jbig2_base.specs.Grid.{grid_of, pixel}
use Rattle.jbig2_base.specs.declared.error.DecodeError.{DecodeError}
use Rattle.jbig2_framing.specs.Reading.{is_strict}
use Rattle.jbig2_framing.specs.Segment.{SegmentView}
use Rattle.jbig2_framing.specs.declared.reading.Reading.{Reading}
use Rattle.jbig2_framing.specs.declared.segment.SegmentType.{SegmentType}
use Rattle.jbig2_framing.specs.declared.segment.SegmentType.TheVariants as types
use Rattle.jbig2_region.specs.RegionInfo.{PlacedRegion}
use Rattle.jbig2_page.specs.Names.{Names}
use Rattle.jbig2_page.specs.Page.{Drawing, ReadPage, blank_page, ends_page, grid_of_page, segment_on}
use Rattle.jbig2_page.specs.Regions.{generic_at, halftone_at, refinement_at, text_at}

-- ---- a pixel
-- The page's pixel at column x of row y, which was `below`, after a region: where the region covers it, both pixels
-- combined by the region's operator (7.4.1.5). The region's location is read as two signed numbers (7.4.1).
abbrev pub pixel_after : PlacedRegion → ℕ → ℕ → Bool → Bool
pixel_after r x y below =
    let column = pos x -ℤ cast_signed w32 r.x_location in
    let row = pos y -ℤ cast_signed w32 r.y_location in
    if is_below r.grid.width column && is_below r.grid.height row
    then combined_pixel r.combination_operator below (pixel r.grid column row) else below

abbrev pub pixel_under : List PlacedRegion → ℕ → ℕ → Bool → Bool  -- after all these regions, the first one first
pixel_under [] x y below = below
pixel_under (r ∷ regions) x y below = pixel_under regions x y (pixel_after r x y below)

-- ---- the regions of a page
abbrev pub list_of_region : Result PlacedRegion DecodeError → List PlacedRegion  -- a region that fails draws nothing
list_of_region (Ok r) = r ∷ []
list_of_region (Err e) = []

-- What a segment that is a region decodes to (7.3), where this was drawn before it, and whether it is an intermediate
-- one, which is not drawn.
abbrev pub region_of_segment : Bool → Names → SegmentView → Drawing → Option (Bool × Result PlacedRegion DecodeError)
region_of_segment strict globals p d = on p.header.segment_type
  where
    on : SegmentType → Option (Bool × Result PlacedRegion DecodeError)
    on types.IntermediateTextRegion = Some (true, text_at strict d.names globals p)
    on types.ImmediateTextRegion = Some (false, text_at strict d.names globals p)
    on types.ImmediateLosslessTextRegion = Some (false, text_at strict d.names globals p)
    on types.IntermediateHalftoneRegion = Some (true, halftone_at strict d.names globals p)
    on types.ImmediateHalftoneRegion = Some (false, halftone_at strict d.names globals p)
    on types.ImmediateLosslessHalftoneRegion = Some (false, halftone_at strict d.names globals p)
    on types.IntermediateGenericRegion = Some (true, generic_at strict true p)
    on types.ImmediateGenericRegion = Some (false, generic_at strict false p)
    on types.ImmediateLosslessGenericRegion = Some (false, generic_at strict false p)
    on types.IntermediateGenericRefinementRegion = Some (true, refinement_at strict true d.grid d.regions p)
    on types.ImmediateGenericRefinementRegion = Some (false, refinement_at strict false d.grid d.regions p)
    on types.ImmediateLosslessGenericRefinementRegion = Some (false, refinement_at strict false d.grid d.regions p)
    on _ = None

abbrev pub if_immediate : Option (Bool × Result PlacedRegion DecodeError) → List PlacedRegion
if_immediate (Some (false, region)) = list_of_region region
if_immediate (Some (true, region)) = []
if_immediate None = []

abbrev pub drawn_by : Bool → Names → SegmentView → Drawing → List PlacedRegion
drawn_by strict globals p d = if_immediate (region_of_segment strict globals p d)

abbrev pub after_ok : Result Drawing DecodeError → (Drawing → List PlacedRegion) → List PlacedRegion
after_ok (Ok d) next = next d
after_ok (Err e) next = []

-- All regions that are drawn, up to an end of page or an end of file. Each is decoded after what comes before it.
abbrev pub regions_of : Reading → Names → List SegmentView → Drawing → List PlacedRegion
regions_of reading globals [] d = []
regions_of reading globals (p ∷ ps) d =
    if ends_page p.header.segment_type then []
    else drawn_by (is_strict reading) globals p d
    ++ after_ok (segment_on reading globals p d) (λ e. regions_of reading globals ps e)

-- A page's grid has the page's sides, and at each place the fold over its regions, from the page's default pixel on.
abbrev pub PixelsAreFolds : Type 0
PixelsAreFolds = (page : ReadPage) (globals : Names) → page.globals ≡ Ok globals
    → let regions = regions_of page.reading globals page.segments (blank_page page.initial_page) in
    IfOk (grid_of_page page) (λ g.
    g ≡ grid_of page.initial_page.width page.initial_page.height (λ x y.
    pixel_under regions x y page.initial_page.default_pixel))
