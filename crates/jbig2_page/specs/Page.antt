-- What a page shows (T.88, 8). Its segments are taken in order. Each is drawn onto the page, kept for later ones, or
-- changes nothing, as its type says (7.3).
use Rattle.std.specs.Prelude.{◌≡◌, ◌≤◌, ℕ, ◌+◌, ◌-◌, ◌==◌, ◌||◌, nat_lt, max, min, Bool, true, false, not, List, []}
use Rattle.std.specs.Prelude.{◌∷◌, ◌++◌, Option, Some, None, Result, Ok, Err, IfOk, IsTrue, if◌then◌else◌}
use Rattle.std.specs.Int.{w32, cast_signed}
use Rattle.jbig2_base.specs.Results.{◌>>=◌}
use Rattle.jbig2_base.specs.Combination.{combined_grid}
use Rattle.jbig2_base.specs.Grid.{Grid, blank, max_side}
use Rattle.jbig2_framing.specs.PageInfo.{initial_page_by, stripes_height}
use Rattle.jbig2_framing.specs.CutOff.{sequence_cut_off, sequence_partial}
use Rattle.jbig2_framing.specs.Reading.{is_salvaged, is_strict}
use Rattle.jbig2_framing.specs.Segment.{SegmentView}
use Rattle.jbig2_framing.specs.Sequential.{by_number, sequential}
use Rattle.jbig2_framing.specs.declared.cut_off.CutOff.{CutOff}
use Rattle.jbig2_base.specs.declared.bitmap.operator.CombinationOperator.{CombinationOperator}
use Rattle.jbig2_base.specs.declared.bitmap.operator.CombinationOperator.TheVariants.{Or, And, Xor, Xnor, Replace}
use Rattle.jbig2_base.specs.declared.error.DecodeError.{DecodeError}
use Rattle.jbig2_framing.specs.declared.page_info.InitialPage.{InitialPage}
use Rattle.jbig2_framing.specs.declared.reading.Reading.{Reading}
use Rattle.jbig2_framing.specs.declared.reading.Reading.TheVariants.{Salvage}
use Rattle.jbig2_framing.specs.declared.segment.SegmentType.{SegmentType}
use Rattle.jbig2_region.specs.GenericHeader.{generic_header_at}
use Rattle.jbig2_region.specs.RegionInfo.{PlacedRegion, region_info_at, is_far}
use Rattle.jbig2_region.specs.declared.region_info.RegionSegmentInfo.{RegionSegmentInfo}
use Rattle.jbig2_page.specs.Names.{Names, kept_by, kept_under, no_names}
use Rattle.jbig2_page.specs.Regions.{generic_at, halftone_at, refinement_at, text_at}
use Rattle.jbig2_page.specs.PassedOver.{fault_of, nothing_passed, with_passed}
use Rattle.jbig2_framing.specs.Segment.{is_partial}
use Rattle.jbig2_page.specs.declared.kept.Kept.{Kept}
use Rattle.jbig2_page.specs.declared.passed_over.PassedOver.{PassedOver}
use Rattle.jbig2_page.specs.declared.region.RegionKind.{RegionKind}
use Rattle.jbig2_framing.specs.declared.segment.SegmentType.TheVariants as types
use Rattle.jbig2_page.specs.declared.region.RegionKind.TheVariants as kinds

-- A page that was read: how strictly, how it begins, its segments in order, its globals or their error, and the segment
-- at which the list of its segments ended early, if it did.
pub record ReadPage : Type 0 where
  pub reading : Reading
  pub initial_page : InitialPage
  pub segments : List SegmentView
  pub globals : Result Names DecodeError
  pub cut_off : Option CutOff

abbrev pub IsSide : ℕ → Type 0  -- a side of a page, in pixels (our own rule)
IsSide n = (1 ≤ n) × (n ≤ max_side)

pub record HasSides (p : InitialPage) : Type 0 where
  pub some_columns : 1 ≤ p.width
  pub columns : p.width ≤ max_side
  pub some_rows : 1 ≤ p.height
  pub rows : p.height ≤ max_side

-- What was drawn so far, what is kept, whether the page is untouched (no immediate region came before), and what the
-- reading passed over.
pub record Drawing : Type 0 where
  pub grid : Grid
  pub regions : List (Kept PlacedRegion)
  pub names : Names
  pub untouched : Bool
  pub passed_over : PassedOver

-- The types that are regions (7.3): the kind of region, and whether it is an intermediate one.
abbrev pub region_type : SegmentType → Option (RegionKind × Bool)
region_type types.IntermediateTextRegion = Some (kinds.Text, true)
region_type types.ImmediateTextRegion = Some (kinds.Text, false)
region_type types.ImmediateLosslessTextRegion = Some (kinds.Text, false)
region_type types.IntermediateHalftoneRegion = Some (kinds.Halftone, true)
region_type types.ImmediateHalftoneRegion = Some (kinds.Halftone, false)
region_type types.ImmediateLosslessHalftoneRegion = Some (kinds.Halftone, false)
region_type types.IntermediateGenericRegion = Some (kinds.Generic, true)
region_type types.ImmediateGenericRegion = Some (kinds.Generic, false)
region_type types.ImmediateLosslessGenericRegion = Some (kinds.Generic, false)
region_type types.IntermediateGenericRefinementRegion = Some (kinds.GenericRefinement, true)
region_type types.ImmediateGenericRefinementRegion = Some (kinds.GenericRefinement, false)
region_type types.ImmediateLosslessGenericRefinementRegion = Some (kinds.GenericRefinement, false)
region_type _ = None

abbrev pub is_immediate : Option (RegionKind × Bool) → Bool
is_immediate (Some (kind, is_intermediate)) = not is_intermediate
is_immediate None = false

abbrev pub ends_page : SegmentType → Bool
ends_page types.EndOfPage = true
ends_page types.EndOfFile = true
ends_page _ = false

-- An immediate region is combined with the page at its location, which is read as two signed numbers (7.4.1).
abbrev pub with_drawn_region : Drawing → Result PlacedRegion DecodeError → Result Drawing DecodeError
with_drawn_region d region = do
  r ← region
  let x = cast_signed w32 r.x_location
  let y = cast_signed w32 r.y_location
  Ok (record d { grid = combined_grid r.combination_operator d.grid r.grid x y; untouched = false })

-- A segment that fails counts as passed over. One whose data is cut off doesn't count here: it counts as the one at which
-- the list of segments ends early (our own rule).
abbrev pub with_failed : SegmentView → DecodeError → PassedOver → PassedOver
with_failed p e passed_over =
    if is_partial p then passed_over else with_passed (Some p.header.segment_number) e passed_over

-- A segment that is passed over draws nothing, but it counts as a region that came before (our own rule).
abbrev pub passing : SegmentView → DecodeError → Drawing → Drawing
passing p e d = record d { untouched = false; passed_over = with_failed p e d.passed_over }

-- Every reading but the strict one passes over an immediate region that fails (our own rule).
abbrev pub or_passed_over : Bool → SegmentView → Drawing → Result Drawing DecodeError → Result Drawing DecodeError
or_passed_over strict p d (Ok e) = Ok e
or_passed_over strict p d (Err e) = if strict then Err e else Ok (passing p e d)

-- An intermediate region is kept under its segment's number.
abbrev pub with_region : ℕ → Drawing → PlacedRegion → Drawing
with_region number d region = record d { regions = kept_under number region d.regions }

-- A segment that draws nothing changes only the names.
abbrev pub with_names : Drawing → Result Names DecodeError → Result Drawing DecodeError
with_names d kept = kept >>= λ names. Ok (record d { names = names })

module _ (strict : Bool) (globals : Names) where
  abbrev pub region_at : RegionKind → Bool → SegmentView → Drawing → Result PlacedRegion DecodeError
  region_at kinds.Text is_intermediate p d = text_at strict d.names globals p
  region_at kinds.Halftone is_intermediate p d = halftone_at strict d.names globals p
  region_at kinds.Generic is_intermediate p d = generic_at strict is_intermediate p
  region_at kinds.GenericRefinement is_intermediate p d = refinement_at strict is_intermediate d.grid d.regions p

  unfoldable pub immediate : RegionKind → SegmentView → Drawing → Result Drawing DecodeError
  immediate kind p d = or_passed_over strict p d (with_drawn_region d (region_at kind false p d))

  unfoldable pub intermediate : RegionKind → SegmentView → Drawing → Result Drawing DecodeError
  intermediate kind p d = region_at kind true p d >>= λ region. Ok (with_region p.header.segment_number d region)

  -- One segment. These change nothing here: page information, stripes, profiles, palettes, types without a meaning, and
  -- the ends of pages and files.
  abbrev pub segment_by : SegmentView → Drawing → Result Drawing DecodeError
  segment_by p d = on (region_type p.header.segment_type)
    where
      on : Option (RegionKind × Bool) → Result Drawing DecodeError
      on (Some (kind, true)) = intermediate kind p d
      on (Some (kind, false)) = immediate kind p d
      on None = with_names d (kept_by strict globals p d.names)

-- What strict reading refuses a segment for. Of one whose data is cut off nothing is said here.
abbrev pub strict_fault : Names → SegmentView → Drawing → Option DecodeError
strict_fault globals p d = if is_partial p then None else fault_of (segment_by true globals p d)

-- A segment with such a fault counts as passed over, once, though it is drawn or kept (our own rule).
abbrev pub or_told : Option DecodeError → ℕ → Drawing → Result Drawing DecodeError → Result Drawing DecodeError
or_told None number d r = r
or_told (Some fault) number d (Ok e) =
    if e.passed_over.count == d.passed_over.count then
    Ok (record e { passed_over = with_passed (Some number) fault e.passed_over })
    else Ok e
or_told (Some fault) number d (Err e) = Err e

-- Salvage passes over any segment that fails. Nothing is kept under its number then.
abbrev pub or_left_out : Reading → SegmentView → Drawing → Result Drawing DecodeError → Result Drawing DecodeError
or_left_out reading p d (Ok e) = Ok e
or_left_out reading p d (Err e) = if is_salvaged reading e then Ok (passing p e d) else Err e

module _ (reading : Reading) (globals : Names) where
  abbrev pub segment_on : SegmentView → Drawing → Result Drawing DecodeError
  segment_on p d =
      or_told (strict_fault globals p d) p.header.segment_number d
      (or_left_out reading p d (segment_by (is_strict reading) globals p d))

  -- The segments in order, up to an end of page or an end of file.
  abbrev pub segments_drawn : List SegmentView → Drawing → Result Drawing DecodeError
  segments_drawn [] d = Ok d
  segments_drawn (p ∷ ps) d =
      if ends_page p.header.segment_type then Ok d else (segment_on p d >>= λ e. segments_drawn ps e)

abbrev pub empty_drawing : Drawing  -- a page of no pixels
empty_drawing = record {
  grid = blank 0 0 false;
  regions = [];
  names = no_names;
  untouched = true;
  passed_over = nothing_passed;
}

abbrev pub blank_page : InitialPage → Drawing  -- the page before its first segment, all in its default pixel
blank_page initial_page = record {
  grid = blank initial_page.width initial_page.height initial_page.default_pixel;
  regions = [];
  names = no_names;
  untouched = true;
  passed_over = nothing_passed;
}

-- The segment at which the list ended early counts as passed over, after all others (our own rule).
abbrev pub with_cut_off : Option CutOff → Drawing → Drawing
with_cut_off None d = d
with_cut_off (Some c) d = record d { passed_over = with_passed c.segment_number c.error d.passed_over }

abbrev pub drawing_with : Names → ReadPage → Result Drawing DecodeError
drawing_with globals page =
    segments_drawn page.reading globals page.segments (blank_page page.initial_page)
    >>= λ d. Ok (with_cut_off page.cut_off d)

abbrev pub drawing_of_page : ReadPage → Result Drawing DecodeError
drawing_of_page page = page.globals >>= λ globals. drawing_with globals page

unfoldable pub grid_of_page : ReadPage → Result Grid DecodeError
grid_of_page page = drawing_of_page page >>= λ d. Ok d.grid

-- The row below the lowest row of a region at this place. The place's y is read as a signed number (7.4.1).
abbrev pub end_of : RegionSegmentInfo → ℕ
end_of info =
    if is_far info.y_location then info.height - (4294967296 - info.y_location) else info.y_location + info.height

-- The information of a region (7.4.1). A generic region of unknown length has the number of its rows after its data.
abbrev pub info_at : SegmentView → Result RegionSegmentInfo DecodeError
info_at p = on (region_type p.header.segment_type) p.header.data_length
  where
    on : Option (RegionKind × Bool) → Option ℕ → Result RegionSegmentInfo DecodeError
    on (Some (kinds.Generic, false)) None =
        generic_header_at true false p.bytes >>= λ (header, rest). Ok header.region_info
    on _ _ = region_info_at p.bytes >>= λ (info, rest). Ok info

-- How high a page is that ends with this region: an immediate one whose information can be read, and that isn't too
-- large to be drawn. It is at most 65535, and 0 for any other segment.
abbrev pub region_height : SegmentView → ℕ
region_height p = if is_immediate (region_type p.header.segment_type) then on (info_at p) else 0
  where
    on : Result RegionSegmentInfo DecodeError → ℕ
    on (Ok info) = if nat_lt max_side info.width || nat_lt max_side info.height then 0 else min max_side (end_of info)
    on (Err e) = 0

abbrev pub regions_height : List SegmentView → ℕ
regions_height [] = 0
regions_height (p ∷ ps) = max (region_height p) (regions_height ps)

-- The height where page information leaves it open: that of the stripes, and in salvage that of the regions where no
-- stripe gives one (our own rule).
abbrev pub known_height : Reading → List SegmentView → ℕ
known_height Salvage ps = if stripes_height ps == 0 then regions_height ps else stripes_height ps
known_height _ ps = stripes_height ps

unfoldable pub beginning_of : Reading → List SegmentView → Result InitialPage DecodeError
beginning_of reading ps = initial_page_by (known_height reading ps) ps

-- Salvage draws what is there of an immediate region whose data is cut off (our own rule).
abbrev pub drawn_part : Reading → Option SegmentView → Option SegmentView
drawn_part Salvage (Some p) = if is_immediate (region_type p.header.segment_type) then Some p else None
drawn_part _ _ = None

abbrev pub list_of : Option SegmentView → List SegmentView
list_of None = []
list_of (Some p) = p ∷ []

abbrev pub part_of_list : Reading → Option SegmentView → List SegmentView
part_of_list reading partial = list_of (drawn_part reading partial)

-- The segments of an embedded page in the order of their numbers.
abbrev pub page_segments : Reading → List ℕ → Result (List SegmentView) DecodeError
page_segments reading bytes =
    sequential reading bytes >>= λ ps. Ok (by_number (ps ++ part_of_list reading (sequence_partial reading bytes)))

-- An embedded page (D.3), as in PDF: its segments are read one after the other and sorted.
unfoldable pub page_from : Reading → Names → List ℕ → Result ReadPage DecodeError
page_from reading globals bytes = do
  segments ← page_segments reading bytes
  initial_page ← beginning_of reading segments
  Ok (record {
    reading = reading;
    initial_page = initial_page;
    segments = segments;
    globals = Ok globals;
    cut_off = sequence_cut_off reading bytes;
  })

-- On a page that is all of this colour, the operator gives the region's own pixels.
abbrev pub draws_over : CombinationOperator → Bool → Bool
draws_over Replace black = true
draws_over Or black = not black
draws_over Xor black = not black
draws_over And black = black
draws_over Xnor black = black

-- A page on which no immediate region was drawn is all of the colour that it began in.
abbrev pub UntouchedIsBlank : Type 0
UntouchedIsBlank = (reading : Reading) (globals : Names) (segments : List SegmentView) (initial_page : InitialPage)
    (d : Drawing)
    → segments_drawn reading globals segments (blank_page initial_page) ≡ Ok d → IsTrue d.untouched
    → d.grid ≡ blank initial_page.width initial_page.height initial_page.default_pixel

-- A page that is drawn has the size that it begins with.
abbrev pub PagesKeepTheirSize : Type 0
PagesKeepTheirSize = (page : ReadPage)
    → IfOk (grid_of_page page) (λ g. (g.width ≡ page.initial_page.width) × (g.height ≡ page.initial_page.height))
