-- The regions of a page (T.88, 7.4.3 and 7.4.5 to 7.4.7): what each kind of region decodes to, a grid of its own at a
-- place. `Page` says whether it is then drawn or kept.
use Rattle.std.specs.Prelude.{ℕ, Bool, false, ◌&&◌, not, if◌then◌else◌, is_none, List, [], ◌∷◌, length, Option}
use Rattle.std.specs.Prelude.{None, unwrap_or, Result, Ok}
use Rattle.jbig2_base.specs.Results.{refuse_if, some_or, ◌>>=◌}
use Rattle.jbig2_base.specs.Grid.{Grid, part_of}
use Rattle.jbig2_framing.specs.Segment.{SegmentView, is_partial}
use Rattle.jbig2_base.specs.declared.error.DecodeError.{DecodeError}
use Rattle.jbig2_base.specs.declared.error.DecodeError.TheVariants.{Segment}
use Rattle.jbig2_base.specs.declared.error.SegmentError.TheVariants.{InvalidReference, MissingPatternDictionary}
use Rattle.jbig2_region.specs.RegionInfo.{PlacedRegion, at_location}
use Rattle.jbig2_region.specs.Generic.{generic_decoded}
use Rattle.jbig2_region.specs.GenericHeader.{GenericHeader, generic_header_at}
use Rattle.jbig2_region.specs.Refinement.{refined_decoded}
use Rattle.jbig2_region.specs.RefinementHeader.{refinement_header_at}
use Rattle.jbig2_region.specs.WholeRows.{refined_part, whole_generic_rows}
use Rattle.jbig2_region.specs.declared.region_info.RegionSegmentInfo.{RegionSegmentInfo}
use Rattle.jbig2_halftone.specs.Halftone.{halftone_decoded}
use Rattle.jbig2_halftone.specs.HalftoneHeader.{halftone_header_at}
use Rattle.jbig2_halftone.specs.Patterns.{Patterns}
use Rattle.jbig2_halftone.specs.WholeCells.{halftone_part}
use Rattle.jbig2_coder.specs.PrefixCode.{Member}
use Rattle.jbig2_text.specs.TextHeader.{TextHeader, text_header_at}
use Rattle.jbig2_text.specs.TextRegion.{text_decoded}
use Rattle.jbig2_text.specs.WholeInstances.{whole_instances}
use Rattle.jbig2_page.specs.Names.{Names, first_kept, kept_of, referred_by}
use Rattle.jbig2_page.specs.declared.kept.Kept.{Kept}

-- A text region whose data is cut off ends after its whole instances (our own rule).
abbrev pub with_whole_instances : Bool → TextHeader → List Grid → List (List Member) → TextHeader
with_whole_instances partial h symbols customs =
    let lenient : TextHeader = record h { strict = false } in
    if partial then record lenient { instances = whole_instances lenient symbols customs } else h

-- A text region (7.4.3), after what it refers to.
unfoldable pub text_at : Bool → Names → Names → SegmentView → Result PlacedRegion DecodeError
text_at strict own shared p = do
  referred ← referred_by strict own shared p.header.referred_to_segments
  (header, rest) ← text_header_at (length referred.symbols) strict p.bytes
  text_decoded (with_whole_instances (is_partial p) header referred.symbols referred.codes) referred.symbols referred.codes

-- The pattern dictionary that the first of a halftone region's numbers names (7.4.5).
abbrev pub patterns_for : Names → Names → List ℕ → Option Patterns
patterns_for own shared [] = None
patterns_for own shared (number ∷ numbers) = kept_of number own.patterns shared.patterns

-- A halftone region (7.4.5), drawn with the patterns that it refers to. One whose data is cut off is drawn in part (our
-- own rule).
unfoldable pub halftone_at : Bool → Names → Names → SegmentView → Result PlacedRegion DecodeError
halftone_at strict own shared p = do
  patterns ← some_or (Segment MissingPatternDictionary) (patterns_for own shared p.header.referred_to_segments)
  (header, rest) ← halftone_header_at strict p.bytes
  if is_partial p then halftone_part header patterns else halftone_decoded header patterns

-- A generic region whose data is cut off ends after its whole rows (our own rule).
abbrev pub with_whole_rows : Bool → GenericHeader → GenericHeader
with_whole_rows partial h =
    if partial then record h { region_info = record h.region_info { height = whole_generic_rows h } } else h

-- A generic region (7.4.6). Where an immediate one has an unknown length, its last four bytes are the number of its
-- rows. An intermediate one is no special case: the row count stays in its data.
unfoldable pub generic_at : Bool → Bool → SegmentView → Result PlacedRegion DecodeError
generic_at strict is_intermediate p = do
  (header, rest) ← generic_header_at (not is_intermediate && is_none p.header.data_length) strict p.bytes
  generic_decoded (with_whole_rows (is_partial p) header)

-- The region that a refinement's first number names, if it has one. Strict reading refuses a number that names none.
abbrev pub referred_region : Bool → List ℕ → List (Kept PlacedRegion) → Result (Option PlacedRegion) DecodeError
referred_region strict [] regions = Ok None
referred_region strict (number ∷ others) regions = do
  known ← refuse_if (strict && is_none (first_kept number regions)) (Segment InvalidReference)
  Ok (first_kept number regions)

-- The area of the page that a region covers, white outside the page.
abbrev pub page_area : Grid → RegionSegmentInfo → PlacedRegion
page_area page info =
    at_location info (part_of page (record {
      left = info.x_location;
      top = info.y_location;
      width = info.width;
      height = info.height;
    }))

-- A refinement (7.4.7) of the region that it refers to, or else of the page's area (7.4.7.4). Strict reading refuses an
-- intermediate one that refers to no region. One whose data is cut off is refined in part (our own rule).
unfoldable pub refinement_at : Bool → Bool → Grid → List (Kept PlacedRegion) → SegmentView
    → Result PlacedRegion DecodeError
refinement_at strict is_intermediate page regions p = do
  referred ← referred_region strict p.header.referred_to_segments regions
  known ← refuse_if (strict && is_intermediate && is_none referred) (Segment InvalidReference)
  (header, rest) ← refinement_header_at p.bytes
  let from = unwrap_or referred (page_area page header.region_info)
  if is_partial p then refined_part header from else refined_decoded header from
