-- What a segment of a page gives, by its type.
use Rattle.std.proofs.Common.{ℕ, Bool, true, false, List, Option, Some, None, Result, Ok}
use Rattle.jbig2_base.specs.Results.{◌>>=◌}
use Rattle.jbig2_base.specs.declared.error.DecodeError.{DecodeError}
use Rattle.jbig2_framing.specs.Segment.{Header, SegmentView}
use Rattle.jbig2_framing.specs.declared.segment.SegmentType.{SegmentType}
use Rattle.jbig2_framing.specs.declared.segment.SegmentType.TheVariants as types
use Rattle.jbig2_region.specs.RegionInfo.{PlacedRegion}
use Rattle.jbig2_page.specs.Names.{Names, kept_by}
use Rattle.jbig2_page.specs.Page.{Drawing, immediate, intermediate, or_passed_over, segment_by, with_drawn_region, with_names, with_region}
use Rattle.jbig2_page.specs.Regions.{generic_at, halftone_at, refinement_at, text_at}
use Rattle.jbig2_page_laws.specs.PagePixels.{region_of_segment}

-- one with this header but for its type
abbrev pub of_type : SegmentType → Header → List ℕ → SegmentView
of_type kind h bytes = record { header = record h { segment_type = kind }; bytes = bytes }

abbrev pub stored : SegmentView → Drawing → Result PlacedRegion DecodeError → Result Drawing DecodeError
stored p d r = r >>= λ region. Ok (with_region p.header.segment_number d region)

abbrev pub shown : Bool → SegmentView → Drawing → Result PlacedRegion DecodeError → Result Drawing DecodeError
shown strict p d r = or_passed_over strict p d (with_drawn_region d r)

-- P of a segment's region, if it is one, and of what is drawn or kept
pub record OfEachType (strict : Bool) (globals : Names) (d : Drawing) (P : Option (Bool × Result PlacedRegion DecodeError) → Result Drawing DecodeError → Type 0) : Type 0 where
  pub kept : (p : SegmentView) (r : Result PlacedRegion DecodeError) → P (Some (true, r)) (stored p d r)
  pub drawn : (p : SegmentView) (r : Result PlacedRegion DecodeError) → P (Some (false, r)) (shown strict p d r)
  pub nothing : (p : SegmentView) → P None (with_names d (kept_by strict globals p d.names))

module _ (strict : Bool) (globals : Names) (d : Drawing) (P : Option (Bool × Result PlacedRegion DecodeError) → Result Drawing DecodeError → Type 0) (of : OfEachType strict globals d P) where
  by-type : (kind : SegmentType) (h : Header) (bytes : List ℕ) → P (region_of_segment strict globals (of_type kind h bytes) d) (segment_by strict globals (of_type kind h bytes) d)
  unfolding immediate intermediate
  by-type types.IntermediateTextRegion h bytes = of.kept (of_type types.IntermediateTextRegion h bytes) (text_at strict d.names globals (of_type types.IntermediateTextRegion h bytes))
  by-type types.ImmediateTextRegion h bytes = of.drawn (of_type types.ImmediateTextRegion h bytes) (text_at strict d.names globals (of_type types.ImmediateTextRegion h bytes))
  by-type types.ImmediateLosslessTextRegion h bytes = of.drawn (of_type types.ImmediateLosslessTextRegion h bytes) (text_at strict d.names globals (of_type types.ImmediateLosslessTextRegion h bytes))
  by-type types.IntermediateHalftoneRegion h bytes = of.kept (of_type types.IntermediateHalftoneRegion h bytes) (halftone_at strict d.names globals (of_type types.IntermediateHalftoneRegion h bytes))
  by-type types.ImmediateHalftoneRegion h bytes = of.drawn (of_type types.ImmediateHalftoneRegion h bytes) (halftone_at strict d.names globals (of_type types.ImmediateHalftoneRegion h bytes))
  by-type types.ImmediateLosslessHalftoneRegion h bytes = of.drawn (of_type types.ImmediateLosslessHalftoneRegion h bytes) (halftone_at strict d.names globals (of_type types.ImmediateLosslessHalftoneRegion h bytes))
  by-type types.IntermediateGenericRegion h bytes = of.kept (of_type types.IntermediateGenericRegion h bytes) (generic_at strict true (of_type types.IntermediateGenericRegion h bytes))
  by-type types.ImmediateGenericRegion h bytes = of.drawn (of_type types.ImmediateGenericRegion h bytes) (generic_at strict false (of_type types.ImmediateGenericRegion h bytes))
  by-type types.ImmediateLosslessGenericRegion h bytes = of.drawn (of_type types.ImmediateLosslessGenericRegion h bytes) (generic_at strict false (of_type types.ImmediateLosslessGenericRegion h bytes))
  by-type types.IntermediateGenericRefinementRegion h bytes = of.kept (of_type types.IntermediateGenericRefinementRegion h bytes) (refinement_at strict true d.grid d.regions (of_type types.IntermediateGenericRefinementRegion h bytes))
  by-type types.ImmediateGenericRefinementRegion h bytes = of.drawn (of_type types.ImmediateGenericRefinementRegion h bytes) (refinement_at strict false d.grid d.regions (of_type types.ImmediateGenericRefinementRegion h bytes))
  by-type types.ImmediateLosslessGenericRefinementRegion h bytes = of.drawn (of_type types.ImmediateLosslessGenericRefinementRegion h bytes) (refinement_at strict false d.grid d.regions (of_type types.ImmediateLosslessGenericRefinementRegion h bytes))
  by-type kind h bytes = of.nothing (of_type kind h bytes)

  pub of-segment-type : (p : SegmentView) → P (region_of_segment strict globals p d) (segment_by strict globals p d)
  of-segment-type p = by-type p.header.segment_type p.header p.bytes
