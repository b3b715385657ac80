-- What a segment of a page gives, by its type.
use Rattle.std.proofs.Common.{ℕ, Bool, List, Result}
use Rattle.jbig2_framing.specs.Segment.{Header, SegmentView}
use Rattle.jbig2_base.specs.declared.error.DecodeError.{DecodeError}
use Rattle.jbig2_framing.specs.declared.segment.SegmentType.{SegmentType}
use Rattle.jbig2_framing.specs.declared.segment.SegmentType.TheVariants as types
use Rattle.jbig2_page.specs.Names.{Names, kept_by}
use Rattle.jbig2_page.specs.Page.{Drawing, immediate, intermediate, with_names, segment_by}
use Rattle.jbig2_page.specs.declared.region.RegionKind.{RegionKind}
use Rattle.jbig2_page.specs.declared.region.RegionKind.TheVariants as kinds

-- one with this header but for its type
abbrev pub of_type : SegmentType → Header → List ℕ → SegmentView
of_type kind h bytes = record { header = record h { segment_type = kind }; bytes = bytes }

-- P of what is drawn or kept, whatever the segment is
pub record OfEach (P : Result Drawing DecodeError → Type 0) (strict : Bool) (globals : Names) (d : Drawing) : Type 0 where
  pub kept : (kind : RegionKind) (p : SegmentView) → P (intermediate strict globals kind p d)
  pub shown : (kind : RegionKind) (p : SegmentView) → P (immediate strict globals kind p d)
  pub nothing : (p : SegmentView) → P (with_names d (kept_by strict globals p d.names))

by-type : (P : Result Drawing DecodeError → Type 0) (strict : Bool) (globals : Names) (kind : SegmentType) (h : Header) (bytes : List ℕ) (d : Drawing) → OfEach P strict globals d → P (segment_by strict globals (of_type kind h bytes) d)
by-type P strict globals types.IntermediateTextRegion h bytes d of = of.kept kinds.Text (of_type types.IntermediateTextRegion h bytes)
by-type P strict globals types.ImmediateTextRegion h bytes d of = of.shown kinds.Text (of_type types.ImmediateTextRegion h bytes)
by-type P strict globals types.ImmediateLosslessTextRegion h bytes d of = of.shown kinds.Text (of_type types.ImmediateLosslessTextRegion h bytes)
by-type P strict globals types.IntermediateHalftoneRegion h bytes d of = of.kept kinds.Halftone (of_type types.IntermediateHalftoneRegion h bytes)
by-type P strict globals types.ImmediateHalftoneRegion h bytes d of = of.shown kinds.Halftone (of_type types.ImmediateHalftoneRegion h bytes)
by-type P strict globals types.ImmediateLosslessHalftoneRegion h bytes d of = of.shown kinds.Halftone (of_type types.ImmediateLosslessHalftoneRegion h bytes)
by-type P strict globals types.IntermediateGenericRegion h bytes d of = of.kept kinds.Generic (of_type types.IntermediateGenericRegion h bytes)
by-type P strict globals types.ImmediateGenericRegion h bytes d of = of.shown kinds.Generic (of_type types.ImmediateGenericRegion h bytes)
by-type P strict globals types.ImmediateLosslessGenericRegion h bytes d of = of.shown kinds.Generic (of_type types.ImmediateLosslessGenericRegion h bytes)
by-type P strict globals types.IntermediateGenericRefinementRegion h bytes d of = of.kept kinds.GenericRefinement (of_type types.IntermediateGenericRefinementRegion h bytes)
by-type P strict globals types.ImmediateGenericRefinementRegion h bytes d of = of.shown kinds.GenericRefinement (of_type types.ImmediateGenericRefinementRegion h bytes)
by-type P strict globals types.ImmediateLosslessGenericRefinementRegion h bytes d of = of.shown kinds.GenericRefinement (of_type types.ImmediateLosslessGenericRefinementRegion h bytes)
by-type P strict globals kind h bytes d of = of.nothing (of_type kind h bytes)

-- so of every segment
pub of-segment : (P : Result Drawing DecodeError → Type 0) (strict : Bool) (globals : Names) (p : SegmentView) (d : Drawing) → OfEach P strict globals d → P (segment_by strict globals p d)
of-segment P strict globals p d of = by-type P strict globals p.header.segment_type p.header p.bytes d of
