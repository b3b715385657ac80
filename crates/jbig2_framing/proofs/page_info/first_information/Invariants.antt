use Rattle.std.proofs.Common.{◌≡◌, drop}
use Rattle.jbig2_framing.specs.PageInfo.{first_information}
use Rattle.jbig2_framing.specs.inner.SegmentViews.{segment_views}
use Rattle.jbig2_framing.proofs.page_info.first_information.Given as goal

abbrev pub invariant-loop-segment : goal.invariant-loop-segment
invariant-loop-segment g l = first_information (segment_views (drop l.segment-index l.segments)) ≡ first_information (segment_views l.segments)
