use Rattle.std.proofs.Common.{◌≡◌, drop, max}
use Rattle.jbig2_framing.specs.PageInfo.{stripes_height}
use Rattle.jbig2_framing.specs.inner.SegmentViews.{segment_views}
use Rattle.jbig2_framing.proofs.page_info.stripes_height.Given as goal

abbrev pub invariant-loop-segment : goal.invariant-loop-segment
invariant-loop-segment g l = max l.height (stripes_height (segment_views (drop l.segment-index l.segments))) ≡ stripes_height (segment_views l.segments)
