use Rattle.std.proofs.Common.{◌≡◌, drop, max}
use Rattle.jbig2_framing.specs.inner.SegmentViews.{segment_views}
use Rattle.jbig2_page.specs.Page.{regions_height}
use Rattle.jbig2_page.proofs.page.beginning.regions_height.Given as goal

abbrev pub invariant-loop-segment : goal.invariant-loop-segment
invariant-loop-segment g l = max l.height (regions_height (segment_views (drop l.segment-index l.segments))) ≡ regions_height (segment_views l.segments)
