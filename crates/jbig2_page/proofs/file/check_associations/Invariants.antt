use Rattle.std.proofs.Common.{◌≡◌, drop}
use Rattle.jbig2_framing.specs.inner.SegmentViews.{segment_views}
use Rattle.jbig2_page.specs.Files.{association_check}
use Rattle.jbig2_page.proofs.file.check_associations.Given as goal

abbrev pub invariant-loop-segment : goal.invariant-loop-segment
invariant-loop-segment g l = association_check l.strict (segment_views (drop l.segment-index l.segments)) ≡ association_check l.strict (segment_views l.segments)
