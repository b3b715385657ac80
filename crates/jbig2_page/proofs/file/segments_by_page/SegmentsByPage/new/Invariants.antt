use Rattle.std.proofs.Common.{◌≡◌, length}
use Rattle.std.specs.Vec.Iter.{into_iter_items, into_iter_len}
use Rattle.jbig2_framing.specs.inner.SegmentViews.{segment_views}
use Rattle.jbig2_page.proofs.ByPages.{HasSomeSegments}
use Rattle.jbig2_page.proofs.file.segments_by_page.SegmentsByPage.new.Given as goal

abbrev pub invariant-loop-segment : goal.invariant-loop-segment
invariant-loop-segment g l = record {
  counted : into_iter_len l.segment-iterator ≡ length (into_iter_items l.segment-iterator);
  has : HasSomeSegments l.by_page (segment_views (into_iter_items l.segment-iterator)) (segment_views l.fn.segments.items);
}
