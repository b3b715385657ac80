use Rattle.std.proofs.Common.{◌≡◌, ◌+◌, ◌≤◌, drop}
use Rattle.jbig2_framing.specs.inner.SegmentViews.{segment_views}
use Rattle.jbig2_page.specs.Files.{ends_of}
use Rattle.jbig2_page.proofs.file.count_ends.Given as goal

abbrev pub invariant-loop-segment : goal.invariant-loop-segment
invariant-loop-segment g l = record {
  counted : l.count + ends_of (segment_views (drop l.segment-index l.segments)) ≡ ends_of (segment_views l.segments);
  small : l.count ≤ l.segment-index;
}
