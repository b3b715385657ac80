use Rattle.std.proofs.Common.{◌≡◌, ◌+◌, ◌*◌, ◌≤◌, drop}
use Rattle.jbig2_framing.specs.inner.SegmentViews.{segment_views}
use Rattle.jbig2_steps.specs.Work.{budget}
use Rattle.jbig2_steps.specs.declared.prices.TheConstants as prices
use Rattle.jbig2_page.specs.Globals.{nothing_shared, shared_from}
use Rattle.jbig2_page.proofs.globals.GlobalsContent.of_segments.Given as goal

abbrev pub invariant-loop-segment : goal.invariant-loop-segment
invariant-loop-segment g l = record {
  named : shared_from l.reading (segment_views (drop l.segment-index l.segments)) l.globals ≡ shared_from l.reading (segment_views l.segments) (nothing_shared l.fn.cut_off);
  paid : budget l.work + 32 * (prices.SEGMENT * l.segment-index) ≤ budget l.fn.work;
  few : l.globals.passed_over.count ≤ l.segment-index;
}
