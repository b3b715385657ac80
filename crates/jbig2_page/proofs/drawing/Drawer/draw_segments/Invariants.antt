use Rattle.std.proofs.Common.{◌≡◌, ◌+◌, ◌*◌, ◌≤◌, drop}
use Rattle.jbig2_framing.specs.inner.SegmentViews.{segment_views}
use Rattle.jbig2_steps.specs.Work.{budget}
use Rattle.jbig2_steps.specs.declared.prices.TheConstants as prices
use Rattle.jbig2_page.specs.Page.{segments_drawn}
use Rattle.jbig2_page.specs.SegmentPrices.{drawn_count}
use Rattle.jbig2_page.proofs.drawing.Drawer.draw_segments.Given as goal

abbrev pub invariant-loop-segment : goal.invariant-loop-segment
invariant-loop-segment g l = record {
  drawn : segments_drawn l.self.reading l.self.globals.now (segment_views (drop l.segment-index l.segments)) l.canvas
      ≡ segments_drawn l.self.reading l.self.globals.now (segment_views l.segments) l.fn.canvas;
  paid : budget l.work + 32 * (prices.SEGMENT * l.segment-index) ≤ budget l.fn.work;
  counted : l.segment-index + drawn_count (segment_views (drop l.segment-index l.segments)) ≡ drawn_count (segment_views l.segments);
  few : l.canvas.passed_over.count ≤ l.segment-index;
}
