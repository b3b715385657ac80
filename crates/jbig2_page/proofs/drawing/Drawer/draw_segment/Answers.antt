use Rattle.std.proofs.Common.{◌≡◌, true, false, Ok, refl, sym, ap, ◌∙◌}
use Rattle.jbig2_framing.specs.Reading.{is_strict}
use Rattle.jbig2_framing.specs.Segment.{SegmentView}
use Rattle.jbig2_framing.specs.inner.SegmentViews.{segment_view}
use Rattle.jbig2_framing.specs.declared.reading.Reading.{Reading}
use Rattle.jbig2_page.specs.Names.{Names}
use Rattle.jbig2_page.specs.Page.{Drawing, segment_by, segment_on}
use Rattle.jbig2_framing.specs.Segment.{is_partial}
use Rattle.jbig2_page.proofs.AgreeingPages.{segment-any}
use Rattle.jbig2_page.proofs.drawing.Drawer.draw_segment.Goals as goal

-- what strict reading draws has no fault, and every reading draws it
drawn : (reading : Reading) (globals : Names) (p : SegmentView) (d e : Drawing) → is_partial p ≡ false → segment_by true globals p d ≡ Ok e → segment_on reading globals p d ≡ Ok e
drawn reading globals p d e whole is = rw (whole, is, segment-any (is_strict reading) globals p d e is) refl

pub returns-in-Ok-clause-value : goal.returns-in-Ok-clause-value
returns-in-Ok-clause-value g c =
    let p = segment_view c.args.segment.now in
    let d : Drawing = c.args.canvas.now in
    let strictly = c.strictly.result in
    drawn c.args.self.now.reading c.args.self.now.globals.now p d c.try_segment.new.canvas (sym c.is_partial.ensures ∙ c.if-is_partial.false)
    (ap (λ (n : Names). segment_by true n p d) (sym c.strictly.ensures.globals)
    ∙ ap (λ (r : Reading). segment_by (is_strict r) strictly.globals.now p d) (sym c.strictly.ensures.reading)
    ∙ c.in-Ok.ensures.value)
