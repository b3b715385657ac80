use Rattle.std.proofs.Common.{false, Result, ap, arith}
use Rattle.jbig2_framing.specs.Reading.{is_strict}
use Rattle.jbig2_framing.specs.inner.SegmentViews.{segment_view}
use Rattle.jbig2_base.specs.declared.error.DecodeError.{DecodeError}
use Rattle.jbig2_page.specs.Page.{Drawing, immediate, region_at, with_drawn_region}
use Rattle.jbig2_page.specs.declared.passed_over.PassedOver.{PassedOver}
use Rattle.jbig2_page.proofs.Direct.{drawn-either, passed}
use Rattle.jbig2_page.proofs.drawing.Drawer.draw_region.Goals as goal

pub returns-in-Ok-clause-value : goal.returns-in-Ok-clause-value
unfolding immediate
returns-in-Ok-clause-value g c =
    let d : Drawing = c.args.canvas.now in
    let meant : Result Drawing DecodeError = with_drawn_region d (region_at (is_strict c.args.self.now.reading) c.args.self.now.globals.now c.args.kind false (segment_view c.args.segment.now) d) in
    drawn-either (is_strict c.args.self.now.reading) (segment_view c.args.segment.now) d c.try_region.new.canvas meant c.in-Ok.ensures.value

pub returns-in-Err-clause-value : goal.returns-in-Err-clause-value
unfolding immediate
returns-in-Err-clause-value g c =
    let d : Drawing = c.args.canvas.now in
    let meant : Result Drawing DecodeError = with_drawn_region d (region_at (is_strict c.args.self.now.reading) c.args.self.now.globals.now c.args.kind false (segment_view c.args.segment.now) d) in
    passed (is_strict c.args.self.now.reading) (segment_view c.args.segment.now) d c.try_region.new.canvas c.pass_over.new.canvas meant c.in-Err.error _
    c.in-Err.ensures.value c.in-Err.ensures.err c.pass_over.ensures.memory c.pass_over.ensures.value

pub pass_over-requires : goal.pass_over-requires
pass_over-requires g c = omega (arith, c.requires, ap (λ (p : PassedOver). p.count) c.in-Err.ensures.passed)
