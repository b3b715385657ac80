use Rattle.std.proofs.Common.{◌≡◌, ℕ, ◌+◌, ◌<◌, ◌≤◌, true, false, List, length, drop, get_or, Result, Ok, inl, inr, ⊎_elim, sym, ap, subst, ◌∙◌, arith}
use Rattle.std.specs.Prelude.{IfOk}
use Rattle.std.proofs.lemmas.Bool.{cond-false, cond-true}
use Rattle.jbig2_base.specs.Results.{◌>>=◌}
use Rattle.jbig2_framing.specs.inner.SegmentViews.{segment_view, segment_views}
use Rattle.jbig2_base.specs.declared.error.DecodeError.{DecodeError}
use Rattle.jbig2_base.specs.declared.error.DecodeError.TheVariants.{OutOfMemory}
use Rattle.jbig2_framing.specs.declared.reading.Reading.{Reading}
use Rattle.jbig2_framing.specs.declared.segment.Segment.{Segment}
use Rattle.jbig2_page.specs.Names.{Names}
use Rattle.jbig2_page.specs.Page.{Drawing, ends_page, segment_on, segments_drawn}
use Rattle.jbig2_page.specs.SegmentPrices.{drawn_count}
use Rattle.jbig2_page.proofs.DrawingSteps.{counts-on}
use Rattle.jbig2_page.proofs.LeftLemmas.{left-first}
use Rattle.jbig2_page.proofs.drawing.Drawer.draw_segments.Goals as goal

-- a segment that ends no page is drawn before the others
drawn-first : {A : Type 0} (reading : Reading) (globals : Names) (segments : List (Segment A)) (i : ℕ) (segment : Segment A) (d : Drawing) → i < length segments → segment ≡ get_or segments i segment → ends_page segment.header.segment_type ≡ false → segments_drawn reading globals (segment_views (drop i segments)) d ≡ (segment_on reading globals (segment_view segment) d >>= λ e. segments_drawn reading globals (segment_views (drop (i + 1) segments)) e)
drawn-first reading globals segments i segment d inside is goes_on =
    left-first (λ left. segments_drawn reading globals (segment_views left) d) segments i segment inside is
    ∙ cond-false (ends_page segment.header.segment_type) (Ok d) (segment_on reading globals (segment_view segment) d >>= λ e. segments_drawn reading globals (segment_views (drop (i + 1) segments)) e) goes_on

drawn-end : {A : Type 0} (reading : Reading) (globals : Names) (segments : List (Segment A)) (i : ℕ) (segment : Segment A) (d : Drawing) → i < length segments → segment ≡ get_or segments i segment → ends_page segment.header.segment_type ≡ true → segments_drawn reading globals (segment_views (drop i segments)) d ≡ Ok d
drawn-end reading globals segments i segment d inside is ends =
    left-first (λ left. segments_drawn reading globals (segment_views left) d) segments i segment inside is
    ∙ cond-true (ends_page segment.header.segment_type) (Ok d) (segment_on reading globals (segment_view segment) d >>= λ e. segments_drawn reading globals (segment_views (drop (i + 1) segments)) e) ends

-- it is one of those that are paid for
count-first : {A : Type 0} (segments : List (Segment A)) (i : ℕ) (segment : Segment A) → i < length segments → segment ≡ get_or segments i segment → ends_page segment.header.segment_type ≡ false → drawn_count (segment_views (drop i segments)) ≡ 1 + drawn_count (segment_views (drop (i + 1) segments))
count-first segments i segment inside is goes_on =
    left-first (λ left. drawn_count (segment_views left)) segments i segment inside is
    ∙ cond-false (ends_page segment.header.segment_type) 0 (1 + drawn_count (segment_views (drop (i + 1) segments))) goes_on

count-end : {A : Type 0} (segments : List (Segment A)) (i : ℕ) (segment : Segment A) → i < length segments → segment ≡ get_or segments i segment → ends_page segment.header.segment_type ≡ true → drawn_count (segment_views (drop i segments)) ≡ 0
count-end segments i segment inside is ends =
    left-first (λ left. drawn_count (segment_views left)) segments i segment inside is
    ∙ cond-true (ends_page segment.header.segment_type) 0 (1 + drawn_count (segment_views (drop (i + 1) segments))) ends

pub loop-segment-preserved : goal.loop-segment-preserved
loop-segment-preserved g c =
    let i = c.loop-segment.segment-index in
    let more : c.draw_segment.new.canvas.passed_over.count ≤ c.loop-segment.canvas.passed_over.count + 1 =
    subst (λ (r : Result Drawing DecodeError). IfOk r (λ e. e.passed_over.count ≤ c.loop-segment.canvas.passed_over.count + 1)) c.in-Ok.ensures.value
    (counts-on c.args.self.now.reading c.args.self.now.globals.now (segment_view c.segment-item.result) c.loop-segment.canvas) in
    record {
      drawn =
          sym
          (drawn-first c.args.self.now.reading c.args.self.now.globals.now c.args.segments.now i c.segment-item.result c.loop-segment.canvas (omega arith) c.segment-item.is (sym c.ends_page.ensures ∙ c.if-ends_page.false)
          ∙ ap (λ drawn. drawn >>= λ e. segments_drawn c.args.self.now.reading c.args.self.now.globals.now (segment_views (drop (i + 1) c.args.segments.now)) e) c.in-Ok.ensures.value)
          ∙ c.loop-segment.invariant.drawn;
      paid = omega (arith, c.in_ok-pay_segment.ensures.taken, c.in-Ok.ensures.paid, c.loop-segment.invariant.paid);
      counted =
          omega (
            arith,
            c.loop-segment.invariant.counted,
            count-first c.args.segments.now i c.segment-item.result (omega arith) c.segment-item.is (sym c.ends_page.ensures ∙ c.if-ends_page.false),
          );
      few = omega (arith, more, c.loop-segment.invariant.few);
    }

pub returns-then-ends_page-clause-value : goal.returns-then-ends_page-clause-value
returns-then-ends_page-clause-value g c =
    sym c.loop-segment.invariant.drawn
    ∙ drawn-end c.args.self.now.reading c.args.self.now.globals.now c.args.segments.now c.loop-segment.segment-index c.segment-item.result c.loop-segment.canvas (omega arith) c.segment-item.is (sym c.ends_page.ensures ∙ c.if-ends_page.true)

pub returns-in-Err-clause-value : goal.returns-in-Err-clause-value
returns-in-Err-clause-value g c =
    let i = c.loop-segment.segment-index in
    ⊎_elim
    (λ (memory : c.in-Err.error ≡ OutOfMemory). inl memory)
    (λ refused.
    inr
    (sym c.loop-segment.invariant.drawn
    ∙ drawn-first c.args.self.now.reading c.args.self.now.globals.now c.args.segments.now i c.segment-item.result c.loop-segment.canvas (omega arith) c.segment-item.is (sym c.ends_page.ensures ∙ c.if-ends_page.false)
    ∙ ap (λ drawn. drawn >>= λ e. segments_drawn c.args.self.now.reading c.args.self.now.globals.now (segment_views (drop (i + 1) c.args.segments.now)) e) refused))
    c.in-Err.ensures.value

pub returns-then-ends_page-clause-taken : goal.returns-then-ends_page-clause-taken
returns-then-ends_page-clause-taken g c =
    omega (
      arith,
      c.loop-segment.invariant.counted,
      c.loop-segment.invariant.paid,
      count-end c.args.segments.now c.loop-segment.segment-index c.segment-item.result (omega arith) c.segment-item.is (sym c.ends_page.ensures ∙ c.if-ends_page.true),
    )
