use Rattle.std.proofs.Common.{◌≡◌, ◌++◌, true, false, List, ◌∙◌, ap, arith, inr, length, sym}
use Rattle.std.specs.Vec.Iter.{into_iter_items}
use Rattle.jbig2_framing.specs.Reading.{is_salvaged}
use Rattle.jbig2_framing.specs.inner.SegmentViews.{segment_views}
use Rattle.jbig2_page.proofs.Books.{left-made, left-more, page-left-out, page-made, page-refused, pages-begin, with_pages}
use Rattle.jbig2_page.specs.inner.ByPages.{pages_view}
use Rattle.jbig2_page.specs.Files.{PageInFile, pages_in_file, left_out_of}
use Rattle.jbig2_page.proofs.file.read_pages.Goals as goal

pub loop-own-init : goal.loop-own-init
loop-own-init g c =
    let gives = c.into_iter-own-iterator.ensures.into_iter_gives in
    let meant = pages_in_file c.args.reading (pages_view (into_iter_items c.into_iter-own-iterator.result)) in
    record {
      counted = gives.1 ∙ c.args.segments.ok.0 ∙ ap (λ xs. length xs) (sym gives.0);
      filed = ap (λ (front : List PageInFile). with_pages front meant) c.new-pages.ensures.items ∙ pages-begin meant ∙ ap (λ xs. pages_in_file c.args.reading (pages_view xs)) gives.0;
      left = ap (λ xs. c.args.left_out.now.items ++ left_out_of c.args.reading (pages_view xs)) gives.0;
    }

pub loop-own-preserved-in-Continue-1 : goal.loop-own-preserved-in-Continue-1
loop-own-preserved-in-Continue-1 g c =
    let steps = c.in-Some.ensures.steps in
    let own = segment_views c.in-Some.own.items in
    let others = pages_view (into_iter_items c.next.new.self) in
    let is = ap (λ xs. pages_view xs) steps.0 in
    record {
      counted = omega (arith, c.loop-own.invariant.counted, steps.1, ap length steps.0);
      filed = page-made c.loop-own.pages.items _ c.args.reading own _ others _ c.in-Ok.page c.in_ok-push-in-Ok.ensures.items is c.loop-own.invariant.filed c.in-Ok.ensures;
      left = left-made c.loop-own.left_out.items c.args.reading own _ others _ c.in-Ok.page is c.in-Ok.ensures c.loop-own.invariant.left;
    }

pub loop-own-preserved : goal.loop-own-preserved
loop-own-preserved g c =
    let steps = c.in-Some.ensures.steps in
    let own = segment_views c.in-Some.own.items in
    let others = pages_view (into_iter_items c.next.new.self) in
    let is = ap (λ xs. pages_view xs) steps.0 in
    let left : is_salvaged c.args.reading c.in-Err.error ≡ true = sym c.is_salvaged.ensures.value ∙ c.if-not-is_salvaged.false in
    record {
      counted = omega (arith, c.loop-own.invariant.counted, steps.1, ap length steps.0);
      filed = page-left-out c.loop-own.pages.items c.args.reading own _ others _ c.in-Err.error is c.loop-own.invariant.filed c.in-Err.ensures left;
      left = left-more c.loop-own.left_out.items _ c.args.reading own _ others _ c.in-Err.error c.in_ok-push-in-Err.ensures.items is c.in-Err.ensures c.loop-own.invariant.left;
    }

pub returns-then-not-is_salvaged-clause-value : goal.returns-then-not-is_salvaged-clause-value
returns-then-not-is_salvaged-clause-value g c =
    let others = pages_view (into_iter_items c.next.new.self) in
    let kept : is_salvaged c.args.reading c.in-Err.error ≡ false = sym c.is_salvaged.ensures.value ∙ c.if-not-is_salvaged.true in
    inr (page-refused c.loop-own.pages.items c.args.reading (segment_views c.in-Some.own.items) _ others _ c.in-Err.error (ap (λ xs. pages_view xs) c.in-Some.ensures.steps.0) c.loop-own.invariant.filed c.in-Err.ensures kept)
