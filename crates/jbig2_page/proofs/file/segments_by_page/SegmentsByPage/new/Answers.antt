use Rattle.std.proofs.Common.{◌∙◌, List, Ok, ap, arith, inl, length, sym}
use Rattle.std.proofs.lemmas.List.{length-map}
use Rattle.std.specs.Vec.Iter.{into_iter_items}
use Rattle.jbig2_framing.specs.inner.SegmentViews.{segment_view, segment_views}
use Rattle.jbig2_framing.specs.Segment.{SegmentView}
use Rattle.jbig2_page.specs.Files.{by_pages}
use Rattle.jbig2_page.proofs.ByPages.{has-none, has-more, has-all}
use Rattle.jbig2_page.proofs.file.segments_by_page.SegmentsByPage.new.Goals as goal

pub loop-segment-init : goal.loop-segment-init
loop-segment-init g c =
    let gives = c.into_iter-segment-iterator.ensures.into_iter_gives in
    record {
      counted = gives.1 ∙ c.args.segments.ok.0 ∙ ap (λ xs. length xs) (sym gives.0);
      has = has-none _ _ _ c.new.ensures.items c.new-2.ensures.items c.new-3.ensures.empty (ap (λ xs. segment_views xs) gives.0);
    }

pub loop-segment-preserved : goal.loop-segment-preserved
loop-segment-preserved g c =
    let some = c.loop-segment.invariant.has in
    record {
      counted = omega (arith, c.loop-segment.invariant.counted, c.in-Some.ensures.steps.1, ap length c.in-Some.ensures.steps.0);
      has = has-more c.loop-segment.by_page _ (segment_view c.in-Some.segment) _ _ _ (ap (λ xs. segment_views xs) c.in-Some.ensures.steps.0) some (c.in-Ok.ensures some.came some.has);
    }

pub returns-in-Err : goal.returns-in-Err
returns-in-Err g c =
    let some = c.loop-segment.invariant.has in
    inl (c.in-Err.ensures some.came some.has)

pub returns : goal.returns
returns g c =
    let items = into_iter_items c.loop-segment.segment-iterator in
    let none = length-map items (λ s. segment_view s) ∙ sym c.loop-segment.invariant.counted ∙ c.in-None.ensures.steps.0 in
    let whole = has-all c.loop-segment.by_page (segment_views items) (segment_views c.args.segments.items) none c.loop-segment.invariant.has in
    ap (λ (shared : List SegmentView). Ok (shared, by_pages (segment_views c.args.segments.items))) whole.0
    ∙ ap (λ (pages : List (List SegmentView)). Ok (segment_views c.loop-segment.by_page.shared.items, pages)) whole.1
