use Rattle.std.proofs.Common.{rules, Ok, sym, ◌∙◌, ap}
use Rattle.std.proofs.lemmas.List.Sorted.{IsNonDecreasingBy-from_sort_by_key, answers_always}
use Rattle.jbig2_framing.specs.Segment.{SegmentView}
use Rattle.jbig2_framing.specs.inner.SegmentViews.{segment_views, segment_view}
use Rattle.jbig2_framing.proofs.Sorting.{stable_sort, map_sorted}
use Rattle.jbig2_framing.proofs.sort.sort_segments.Goals as goal

pub returns-clause-value : goal.returns-clause-value
returns-clause-value g c =
    let old = c.args.segments.now.items in
    let new = c.sort_by_key.new.self.items in
    let up = IsNonDecreasingBy-from_sort_by_key (λ s. s.header.segment_number) _ c.in_ok-sort_by_key.ensures.sorted (λ a r q k. search rules) in
    let stable = c.sort_by_key.ensures.stable (λ s. s.header.segment_number) (answers_always _ _ _ (λ f a r g h. search rules)) in
    ap (λ ps. Ok ps) (sym (ap segment_views (stable_sort (λ s. s.header.segment_number) old new up stable) ∙ map_sorted (λ s. segment_view s) (λ (p : SegmentView). p.header.segment_number) old))
