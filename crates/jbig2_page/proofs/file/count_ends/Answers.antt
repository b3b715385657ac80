use Rattle.std.proofs.Common.{◌≡◌, ℕ, ◌+◌, ◌<◌, Bool, true, false, cond, List, length, drop, get_or, sym, ap, ◌∙◌, arith}
use Rattle.jbig2_framing.specs.inner.SegmentViews.{segment_views}
use Rattle.jbig2_framing.specs.declared.segment.Segment.{Segment}
use Rattle.jbig2_page.specs.Files.{ends_of, is_end_of_page}
use Rattle.jbig2_page.proofs.LeftLemmas.{left-first}
use Rattle.jbig2_page.proofs.file.count_ends.Goals as goal
use Rattle.jbig2_page.proofs.file.count_ends.Goals.{then-is_end_of_page, else-is_end_of_page}

ends-first : {A : Type 0} (segments : List (Segment A)) (i : ℕ) (segment : Segment A) (ends : Bool) → i < length segments → segment ≡ get_or segments i segment → is_end_of_page segment.header.segment_type ≡ ends → ends_of (segment_views (drop i segments)) ≡ cond ends 1 0 + ends_of (segment_views (drop (i + 1) segments))
ends-first segments i segment ends inside is kind =
    left-first (λ left. ends_of (segment_views left)) segments i segment inside is
    ∙ ap (λ (b : Bool). cond b 1 0 + ends_of (segment_views (drop (i + 1) segments))) kind

pub loop-segment-preserved : goal.loop-segment-preserved
loop-segment-preserved g c =
    let first = ends-first c.args.segments.now c.loop-segment.segment-index c.segment-item.result in
    elim c.if-is_end_of_page.branch [
      | then-is_end_of_page w ↦
          (let one = first true (omega arith) c.segment-item.is (sym c.is_end_of_page.ensures ∙ w.if-is_end_of_page.true) in
          record { counted = omega (arith, one, w.count-is, c.loop-segment.invariant.counted); small = omega (arith, w.count-is, c.loop-segment.invariant.small) })
      | else-is_end_of_page w ↦
          (let none = first false (omega arith) c.segment-item.is (sym c.is_end_of_page.ensures ∙ w.if-is_end_of_page.false) in
          record { counted = omega (arith, none, w.count-is, c.loop-segment.invariant.counted); small = omega (arith, w.count-is, c.loop-segment.invariant.small) })
    ]
