use Rattle.std.proofs.Common.{◌∙◌, sym, arith}
use Rattle.std.proofs.lemmas.Bool.{cond-false, cond-true}
use Rattle.jbig2_framing.specs.inner.SegmentViews.{header_view, segment_views}
use Rattle.jbig2_page.specs.Files.{association_check, lacks_page}
use Rattle.jbig2_page.proofs.LeftLemmas.{left-first}
use Rattle.jbig2_page.proofs.file.check_associations.Goals as goal

pub loop-segment-preserved : goal.loop-segment-preserved
loop-segment-preserved g c =
    let segment = c.segment-item.result in
    sym
    (left-first (λ left. association_check c.args.strict (segment_views left)) c.args.segments.now c.loop-segment.segment-index segment (omega arith) c.segment-item.is
    ∙ cond-false (lacks_page c.args.strict (header_view segment.header)) _ _ (sym c.lacks_page.ensures ∙ c.if-lacks_page.false))
    ∙ c.loop-segment.invariant

pub returns-then-lacks_page : goal.returns-then-lacks_page
returns-then-lacks_page g c =
    let segment = c.segment-item.result in
    rw c.into.ensures
    (sym c.loop-segment.invariant
    ∙ left-first (λ left. association_check c.args.strict (segment_views left)) c.args.segments.now c.loop-segment.segment-index segment (omega arith) c.segment-item.is
    ∙ cond-true (lacks_page c.args.strict (header_view segment.header)) _ _ (sym c.lacks_page.ensures ∙ c.if-lacks_page.true))
