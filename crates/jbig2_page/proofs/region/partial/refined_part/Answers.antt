use Rattle.std.proofs.Common.{◌∙◌, arith}
use Rattle.jbig2_steps.proofs.WorkLemmas.{counts-worth}
use Rattle.jbig2_region.specs.inner.RefinementHeaderViews.{header_view}
use Rattle.jbig2_region.specs.inner.RegionViews.{region_view}
use Rattle.jbig2_page.proofs.Direct.{part-placed}
use Rattle.jbig2_page.proofs.RegionSizes.{refined_part-made}
use Rattle.jbig2_page.proofs.region.partial.refined_part.Goals as goal

pub returns-in_err-region-clause-paid : goal.returns-in_err-region-clause-paid
returns-in_err-region-clause-paid g c =
    let counted = counts-worth c.pay_bitmaps.new.self c.decode_part.new.steps _ c.decode_part.ensures.paid in
    omega (arith, counted, c.in_ok-pay_bitmaps.ensures.taken)

pub returns-clause-paid : goal.returns-clause-paid
returns-clause-paid g c =
    let counted = counts-worth c.pay_bitmaps.new.self c.decode_part.new.steps _ c.decode_part.ensures.paid in
    omega (arith, counted, c.in_ok-pay_bitmaps.ensures.taken)

pub returns-clause-value : goal.returns-clause-value
returns-clause-value g c =
    let h = header_view c.args.header.now in
    let region = c.in_ok-region.region in
    c.in_ok-region.ensures.value
    ∙ part-placed region h.region_info.width h.region_info.height (refined_part-made h (region_view c.args.reference.now) (region_view region) c.in_ok-region.ensures.value) c.requires.columns c.requires.rows
