use Rattle.std.proofs.Common.{◌∙◌, arith, false, inr}
use Rattle.std.proofs.lemmas.Result.{err_from_is_err_and}
use Rattle.jbig2_steps.proofs.WorkLemmas.{counts-worth}
use Rattle.jbig2_base.proofs.FillLemmas.{white-made}
use Rattle.jbig2_base.specs.Grid.{blank}
use Rattle.jbig2_halftone.specs.inner.DictionaryViews.{dictionary_view}
use Rattle.jbig2_halftone.specs.inner.HalftoneHeaderViews.{header_view}
use Rattle.jbig2_region.specs.inner.RegionViews.{region_view}
use Rattle.jbig2_page.proofs.Direct.{part-fits-placed}
use Rattle.jbig2_page.proofs.RegionSizes.{halftone_part-made, halftone_part-refused}
use Rattle.jbig2_page.proofs.region.partial.halftone_part.Goals as goal

pub returns-in_err-check_sides-clause-value : goal.returns-in_err-check_sides-clause-value
returns-in_err-check_sides-clause-value g c =
    let e = err_from_is_err_and c.from_residual.result c.from_residual.ensures.1 in
    rw (e.1, e.2) (inr (halftone_part-refused (header_view c.args.header.now) (dictionary_view c.args.patterns.now) c.in_err-check_sides.field-0.0 c.in_err-check_sides.ensures))

pub returns-in_err-region-clause-paid : goal.returns-in_err-region-clause-paid
returns-in_err-region-clause-paid g c =
    let counted = counts-worth c.pay_cells-2.new.work c.decode_part.new.steps _ c.decode_part.ensures.paid in
    omega (arith, counted, c.in_ok-pay_cells.ensures.taken, c.in_ok-pay_cells-2.ensures.taken, c.in_ok-pay_bitmap.ensures.taken)

pub returns-clause-paid : goal.returns-clause-paid
returns-clause-paid g c =
    let counted = counts-worth c.pay_cells-2.new.work c.decode_part.new.steps _ c.decode_part.ensures.paid in
    omega (arith, counted, c.in_ok-pay_cells.ensures.taken, c.in_ok-pay_cells-2.ensures.taken, c.in_ok-pay_bitmap.ensures.taken)

pub returns-clause-value : goal.returns-clause-value
returns-clause-value g c =
    let h = header_view c.args.header.now in
    let region = c.in_ok-region.region in
    let fits = (white-made h.region_info.width h.region_info.height false (blank h.region_info.width h.region_info.height false) c.in_ok-check_sides.ensures).0 in
    c.in_ok-region.ensures.value
    ∙ part-fits-placed region h.region_info.width h.region_info.height (halftone_part-made h (dictionary_view c.args.patterns.now) (region_view region) c.in_ok-region.ensures.value) fits
