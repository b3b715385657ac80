use Rattle.std.proofs.Common.{subst}
use Rattle.jbig2_steps.specs.Work.{CountsWithin}
use Rattle.jbig2_halftone.specs.GrayScale.{GrayScale}
use Rattle.jbig2_halftone.specs.HalftoneHeader.{HalftoneHeader}
use Rattle.jbig2_halftone.specs.Patterns.{Patterns}
use Rattle.jbig2_halftone.specs.Steps.{price_of_image}
use Rattle.jbig2_halftone.specs.inner.DictionaryViews.{dictionary_view}
use Rattle.jbig2_halftone.specs.inner.HalftoneHeaderViews.{header_view}
use Rattle.jbig2_halftone.proofs.WholeCellPrices.{counted-paid, mask-paid}
use Rattle.jbig2_halftone.proofs.halftone.part.whole_rows.Goals as goal

pub returns-clause-paid : goal.returns-clause-paid
returns-clause-paid g c =
    let h : HalftoneHeader = header_view c.args.header.now in
    let d : Patterns = dictionary_view c.args.dictionary.now in
    let counted = subst (λ (p : GrayScale). CountsWithin (price_of_image p h.bytes) c.skip_mask.new.steps c.whole_image_rows.new.steps) c.cell_params-params.ensures.params c.whole_image_rows.ensures.paid in
    counted-paid h d c.args.steps.now c.skip_mask.new.steps c.whole_image_rows.new.steps c.in_ok-skip.ensures.steps counted

pub returns-in_err-skip-clause-paid : goal.returns-in_err-skip-clause-paid
returns-in_err-skip-clause-paid g c = mask-paid (header_view c.args.header.now) (dictionary_view c.args.dictionary.now) c.args.steps.now c.skip_mask.new.steps c.in_err-skip.ensures.stopped
