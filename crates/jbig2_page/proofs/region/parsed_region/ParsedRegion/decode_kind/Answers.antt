use Rattle.std.proofs.Common.{◌≡◌, ◌∙◌, ap, false, pos, refl, subst, sym, Ok, Result, arith}
use Rattle.jbig2_base.specs.Combination.{combined_grid}
use Rattle.jbig2_base.specs.Grid.{Grid, blank}
use Rattle.jbig2_base.specs.declared.bitmap.operator.CombinationOperator.TheVariants.{Replace}
use Rattle.jbig2_base.specs.declared.error.DecodeError.{DecodeError}
use Rattle.jbig2_page.specs.declared.region.parsed_region.ParsedRegion.{ParsedRegion}
use Rattle.jbig2_page.specs.inner.ParsedRegions.{info_of, initial_of}
use Rattle.jbig2_page.proofs.Direct.{combined-pixels}
use Rattle.jbig2_steps.proofs.WorkLemmas.{counts-worth}
use Rattle.jbig2_text.proofs.PayingLemmas.{beside-worth}
use Rattle.jbig2_base.proofs.Prices.{combined-paid}
use Rattle.jbig2_page.proofs.region.parsed_region.ParsedRegion.decode_kind.Goals as goal

pub returns-in_ok-alloc-in-Halftone-clause-paid : goal.returns-in_ok-alloc-in-Halftone-clause-paid
returns-in_ok-alloc-in-Halftone-clause-paid g c = rw c.in-Halftone.is (let counted = counts-worth c.args.work.now c.decode_into-in-Halftone.new.steps _ c.decode_into-in-Halftone.ensures.paid in omega (arith, counted))

pub returns-in-Generic-clause-paid : goal.returns-in-Generic-clause-paid
returns-in-Generic-clause-paid g c = rw c.in-Generic.is (beside-worth c.args.work.now c.decode_into-in-Generic.new.steps _ _ c.decode_into-in-Generic.ensures.paid)

pub returns-in-Refinement-clause-paid : goal.returns-in-Refinement-clause-paid
returns-in-Refinement-clause-paid g c = rw c.in-Refinement.is (beside-worth c.args.work.now c.decode_into-in-Refinement.new.steps _ _ c.decode_into-in-Refinement.ensures.paid)

pub returns-in-PageRefinement-clause-paid : goal.returns-in-PageRefinement-clause-paid
returns-in-PageRefinement-clause-paid g c = rw c.in-PageRefinement.is (beside-worth c.args.work.now c.decode_into-in-PageRefinement.new.steps _ _ c.decode_into-in-PageRefinement.ensures.paid)

pub returns-in-Part-clause-value : goal.returns-in-Part-clause-value
returns-in-Part-clause-value g c =
    let part = c.in-Part.region.bitmap in
    let coloured = subst (λ (r : ParsedRegion _). c.args.bitmap.now ≡ blank (info_of r).width (info_of r).height (initial_of r)) c.in-Part.is c.requires.coloured in
    rw c.in-Part.is
    (ap (λ (q : Grid). let made : Result Grid DecodeError = Ok q in made)
    (sym (c.combine.ensures.value
    ∙ ap (λ (q : Grid). combined_grid Replace q part (pos 0) (pos 0)) coloured
    ∙ combined-pixels Replace false part refl)))

pub returns-in-Part-clause-paid : goal.returns-in-Part-clause-paid
returns-in-Part-clause-paid g c = rw c.in-Part.is (beside-worth c.args.work.now c.combine.new.steps _ _ (combined-paid c.args.bitmap.now c.in-Part.region.bitmap (pos 0) (pos 0) c.args.work.now.steps c.combine.new.steps c.combine.ensures.steps))
