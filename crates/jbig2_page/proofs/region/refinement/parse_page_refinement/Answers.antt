use Rattle.std.proofs.Common.{◌≡◌, Err, inl, inr, ⊎_elim, subst, sym}
use Rattle.std.proofs.lemmas.Result.{err_from_is_err_and}
use Rattle.jbig2_base.specs.declared.error.DecodeError.TheVariants.{OutOfMemory}
use Rattle.jbig2_region.specs.inner.RefinementHeaderViews.{header_view}
use Rattle.jbig2_page.specs.inner.PageViews.{near_area}
use Rattle.jbig2_page.proofs.Direct.{page-refined}
use Rattle.jbig2_page.proofs.PageArea.{area-far, area-near}
use Rattle.jbig2_page.specs.inner.ParsedRegions.{DecodesTo}
use Rattle.jbig2_region.specs.RegionInfo.{PlacedRegion}
use Rattle.jbig2_region.specs.WholeRows.{refined_part}
use Rattle.jbig2_region.specs.inner.RegionViews.{region_view}
use Rattle.jbig2_page.proofs.region.refinement.parse_page_refinement.Goals as goal

pub returns-in_err-area-clause-value : goal.returns-in_err-area-clause-value
returns-in_err-area-clause-value g c =
    let e = err_from_is_err_and c.from_residual-in_err-area.result c.from_residual-in_err-area.ensures.1 in
    let error = c.in_err-area.field-0.0 in
    rw (e.1, e.2)
    (⊎_elim (λ (memory : error ≡ OutOfMemory). inl memory)
    (λ (far : near_area c.args.references.now.page.now c.args.header.region_info ≡ Err error).
    inr (area-far c.args.is_partial (header_view c.args.header) c.args.references.now.page.now error far)) c.in_err-area.ensures.value)

pub returns-then-is_partial-clause-value : goal.returns-then-is_partial-clause-value
returns-then-is_partial-clause-value g c =
    let h = header_view c.args.header in
    let area = region_view c.in_ok-area.area in
    let same = area-near c.args.references.now.page.now h.region_info area c.in_ok-area.ensures.value in
    rw c.if-is_partial.true
    (subst (λ (from : PlacedRegion). DecodesTo c.refined_part.result (refined_part h from)) (sym same) c.refined_part.ensures.value)

pub returns-clause-value : goal.returns-clause-value
returns-clause-value g c = rw c.if-is_partial.false (page-refined c.args.header c.args.references.now.page.now c.in_ok-area.area c.requires.parsed c.in_ok-area.ensures.value)
