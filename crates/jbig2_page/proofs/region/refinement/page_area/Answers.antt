use Rattle.std.proofs.Common.{[], arith, inl}
use Rattle.std.proofs.lemmas.Result.{err_from_is_err_and}
use Rattle.jbig2_base.proofs.MadeLemmas.{made-paid}
use Rattle.jbig2_base.proofs.Prices.{copied-paid}
use Rattle.jbig2_base.specs.Grid.{Grid}
use Rattle.jbig2_steps.proofs.WorkLemmas.{counts-worth}
use Rattle.jbig2_page.proofs.PageArea.{area-made, area-refused}
use Rattle.jbig2_page.proofs.region.refinement.page_area.Goals as goal

pub returns-in_err-part-clause-value : goal.returns-in_err-part-clause-value
returns-in_err-part-clause-value g c =
    let e = err_from_is_err_and c.from_residual.result c.from_residual.ensures.1 in
    rw (e.1, e.2) (inl (area-refused c.args.page.now c.args.region_info.now _ c.requires.columns c.requires.rows c.in_err-part.ensures.value))

pub returns-clause-value : goal.returns-clause-value
returns-clause-value g c = area-made c.args.page.now _ c.args.region_info.now c.requires.columns c.requires.rows (omega arith) (omega arith) c.in_ok-part.ensures.value

pub returns-clause-paid : goal.returns-clause-paid
returns-clause-paid g c =
    let part : Grid = record { width = c.args.region_info.now.width; height = c.args.region_info.now.height; pixels = [] } in
    counts-worth c.args.work.now c.part.new.steps _ (omega (arith, copied-paid part c.args.work.now.steps c.part.new.steps c.in_ok-part.ensures.steps))

pub returns-in_err-part-clause-paid : goal.returns-in_err-part-clause-paid
returns-in_err-part-clause-paid g c =
    let info = c.args.region_info.now in
    counts-worth c.args.work.now c.part.new.steps _ (made-paid info.width info.height c.args.work.now.steps c.part.new.steps c.in_err-part.ensures.refused)
