use Rattle.std.proofs.Common.{Ok, inr}
use Rattle.std.proofs.lemmas.Result.{err_from_is_err_and}
use Rattle.jbig2_framing.proofs.FromInput.{from_input-sequential}
use Rattle.jbig2_page.proofs.FromInput.{from_input-beginning}
use Rattle.jbig2_page.proofs.DrawingFromInput.{returned_error}
use Rattle.jbig2_page.proofs.Sides.{blank_sides}
use Rattle.jbig2_page.proofs.page.PageContent.read.Goals as goal

pub invariant_of-result : goal.invariant_of-result
invariant_of-result g c = (blank_sides _ _ _ c.in_ok-initial_page.ensures.value, tt)

pub returns-in_err-list-clause-errors : goal.returns-in_err-list-clause-errors
returns-in_err-list-clause-errors g c =
    let e = err_from_is_err_and c.from_residual.result c.from_residual.ensures.1 in
    rw (e.1, e.2) (returned_error _ _ (from_input-sequential _ _) c.in_err-list.ensures.value)

pub returns-in_err-sort_segments-clause-errors : goal.returns-in_err-sort_segments-clause-errors
returns-in_err-sort_segments-clause-errors g c =
    let e = err_from_is_err_and c.from_residual-in_err-sort_segments.result c.from_residual-in_err-sort_segments.ensures.1 in
    rw (e.1, e.2) (returned_error (Ok _) _ tt c.in_err-sort_segments.ensures.value)

pub returns-in_err-initial_page-clause-errors : goal.returns-in_err-initial_page-clause-errors
returns-in_err-initial_page-clause-errors g c =
    let e = err_from_is_err_and c.from_residual-in_err-initial_page.result c.from_residual-in_err-initial_page.ensures.1 in
    rw (e.1, e.2) (returned_error _ _ (from_input-beginning _ _) (inr c.in_err-initial_page.ensures.value))
