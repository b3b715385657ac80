use Rattle.std.proofs.Common.{Ok}
use Rattle.std.proofs.lemmas.Result.{err_from_is_err_and}
use Rattle.jbig2_framing.specs.inner.SegmentViews.{segment_views}
use Rattle.jbig2_framing.proofs.FromInput.{from_input-sequential}
use Rattle.jbig2_page.proofs.FromInput.{from_input-named}
use Rattle.jbig2_page.proofs.DrawingFromInput.{returned, returned_error}
use Rattle.jbig2_page.specs.Globals.{nothing_shared}
use Rattle.jbig2_page.proofs.globals.GlobalsContent.read.Goals as goal

pub returns-clause-errors : goal.returns-clause-errors
returns-clause-errors g c = returned _ c.of_segments.result _ (from_input-named c.args.reading (segment_views c.deref.result.now) (nothing_shared c.in_ok-list.list.cut_off)) c.of_segments.ensures.value

pub returns-in_err-list-clause-errors : goal.returns-in_err-list-clause-errors
returns-in_err-list-clause-errors g c =
    let e = err_from_is_err_and c.from_residual-in_err-list.result c.from_residual-in_err-list.ensures.1 in
    rw (e.1, e.2) (returned_error _ _ (from_input-sequential _ _) c.in_err-list.ensures.value)

pub returns-in_err-sort_segments-clause-errors : goal.returns-in_err-sort_segments-clause-errors
returns-in_err-sort_segments-clause-errors g c =
    let e = err_from_is_err_and c.from_residual-in_err-sort_segments.result c.from_residual-in_err-sort_segments.ensures.1 in
    rw (e.1, e.2) (returned_error (Ok _) _ tt c.in_err-sort_segments.ensures.value)
