use Rattle.std.proofs.Common.{rules, Err}
use Rattle.std.proofs.lemmas.Result.{err_from_is_err_and}
use Rattle.jbig2_framing.specs.PageInfo.{initial_page_by}
use Rattle.jbig2_framing.specs.declared.page_info.InitialPage.{InitialPage}
use Rattle.jbig2_framing.specs.inner.SegmentViews.{segment_views}
use Rattle.jbig2_base.proofs.CauseSteps.{err-answers}
use Rattle.jbig2_framing.proofs.InitialCauses.{initial_page_by_cause}
use Rattle.jbig2_framing.proofs.page_info.InitialPage.with_height.Goals as goal

pub returns-in_err-height-clause-causes : goal.returns-in_err-height-clause-causes
returns-in_err-height-clause-causes g c =
    let e = err_from_is_err_and c.from_residual-in_err-height.result c.from_residual-in_err-height.ensures.1 in
    rw (e.1, e.2) (initial_page_by_cause c.args.known_height (segment_views c.args.segments.now) (Err c.in_err-height.field-0.0) (search rules))

pub returns-clause-causes : goal.returns-clause-causes
returns-clause-causes g c =
    initial_page_by_cause c.args.known_height (segment_views c.args.segments.now) c.initial_page_with.result
    (err-answers (λ (page : InitialPage). page) c.initial_page_with.result (initial_page_by c.args.known_height (segment_views c.args.segments.now)) (search rules))

pub returns-in_err-first-clause-causes : goal.returns-in_err-first-clause-causes
returns-in_err-first-clause-causes g c = initial_page_by_cause c.args.known_height (segment_views c.args.segments.now) _ (search rules)

pub returns-in_err-information-clause-causes : goal.returns-in_err-information-clause-causes
returns-in_err-information-clause-causes g c = initial_page_by_cause c.args.known_height (segment_views c.args.segments.now) _ (search rules)
