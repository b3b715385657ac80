use Rattle.std.proofs.Common.{subst}
use Rattle.std.specs.Prelude.{IfErr}
use Rattle.jbig2_page.specs.Causes.{IsFromInput}
use Rattle.jbig2_page.specs.Page.{ReadPage}
use Rattle.jbig2_page.proofs.DrawingFromInput.{drawn-returned}
use Rattle.jbig2_steps.proofs.WorkLemmas.{paid-limit}
use Rattle.jbig2_page.proofs.page.PageContent.draw_onto.Goals as goal

pub returns-clause-limit : goal.returns-clause-limit
returns-clause-limit g c = paid-limit c.args.work.now c.draw_with_globals.new.work c.draw_with_globals.ensures.paid

pub returns-clause-errors : goal.returns-clause-errors
returns-clause-errors g c = drawn-returned _ c.draw_with_globals.result c.args.self.now (subst (λ (p : ReadPage). IfErr p.globals IsFromInput) c.self.view_is c.self.invariant.1) c.draw_with_globals.ensures.value
