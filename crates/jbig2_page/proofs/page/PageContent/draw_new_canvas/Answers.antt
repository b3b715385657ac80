use Rattle.std.proofs.Common.{subst}
use Rattle.std.proofs.lemmas.Result.{err_from_is_err_and}
use Rattle.std.specs.Prelude.{IfErr}
use Rattle.jbig2_page.specs.Causes.{IsFromInput}
use Rattle.jbig2_page.specs.Page.{ReadPage}
use Rattle.jbig2_page.proofs.DrawingFromInput.{grid-returned}
use Rattle.jbig2_page.proofs.DrawnPages.{grid-is, grid-refused}
use Rattle.jbig2_page.proofs.page.PageContent.draw_new_canvas.Goals as goal

pub returns-clause-value : goal.returns-clause-value
returns-clause-value g c = grid-is c.args.self.now c.draw_onto.new.canvas c.in_ok-draw_onto.ensures.drawing

pub returns-in_err-draw_onto-clause-value : goal.returns-in_err-draw_onto-clause-value
returns-in_err-draw_onto-clause-value g c =
    let e = err_from_is_err_and c.from_residual-in_err-draw_onto.result c.from_residual-in_err-draw_onto.ensures.1 in
    rw (e.1, e.2) (grid-refused c.args.self.now c.in_err-draw_onto.field-0.0 c.in_err-draw_onto.ensures.drawing)

pub returns-in_err-draw_onto-clause-errors : goal.returns-in_err-draw_onto-clause-errors
returns-in_err-draw_onto-clause-errors g c =
    let e = err_from_is_err_and c.from_residual-in_err-draw_onto.result c.from_residual-in_err-draw_onto.ensures.1 in
    let known : IfErr c.args.self.now.globals IsFromInput = subst (λ (p : ReadPage). IfErr p.globals IsFromInput) c.self.view_is c.self.invariant.1 in
    rw (e.1, e.2) (grid-returned c.args.self.now c.in_err-draw_onto.field-0.0 known (grid-refused c.args.self.now c.in_err-draw_onto.field-0.0 c.in_err-draw_onto.ensures.drawing))
