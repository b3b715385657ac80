use Rattle.std.proofs.Common.{List, ℕ, Result, Ok, ◌∙◌, ap, sym}
use Rattle.std.proofs.lemmas.Result.{err_from_is_err_and}
use Rattle.jbig2_base.specs.declared.error.DecodeError.{DecodeError}
use Rattle.jbig2_page.proofs.DrawnPages.{packed-drawn, packed-refused}
use Rattle.hayro_jbig2.proofs.page.Page.draw.Goals as goal

pub returns-clause-value : goal.returns-clause-value
returns-clause-value g c =
    packed-drawn c.args.self.now c.draw_in.new.context.drawing.grid c.in_ok-draw_in.ensures.value
    ∙ ap (λ (rows : List ℕ). let r : Result (List ℕ) DecodeError = Ok rows in r) (sym c.drawn_page.ensures)

pub returns-in_err-draw_in-clause-value : goal.returns-in_err-draw_in-clause-value
returns-in_err-draw_in-clause-value g c =
    let e = err_from_is_err_and c.from_residual.result c.from_residual.ensures.1 in
    rw (e.1, e.2) (packed-refused c.args.self.now c.in_err-draw_in.field-0.0 c.in_err-draw_in.ensures.value)
