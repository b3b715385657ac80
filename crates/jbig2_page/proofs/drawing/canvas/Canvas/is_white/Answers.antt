use Rattle.std.proofs.Common.{ap, ◌≡◌, Bool, false, subst}
use Rattle.jbig2_base.specs.Grid.{Grid}
use Rattle.jbig2_page.specs.Page.{Drawing}
use Rattle.jbig2_page.specs.inner.WholePages.{IsBlankPage}
use Rattle.jbig2_page.proofs.drawing.canvas.Canvas.is_white.Goals as goal

pub returns-clause-blank : goal.returns-clause-blank
returns-clause-blank g c = λ is.
    let page : Grid = c.self.inside.bitmap in
    let same : page ≡ c.args.self.now.grid = ap (λ (d : Drawing). d.grid) c.self.view_is in
    subst (λ (p : Grid). IsBlankPage false p) same (subst (λ (b : Bool). IsBlankPage b page) c.if-self.false (c.self.invariant c.if-not-self.false))
