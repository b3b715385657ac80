use Rattle.std.proofs.Common.{arith}
use Rattle.jbig2_text.proofs.PayingLemmas.{twice-paid}
use Rattle.jbig2_page.proofs.page.PageContent.draw_with.Goals as goal

pub returns-in_err-begin-clause-paid : goal.returns-in_err-begin-clause-paid
returns-in_err-begin-clause-paid g c =
    let page = c.self.inside.initial_page in
    omega (arith, c.in_ok-pay_bitmaps.ensures.taken, c.begin.ensures.paid, twice-paid page.width page.height)

pub returns-in_err-draw_segments-clause-paid : goal.returns-in_err-draw_segments-clause-paid
returns-in_err-draw_segments-clause-paid g c =
    let page = c.self.inside.initial_page in
    omega (arith, c.in_ok-pay_bitmaps.ensures.taken, c.begin.ensures.paid, c.draw_segments.ensures.paid, twice-paid page.width page.height)

pub returns-clause-paid : goal.returns-clause-paid
returns-clause-paid g c =
    let page = c.self.inside.initial_page in
    omega (arith, c.in_ok-pay_bitmaps.ensures.taken, c.begin.ensures.paid, c.draw_segments.ensures.paid, twice-paid page.width page.height)
