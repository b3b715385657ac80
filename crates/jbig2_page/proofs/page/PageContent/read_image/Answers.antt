use Rattle.std.proofs.Common.{ap, arith}
use Rattle.jbig2_base.proofs.MadeLemmas.{words-same}
use Rattle.jbig2_base.proofs.Prices.{price-same}
use Rattle.jbig2_steps.specs.Work.{price_of_bitmap}
use Rattle.jbig2_steps.proofs.WorkLemmas.{paid-limit}
use Rattle.jbig2_text.proofs.PayingLemmas.{beside-worth, twice-paid}
use Rattle.jbig2_page.specs.Page.{ReadPage}
use Rattle.jbig2_page.proofs.Paying.{counts-paid}
use Rattle.jbig2_page.proofs.page.PageContent.read_image.Goals as goal

pub returns-in_err-canvas-clause-limit : goal.returns-in_err-canvas-clause-limit
returns-in_err-canvas-clause-limit g c = paid-limit c.args.work.now c.draw_new_canvas.new.work c.draw_new_canvas.ensures.paid

pub returns-clause-paid : goal.returns-clause-paid
returns-clause-paid g c =
    let page = c.args.self.now.initial_page in
    let inside = c.self.inside.initial_page in
    let same = price-same inside.width page.width inside.height page.height (ap (λ (p : ReadPage). p.initial_page.width) c.self.view_is) (ap (λ (p : ReadPage). p.initial_page.height) c.self.view_is) in
    counts-paid c.args.work.now c.draw_new_canvas.new.work c.write_image.new.steps (price_of_bitmap inside.width inside.height) (omega (arith, c.in_ok-canvas.ensures.ahead, same, twice-paid page.width page.height)) (omega (arith, c.write_image.ensures.paid))

pub returns-clause-taken : goal.returns-clause-taken
returns-clause-taken g c =
    let page = c.args.self.now.initial_page in
    let inside = c.self.inside.initial_page in
    let same = price-same inside.width page.width inside.height page.height (ap (λ (p : ReadPage). p.initial_page.width) c.self.view_is) (ap (λ (p : ReadPage). p.initial_page.height) c.self.view_is) in
    let counted = beside-worth c.draw_new_canvas.new.work c.write_image.new.steps _ _ c.write_image.ensures.paid in
    let words = words-same inside.width page.width inside.height page.height (ap (λ (p : ReadPage). p.initial_page.width) c.self.view_is) (ap (λ (p : ReadPage). p.initial_page.height) c.self.view_is) in
    omega (arith, c.in_ok-canvas.ensures.ahead, same, counted, words)

pub returns-clause-limit : goal.returns-clause-limit
returns-clause-limit g c = paid-limit c.args.work.now _ (returns-clause-paid g c)
