use Rattle.std.proofs.Common.{arith}
use Rattle.std.proofs.Common.{subst}
use Rattle.std.specs.Prelude.{IfErr}
use Rattle.jbig2_steps.specs.Work.{price_of_bitmap}
use Rattle.jbig2_steps.proofs.WorkLemmas.{paid-limit}
use Rattle.jbig2_page.specs.Causes.{IsFromInput}
use Rattle.jbig2_page.specs.Page.{ReadPage}
use Rattle.jbig2_page.proofs.DrawingFromInput.{decoded-returned}
use Rattle.jbig2_page.proofs.DrawnPages.{sent, unsent}
use Rattle.jbig2_text.proofs.PayingLemmas.{twice-paid}
use Rattle.jbig2_page.proofs.Paying.{counts-paid, page-price}
use Rattle.jbig2_page.proofs.page.PageContent.decode_onto.Goals as goal

pub returns-in-Ok-clause-calls : goal.returns-in-Ok-clause-calls
returns-in-Ok-clause-calls g c = sent g.D.Decoder.conduct c.args.self.now c.draw_onto.new.canvas c.page.result.now c.push_bitmap.result c.args.decoder.now c.push_bitmap.new.decoder c.in-Ok.ensures.drawing c.page.ensures c.push_bitmap.ensures.calls

pub returns-in-Err-clause-calls : goal.returns-in-Err-clause-calls
returns-in-Err-clause-calls g c = unsent g.D.Decoder.conduct c.args.self.now c.in-Err.error c.args.decoder.now c.in-Err.ensures.drawing

pub returns-in-Ok-clause-paid : goal.returns-in-Ok-clause-paid
returns-in-Ok-clause-paid g c =
    let same = page-price c.args.self.now c.draw_onto.new.canvas c.page.result.now c.in-Ok.ensures.drawing c.page.ensures in
    let page = c.args.self.now.initial_page in
    counts-paid c.args.work.now c.draw_onto.new.work c.push_bitmap.new.steps (price_of_bitmap c.page.result.now.width c.page.result.now.height) (omega (arith, c.in-Ok.ensures.ahead, same, twice-paid page.width page.height)) (omega (arith, c.push_bitmap.ensures.paid))

pub returns-in-Ok-clause-limit : goal.returns-in-Ok-clause-limit
returns-in-Ok-clause-limit g c = paid-limit c.args.work.now _ (returns-in-Ok-clause-paid g c)

pub returns-in-Ok-clause-errors : goal.returns-in-Ok-clause-errors
returns-in-Ok-clause-errors g c =
    decoded-returned g.D.Decoder.conduct c.args.self.now c.push_bitmap.result c.args.decoder.now c.push_bitmap.new.decoder (subst (λ (p : ReadPage). IfErr p.globals IsFromInput) c.self.view_is c.self.invariant.1) (returns-in-Ok-clause-calls g c)
