use Rattle.jbig2_text.proofs.PayingLemmas.{made-worth}
use Rattle.jbig2_page.proofs.drawing.canvas.Canvas.begin.Goals as goal

pub returns-in_err-reinitialize-clause-paid : goal.returns-in_err-reinitialize-clause-paid
returns-in_err-reinitialize-clause-paid g c = made-worth c.args.work.now c.args.initial_page.now.width c.args.initial_page.now.height c.reinitialize.new.steps c.reinitialize.ensures.steps

pub returns-clause-paid : goal.returns-clause-paid
returns-clause-paid g c = made-worth c.args.work.now c.args.initial_page.now.width c.args.initial_page.now.height c.reinitialize.new.steps c.reinitialize.ensures.steps
