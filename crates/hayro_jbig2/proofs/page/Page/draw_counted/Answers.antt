use Rattle.std.proofs.Common.{arith}
use Rattle.jbig2_steps.specs.Work.{paid_words, price_of_bitmap}
use Rattle.hayro_jbig2.proofs.Limits.{left-drawn, left-of}
use Rattle.hayro_jbig2.proofs.page.Page.draw_counted.Goals as goal

pub returns-clause-left : goal.returns-clause-left
returns-clause-left g c =
    left-of 0 c.args.context.now c.draw_within.new.context c.new_work-work.result c.draw_within.new.work c.draw_within.ensures.left c.new_work-work.ensures.steps c.new_work-work.ensures.left
    (omega (arith, c.draw_within.ensures.paid))

pub returns-clause-taken : goal.returns-clause-taken
returns-clause-taken g c =
    let page = c.args.self.now.initial_page in
    left-drawn (paid_words page.width page.height) (price_of_bitmap page.width page.height) c.draw_within.result c.args.context.now c.draw_within.new.context c.new_work-work.result c.draw_within.new.work c.draw_within.ensures.left c.new_work-work.ensures.steps c.new_work-work.ensures.left
    c.draw_within.ensures.ahead
