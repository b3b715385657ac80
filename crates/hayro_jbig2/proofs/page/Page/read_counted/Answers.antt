use Rattle.std.proofs.Common.{◌+◌, ◌*◌, ◌≤◌, arith, subst}
use Rattle.std.specs.Prelude.{IfOk}
use Rattle.jbig2_page.specs.Page.{ReadPage}
use Rattle.jbig2_steps.specs.Work.{budget, price_of_bitmap}
use Rattle.hayro_jbig2.proofs.Limits.{limit-taken, limit-taken-by}
use Rattle.hayro_jbig2.proofs.page.Page.read_counted.Goals as goal

pub returns-clause-limit : goal.returns-clause-limit
returns-clause-limit g c =
    limit-taken c.args.limit.now c.end.new.self c.counter-work.result c.read_into-read.new.work 0 c.end.ensures c.counter-work.ensures.steps c.counter-work.ensures.left
    (omega (arith, c.read_into-read.ensures.paid))

pub returns-clause-taken : goal.returns-clause-taken
returns-clause-taken g c =
    let page = c.args.self.now.initial_page in
    limit-taken-by c.read_into-read.result c.args.limit.now c.end.new.self c.counter-work.result c.read_into-read.new.work (price_of_bitmap page.width page.height) c.end.ensures c.counter-work.ensures.steps c.counter-work.ensures.left
    (subst (λ (p : ReadPage). IfOk c.read_into-read.result (λ _. budget c.read_into-read.new.work + 32 * price_of_bitmap p.initial_page.width p.initial_page.height ≤ budget c.counter-work.result)) c.self.view_is c.read_into-read.ensures.taken)
