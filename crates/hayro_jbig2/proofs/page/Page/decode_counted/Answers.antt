use Rattle.std.proofs.Common.{arith}
use Rattle.hayro_jbig2.proofs.Limits.{left-of}
use Rattle.hayro_jbig2.proofs.page.Page.decode_counted.Goals as goal

pub returns-clause-left : goal.returns-clause-left
returns-clause-left g c =
    left-of 0 c.args.context.now c.decode_within.new.context c.new_work-work.result c.decode_within.new.work c.decode_within.ensures.left c.new_work-work.ensures.steps c.new_work-work.ensures.left
    (omega (arith, c.decode_within.ensures.paid))
