use Rattle.jbig2_steps.proofs.WorkLemmas.{taken-least}
use Rattle.jbig2_steps.proofs.work.Work.pay_bitmap.Goals as goal

pub returns-clause-least : goal.returns-clause-least
returns-clause-least g c = taken-least c.pay.result _ _ c.args.width c.args.height c.price_of_bitmap.result c.price_of_bitmap.ensures c.pay.ensures.taken
