use Rattle.std.proofs.Common.{arith}
use Rattle.jbig2_text.proofs.PayingLemmas.{twice-paid}
use Rattle.jbig2_symbol.proofs.aggregates.put_together.Goals as goal

pub returns-in_err-draw_instances_by-clause-paid : goal.returns-in_err-draw_instances_by-clause-paid
returns-in_err-draw_instances_by-clause-paid g c =
    let s = c.in_ok-symbol.symbol in
    omega (arith, c.in_ok-symbol.ensures.taken, c.draw_instances_by.ensures.paid, twice-paid s.width s.height)

pub returns-clause-paid : goal.returns-clause-paid
returns-clause-paid g c =
    let s = c.in_ok-symbol.symbol in
    omega (arith, c.in_ok-symbol.ensures.taken, c.draw_instances_by.ensures.paid, twice-paid s.width s.height)
