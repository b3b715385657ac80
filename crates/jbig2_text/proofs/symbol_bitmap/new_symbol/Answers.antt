use Rattle.std.proofs.Common.{arith}
use Rattle.jbig2_text.proofs.PayingLemmas.{made-worth, new-taken, twice-paid}
use Rattle.jbig2_text.proofs.symbol_bitmap.new_symbol.Goals as goal

pub returns-clause-paid : goal.returns-clause-paid
returns-clause-paid g c =
    omega (arith, made-worth c.pay_bitmap.new.self c.args.width c.args.height c.new.new.steps c.new.ensures.steps, c.in_ok-pay_bitmap.ensures.taken, twice-paid c.args.width c.args.height)

pub returns-clause-taken : goal.returns-clause-taken
returns-clause-taken g c =
    new-taken c.new.result c.args.width c.args.height _ _ c.new.ensures.value (omega (arith, made-worth c.pay_bitmap.new.self c.args.width c.args.height c.new.new.steps c.new.ensures.steps, c.in_ok-pay_bitmap.ensures.taken))
