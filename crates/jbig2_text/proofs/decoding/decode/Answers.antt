use Rattle.std.proofs.Common.{arith}
use Rattle.jbig2_text.proofs.PayingLemmas.{made-worth, twice-paid}
use Rattle.jbig2_text.proofs.decoding.decode.Goals as goal

pub returns-in_err-bitmap-clause-paid : goal.returns-in_err-bitmap-clause-paid
returns-in_err-bitmap-clause-paid g c =
    let info = c.args.header.now.region_info in
    omega (arith, made-worth c.pay_bitmap.new.self info.width info.height c.new_with.new.steps c.new_with.ensures.steps, c.in_ok-pay_bitmap.ensures.taken, twice-paid info.width info.height)

pub returns-in_err-decode_into-clause-paid : goal.returns-in_err-decode_into-clause-paid
returns-in_err-decode_into-clause-paid g c =
    let info = c.args.header.now.region_info in
    omega (arith, made-worth c.pay_bitmap.new.self info.width info.height c.new_with.new.steps c.new_with.ensures.steps, c.in_ok-pay_bitmap.ensures.taken, twice-paid info.width info.height, c.decode_into.ensures.paid)

pub returns-clause-paid : goal.returns-clause-paid
returns-clause-paid g c =
    let info = c.args.header.now.region_info in
    omega (arith, made-worth c.pay_bitmap.new.self info.width info.height c.new_with.new.steps c.new_with.ensures.steps, c.in_ok-pay_bitmap.ensures.taken, twice-paid info.width info.height, c.decode_into.ensures.paid)
