use Rattle.std.proofs.Common.{arith}
use Rattle.jbig2_base.proofs.MadeLemmas.{made-paid}
use Rattle.jbig2_halftone.proofs.halftone.decode.Goals as goal

pub returns-in_err-bitmap-clause-paid : goal.returns-in_err-bitmap-clause-paid
returns-in_err-bitmap-clause-paid g c =
    let info = c.args.header.now.region_info in
    omega (arith, made-paid info.width info.height c.args.steps.now c.new_with.new.steps c.new_with.ensures.steps)

pub returns-in_err-decode_into-clause-paid : goal.returns-in_err-decode_into-clause-paid
returns-in_err-decode_into-clause-paid g c =
    let info = c.args.header.now.region_info in
    omega (arith, made-paid info.width info.height c.args.steps.now c.new_with.new.steps c.new_with.ensures.steps, c.decode_into.ensures.paid)

pub returns-clause-paid : goal.returns-clause-paid
returns-clause-paid g c =
    let info = c.args.header.now.region_info in
    omega (arith, made-paid info.width info.height c.args.steps.now c.new_with.new.steps c.new_with.ensures.steps, c.decode_into.ensures.paid)
